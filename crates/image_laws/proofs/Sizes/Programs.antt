-- The compiled code of a program of integers has no more bytes than its nodes allow.
use Rattle.std.proofs.Common.{◌≡◌, ℕ, suc, ◌+◌, ◌*◌, ◌≤◌, true, false, List, [], ◌∷◌, length, map}
use Rattle.std.proofs.Common.{refl, sym, ap, ◌∙◌, arith}
use Rattle.std.specs.Prelude.{get_or}
use Rattle.std.specs.List.{list_all}
use Rattle.std.proofs.lemmas.Bool.{and_parts}
use Rattle.std.proofs.lemmas.List.{length-map}
use Rattle.addr_map.specs.Places.{MapSizes}
use Rattle.c_tree.specs.declared.expression.Kind.{Kind}
use Rattle.c_tree.specs.declared.expression.Kind.TheVariants.{Void}
use Rattle.c_tree.specs.Blocks.{all_of}
use Rattle.c_tree.specs.Programs.{Function, Program}
use Rattle.c_tree.specs.ValidProgram as valid
use Rattle.source_meaning.specs.Calls.{header_of}
use Rattle.tac_ir.specs.declared.function.CodeFunction.{CodeFunction}
use Rattle.tac_ir.specs.declared.function.Tac.{Tac}
use Rattle.tac_ir.specs.Meaning.{header_of_code}
use Rattle.c_lower.specs.Programs.{IsLowered}
use Rattle.program_lowering.specs.ProgramCode.Weights.{function_weight, functions_weight, program_weight}
use Rattle.program_lowering.specs.ProgramCode.Weights.{IsWeighed}
use Rattle.check_insert.specs.SameButChecks.{SameButChecks}
use Rattle.compiled_programs.specs.Programs.{is_integer_program, is_integer_function, is_integer_variable}
use Rattle.compiled_programs.specs.Programs.{are_integer_statements}
use Rattle.metadata_plan.specs.Part.{IsIntegerCode}
use Rattle.metadata_expansion.specs.Numbers.{AreAllSmall}
use Rattle.reg_plan.specs.declared.plan.FunctionPlan.{FunctionPlan}
use Rattle.machine_laws.specs.Segments.Segments.{code_bytes}
use Rattle.image_laws.specs.CodeSizes.Sizes.{most_below}
use Rattle.image_laws.specs.Images.Images.{flat_code}
use Rattle.image_laws.specs.Sizes.Nodes.{function_nodes, functions_nodes, program_nodes}
use Rattle.image_laws.proofs.Sizes.Words.{even_words, words, frame_words}
use Rattle.image_laws.proofs.Sizes.Statements.{no_block, each_light}
use Rattle.image_laws.proofs.Sizes.Checked.{weighs_the_same}
use Rattle.image_laws.proofs.Sizes.Functions.{program_words, frames}

-- ---- the text

text_frames : List Function → ℕ
text_frames [] = 0
text_frames (f ∷ fs) = frame_words f.parameters f.variables + text_frames fs

abbrev outside : valid.Inside
outside = record { may_break = false; may_continue = false }

body_valid : (p : Program) (n : ℕ) (f : Function) → valid.is_function p n f ≡ true
    → valid.are_statements (valid.function_scope p f) outside f.body ≡ true
body_valid p n f v = (and_parts _ _ (and_parts _ _ v).0).1

function_light : (p : Program) (n k : ℕ) (result : Kind) (f : Function) → valid.is_function p n f ≡ true
    → is_integer_function f ≡ true
    → frame_words f.parameters f.variables + function_weight result f (words k) ≤ 256 * function_nodes f
function_light p n k result f v i =
    let both = and_parts (list_all is_integer_variable (all_of f)) (are_integer_statements f.body) i in
    let h = each_light k (all_of f) (no_block k (all_of f) both.0) (valid.function_scope p f) outside f.body
    (body_valid p n f v) both.1 in
    omega (arith, h)

functions_light : (p : Program) (n k : ℕ) (results : List Kind) (fs : List Function)
    → valid.are_functions p n fs ≡ true
    → list_all is_integer_function fs ≡ true
    → text_frames fs + functions_weight results fs (words k) ≤ 256 * functions_nodes fs
unfolding text_frames
functions_light p n k results [] v i = omega arith
functions_light p n k results (f ∷ fs) v i =
    let parts = and_parts (valid.is_function p n f) (valid.are_functions p (suc n) fs) v in
    let both = and_parts (is_integer_function f) (list_all is_integer_function fs) i in
    omega (
      arith,
      function_light p n k (get_or results f.type_number Void) f parts.0 both.0,
      functions_light p (suc n) k results fs parts.1 both.1,
    )

program_light : (p : Program) (k : ℕ) → valid.is_valid_program p ≡ true → is_integer_program p ≡ true
    → text_frames p.functions + program_weight p (words k) ≤ 256 * functions_nodes p.functions
unfolding valid.is_valid_program is_integer_program
program_light p k v i =
    functions_light p 0 k _ p.functions (and_parts _ (valid.are_functions p 0 p.functions) (and_parts _ _ v).0).1
    (and_parts _ (list_all is_integer_function p.functions) i).1

-- ---- the code has its frames

same_frames : (m : MapSizes) (t : Tac) (few : m.budgets.calls ≤ 16777216) (count : length t.functions ≤ 4096)
    (integers : IsIntegerCode t) (small : AreAllSmall m t) (cs : List CodeFunction) (fs : List Function)
    → map header_of_code cs ≡ map header_of fs → frames m t few count integers small cs ≡ text_frames fs
unfolding text_frames frames
same_frames m t few count integers small [] [] e = refl
same_frames m t few count integers small [] (f ∷ fs) e = cc
same_frames m t few count integers small (c ∷ cs) [] e = cc
same_frames m t few count integers small (c ∷ cs) (f ∷ fs) e =
    let first : header_of_code c ≡ header_of f = cc in
    let others : map header_of_code cs ≡ map header_of fs = cc in
    let own = ap (λ h. frame_words h.parameters h.variables) first in
    omega (arith, own, same_frames m t few count integers small cs fs others)

-- ---- the law

pub bytes_of_nodes : (p : Program) (t r : Tac) (m : MapSizes) → valid.is_valid_program p ≡ true
    → is_integer_program p ≡ true → IsLowered p t → IsWeighed p t → SameButChecks t r → IsIntegerCode r
    → m.budgets.calls ≤ 16777216 → length p.functions ≤ 4096 → AreAllSmall m r → (plans : List FunctionPlan)
    → code_bytes m (flat_code m r) plans ≤ 4 * most_below (flat_code m r) (length (flat_code m r).functions)
    → code_bytes m (flat_code m r) plans ≤ 1024 * program_nodes p
bytes_of_nodes p t r m v i low weighed ins integers few functions small plans bytes =
    let headers = ins.tables.headers ∙ low.headers in
    let as_many = sym (length-map r.functions header_of_code) ∙ ap length headers ∙ length-map p.functions header_of in
    let count : length r.functions ≤ 4096 = omega (arith, as_many, functions) in
    let most = 256 * functions_nodes p.functions in
    let all = program_light p (suc most) v i in
    let limit = weighed.by (words (suc most)) (even_words (suc most)) in
    let same = weighs_the_same t.texts most 8 t r ins (omega (arith, all, limit)) in
    let own = program_light p 8 v i in
    let text = weighed.by (words 8) (even_words 8) in
    let total = program_words m r few count integers small t.texts in
    let frame = same_frames m r few count integers small r.functions p.functions headers in
    omega (arith, bytes, same, own, text, total, frame)
