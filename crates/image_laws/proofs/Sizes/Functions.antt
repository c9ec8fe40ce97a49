-- How many words functions and programs have at most.
use Rattle.std.proofs.Common.{◌≡◌, ℕ, zero, suc, ◌+◌, ◌-◌, ◌*◌, ◌^◌, ◌<◌, ◌≤◌, ◌==◌, Bool, true, false, List}
use Rattle.std.proofs.Common.{[], ◌∷◌, ◌++◌, length}
use Rattle.std.proofs.Common.{Option, Some, None, refl, ap, ◌∙◌, arith, ⊎_elim}
use Rattle.std.specs.Prelude.{slice_get, map, if◌then◌else◌}
use Rattle.std.proofs.lemmas.Bool.{and_parts, eqb-true, cases_lt}
use Rattle.std.proofs.lemmas.Option.{slice_get_within, same_Some}
use Rattle.addr_map.specs.Places.{MapSizes}
use Rattle.c_tree.specs.declared.program.Variable.{Variable}
use Rattle.tac_ir.specs.declared.instruction.Instruction.{Instruction}
use Rattle.tac_ir.specs.declared.function.CodeFunction.{CodeFunction}
use Rattle.tac_ir.specs.declared.function.Tac.{Tac}
use Rattle.tac_ir.specs.Meaning as code
use Rattle.flat_code.specs.declared.function.FlatFunction.{FlatFunction}
use Rattle.flat_code.specs.declared.function.FlatProgram.{FlatProgram}
use Rattle.flat_code.specs.declared.instruction.FlatInstruction.{FlatInstruction}
use Rattle.flat_code.specs.Calls.{function_in}
use Rattle.flat_code.specs.Meaning.{parameters_of, results_of}
use Rattle.metadata_plan.specs.Registers.{words_of, words_in}
use Rattle.metadata_plan.specs.Part.{takes, is_integer_kind, are_integers, IsIntegerCode}
use Rattle.metadata_plan.specs.Blocks.{block, zeros, zero_variables, prologue}
use Rattle.metadata_plan.specs.Laid.{jump, place_of, begin_code, laid_from, body_of, function_of, functions_of}
use Rattle.metadata_plan.specs.Laid.{entry_of, program_of}
use Rattle.metadata_plan.proofs.Numbers.{one_word, words_most, most_words_of}
use Rattle.metadata_expansion.specs.Homes.{homes}
use Rattle.metadata_expansion.specs.Numbers.{AreSmall, AreAllSmall}
use Rattle.metadata_plan.specs.OperatorLists.Operators.{operators}
use Rattle.flat_propagation.specs.Propagated.{propagated_function, propagated}
use Rattle.flat_propagation.proofs.Meaning.{parameters_same, results_same}
use Rattle.program_lowering.specs.ProgramCode.Weights.{codes_weight}
use Rattle.machine_laws.specs.Calls.Table.{source_count, row_address}
use Rattle.machine_laws.proofs.Calls.Table.{first_row, last_row, tails_length}
use Rattle.image_laws.specs.CodeSizes.Sizes.{constant_words}
use Rattle.image_laws.specs.CodeSizes.Sizes.{most_words, most_if, most_below}
use Rattle.image_laws.specs.Images.Images.{flat_code}
use Rattle.image_laws.proofs.CodeSizes.Blocks.{passed_most}
use Rattle.image_laws.proofs.Sizes.Words.{words, frame_words}
use Rattle.image_laws.proofs.Sizes.Numbers.{short_constant}
use Rattle.image_laws.proofs.Sizes.Propagated.{instruction_most, body_most, rewritten_words}
use Rattle.image_laws.proofs.Sizes.Operators.{words_append}
use Rattle.image_laws.proofs.Sizes.Blocks.{Calls, jump_words, zeroed_words, code_words}

-- ---- the functions of an expansion by number

function_at : (m : MapSizes) (t : Tac) (cs : List CodeFunction) (gs : List FlatFunction) (u : ℕ) (c : CodeFunction)
    → slice_get cs u ≡ Some c
    → slice_get (functions_of operators m t homes cs ++ gs) u ≡ Some (function_of operators m t c (homes c))
function_at m t [] gs u c at = cc
function_at m t (x ∷ cs) gs zero c at = ap (λ y. Some (function_of operators m t y (homes y))) (same_Some x c at)
function_at m t (x ∷ cs) gs (suc u) c at = function_at m t cs gs u c at

-- ---- parameters

words_many : (vs ws : List Variable) → are_integers (vs ++ ws) ≡ true → words_in vs ≡ length vs
words_many [] ws e = refl
words_many (v ∷ vs) ws e =
    let parts = and_parts _ (are_integers (vs ++ ws)) e in
    let kind = and_parts _ (is_integer_kind v.kind) parts.0 in
    omega (arith, one_word v.kind kind.1, words_many vs ws parts.1)

-- ---- what stands before the code

module _ (p : FlatProgram) (g : FlatFunction) where
  zeros_words : (r n : ℕ) → body_most p g (zeros r n) ≤ 5 * n
  zeros_words r zero = omega arith
  zeros_words r (suc n) =
      let h = zeros_words (r + 1) n in omega (arith, zeroed_words p g r, h)

  zero_words : (r : ℕ) (vs : List Variable) → body_most p g (zero_variables r vs) ≤ 25 * length vs
  zero_words r [] = omega arith
  zero_words r (v ∷ vs) =
      let own = if v.is_object then [] else zeros r (words_of v.kind) in
      let a = words_append p g own (zero_variables (r + words_of v.kind) vs) in
      let h = zero_words (r + words_of v.kind) vs in
      omega (arith, a, h, by v.is_object)
    where
      by : (b : Bool) → body_most p g (if b then [] else zeros r (words_of v.kind)) ≤ 25
      by true = omega arith
      by false = let z = zeros_words r (words_of v.kind) in omega (arith, z, most_words_of v.kind)

  begin_words : (put : Instruction → List FlatInstruction) (c : CodeFunction)
      → body_most p g (begin_code put (prologue c) c) ≤ 2 + 25 * length c.variables
  begin_words put c =
      let to = jump (length (prologue c)) (place_of put (prologue c) c c.entry) in
      let last = if c.entry + 1 == length c.code then [] else to ∷ [] in
      let a = words_append p g (prologue c) last in
      let h = zero_words (words_in c.parameters) c.variables in
      omega (
        arith,
        a,
        h,
        by (c.entry + 1 == length c.code) to
            (jump_words p g (length (prologue c)) (place_of put (prologue c) c c.entry)),
      )
    where
      by : (b : Bool) (j : FlatInstruction) → instruction_most p g j ≤ 2
          → body_most p g (if b then [] else j ∷ []) ≤ 2
      by true j h = omega arith
      by false j h = omega (arith, h)

-- the entry of a function stands low
row_low : (p : FlatProgram) (f : ℕ) → f < 4096 → row_address p f < 2 ^ 31 - 2 ^ 11
row_low p f few =
    let long = tails_length in
    ⊎_elim (λ lt. let e = first_row p f lt in omega arith) (λ le. let e = last_row p f le in omega arith)
    (cases_lt f (source_count p))

-- ---- functions

module _ (m : MapSizes) (t : Tac) (few : m.budgets.calls ≤ 16777216) (count : length t.functions ≤ 4096)
    (integers : IsIntegerCode t) (small : AreAllSmall m t) where
  abbrev expansion : FlatProgram
  expansion = program_of operators m t homes

  abbrev pub p : FlatProgram
  p = flat_code m t

  parameters_at : (f n : ℕ) (x : Option CodeFunction) → code.function_in t f ≡ x → takes x n ≡ true
      → parameters_of (function_in p f) ≤ n
  parameters_at f n None at e = cc
  parameters_at f n (Some c) at e =
      let there = parameters_same m expansion f
      ∙ ap parameters_of (function_at m t t.functions (entry_of m t ∷ []) f c at) in
      let same = eqb-true (length c.parameters) n e in
      let own = words_many c.parameters c.variables (integers.functions f c at).variables in
      omega (arith, there, same, own)

  results_at : (f n : ℕ) (x : Option CodeFunction) → code.function_in t f ≡ x → takes x n ≡ true
      → results_of (function_in p f) ≡ 1
  results_at f n None at e = cc
  results_at f n (Some c) at e =
      results_same m expansion f ∙ ap results_of (function_at m t t.functions (entry_of m t ∷ []) f c at)

  address_at : (f n : ℕ) (x : Option CodeFunction) → code.function_in t f ≡ x → takes x n ≡ true
      → constant_words (row_address p f) ≤ 2
  address_at f n None at e = cc
  address_at f n (Some c) at e =
      let below = slice_get_within t.functions f c at in
      short_constant (row_address p f) (row_low p f (omega (arith, below, count)))

  calls : Calls p m t
  calls = record {
    budget = few;
    address = λ f n e. address_at f n (code.function_in t f) refl e;
    parameters = λ f n e. parameters_at f n (code.function_in t f) refl e;
    gives = λ f n e. results_at f n (code.function_in t f) refl e;
  }

  function_words : (ts : List (List ℕ)) (c : CodeFunction) → AreSmall m t c
      → most_words p (propagated_function (function_of operators m t c (homes c)))
      ≤ frame_words c.parameters c.variables + codes_weight ts (c ∷ []) (words 8)
  function_words ts c s =
      let put = block operators m t c in
      let body = body_of put (prologue c) c in
      let g = propagated_function (function_of operators m t c (homes c)) in
      let begin = begin_words p g put c in
      let rest = code_words p g c m t calls refl ts c.code 0 s.words s.lines in
      let a = words_append p g (begin_code put (prologue c) c) (laid_from put (prologue c) c 0 c.code) in
      let b = rewritten_words p g body body 0 in
      omega (arith, begin, rest, a, b, words_most c.parameters, passed_most g 0 (words_in c.parameters))

  -- ---- all functions

  total : List FlatFunction → ℕ
  total [] = 0
  total (g ∷ gs) = most_if p (Some g) + total gs

  unfoldable pub frames : List CodeFunction → ℕ
  frames [] = 0
  frames (c ∷ cs) = frame_words c.parameters c.variables + frames cs

  total_words : (ts : List (List ℕ)) (cs : List CodeFunction)
      → ((u : ℕ) (c : CodeFunction) → slice_get cs u ≡ Some c → AreSmall m t c)
      → total (map propagated_function (functions_of operators m t homes cs ++ (entry_of m t ∷ [])))
      ≤ frames cs + codes_weight ts cs (words 8)
  unfolding total frames
  total_words ts [] h = omega arith
  total_words ts (c ∷ cs) h =
      let own = function_words ts c (h 0 c refl) in
      let rest = total_words ts cs (λ u d at. h (suc u) d at) in
      omega (arith, own, rest)

  below : List FlatFunction → ℕ → ℕ
  below gs zero = 0
  below gs (suc k) = below gs k + most_if p (slice_get gs k)

  below_next : (g : FlatFunction) (gs : List FlatFunction) (k : ℕ)
      → below (g ∷ gs) (suc k) ≡ most_if p (Some g) + below gs k
  unfolding below
  below_next g gs zero = omega arith
  below_next g gs (suc k) = let h = below_next g gs k in omega (arith, h)

  below_all : (gs : List FlatFunction) → below gs (length gs) ≡ total gs
  unfolding below total
  below_all [] = refl
  below_all (g ∷ gs) = let h = below_all gs in let n = below_next g gs (length gs) in omega (arith, h, n)

  below_is : (k : ℕ) → most_below p k ≡ below p.functions k
  unfolding below
  below_is zero = refl
  below_is (suc k) = let h = below_is k in omega (arith, h)

  pub program_words : (ts : List (List ℕ))
      → most_below p (length p.functions) ≤ frames t.functions + codes_weight ts t.functions (words 8)
  unfolding propagated
  program_words ts =
      let a = below_is (length p.functions) in
      let b = below_all p.functions in
      let h : total p.functions ≤ frames t.functions + codes_weight ts t.functions (words 8) =
      total_words ts t.functions small.functions in
      omega (arith, a, b, h)
