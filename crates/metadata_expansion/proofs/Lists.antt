-- Lists that blocks are made of.
use Rattle.std.proofs.Common.{◌≡◌, ℕ, zero, suc, ◌+◌, ◌*◌, ◌^◌, ◌<◌, List, [], ◌∷◌, ◌++◌, get_or}
use Rattle.std.proofs.Common.{ap, refl, sym, ◌∙◌, append_assoc, arith}
use Rattle.c_tree.specs.declared.program.Variable.{Variable}
use Rattle.tac_ir.specs.declared.function.CodeFunction.{CodeFunction}
use Rattle.flat_code.specs.declared.instruction.FlatInstruction.{FlatInstruction}
use Rattle.flat_code.specs.declared.instruction.FlatInstruction.TheVariants.{Constant, Move}
use Rattle.metadata_plan.specs.Registers.{words_of, words_in, register_of, all_variables, most_temporaries}
use Rattle.metadata_plan.specs.Registers.{temporary_register, first_free}
use Rattle.metadata_plan.specs.Blocks.{argument_moves, zeros}
use Rattle.metadata_expansion.specs.declared.registers.Registers.{Registers}
use Rattle.metadata_expansion.specs.Tables.{registers_from}
use Rattle.metadata_expansion.specs.Numbers.{register_count}
use Rattle.metadata_expansion.specs.Numbering.{AreRegisters}

pub nothing_behind : {A : Type 0} (xs : List A) → xs ++ [] ≡ xs
nothing_behind [] = refl
nothing_behind (x ∷ xs) = ap (λ ys. x ∷ ys) (nothing_behind xs)

-- one more at the end
pub moves_more : (c : CodeFunction) (r d n : ℕ)
    → argument_moves c r d (suc n) ≡ argument_moves c r d n ++ (Move (r + n) (temporary_register c (d + n)) ∷ [])
moves_more c r d zero =
    let same : r ≡ r + 0 = omega arith in
    let also : d ≡ d + 0 = omega arith in
    ap (λ x. Move x (temporary_register c d) ∷ []) same ∙ ap (λ x. Move (r + 0) (temporary_register c x) ∷ []) also
moves_more c r d (suc n) =
    let same : r + 1 + n ≡ r + suc n = omega arith in
    let also : d + 1 + n ≡ d + suc n = omega arith in
    ap (λ is. Move r (temporary_register c d) ∷ is)
    (moves_more c (r + 1) (d + 1) n
    ∙ ap (λ x. argument_moves c (r + 1) (d + 1) n ++ (Move x (temporary_register c (d + 1 + n)) ∷ [])) same
    ∙ ap (λ x. argument_moves c (r + 1) (d + 1) n ++ (Move (r + suc n) (temporary_register c x) ∷ [])) also)

pub zeros_more : (r n : ℕ) → zeros r (suc n) ≡ zeros r n ++ (Constant (r + n) 0 ∷ [])
zeros_more r zero =
    let same : r ≡ r + 0 = omega arith in
    ap (λ x. Constant x 0 ∷ []) same
zeros_more r (suc n) =
    let same : r + 1 + n ≡ r + suc n = omega arith in
    ap (λ is. Constant r 0 ∷ is)
    (zeros_more (r + 1) n ∙ ap (λ x. zeros (r + 1) n ++ (Constant x 0 ∷ [])) same)

-- ---- registers of variables

pub words_append : (xs ys : List Variable) → words_in (xs ++ ys) ≡ words_in xs + words_in ys
words_append [] ys = omega arith
words_append (x ∷ xs) ys = omega (arith, words_append xs ys)

pub registers_append : (r : ℕ) (xs ys : List Variable)
    → registers_from r (xs ++ ys) ≡ registers_from r xs ++ registers_from (r + words_in xs) ys
registers_append r [] ys =
    let same : r ≡ r + 0 = omega arith in
    ap (λ z. registers_from z ys) same
registers_append r (x ∷ xs) ys =
    let same : r + words_of x.kind + words_in xs ≡ r + (words_of x.kind + words_in xs) = omega arith in
    ap (λ ns. r ∷ ns) (registers_append (r + words_of x.kind) xs ys
    ∙ ap (λ z. registers_from (r + words_of x.kind) xs ++ registers_from z ys) same)

pub registers_at : (r : ℕ) (vs : List Variable) (x d : ℕ) → d ≡ r + words_in vs
    → get_or (registers_from r vs) x d ≡ r + register_of vs x
registers_at r [] x d e = e
registers_at r (v ∷ vs) zero d e = omega arith
registers_at r (v ∷ vs) (suc x) d e =
    let same : d ≡ r + words_of v.kind + words_in vs = omega (arith, e) in
    let there : get_or (registers_from (r + words_of v.kind) vs) x d ≡ r + words_of v.kind + register_of vs x =
    registers_at (r + words_of v.kind) vs x d same in
    there ∙ omega arith

pub are_registers : (r : Registers) (c : CodeFunction) (behind : ℕ) → behind ≡ words_in c.parameters
    → r.words ≡ behind + words_in c.variables
    → r.variables ≡ registers_from 0 c.parameters ++ registers_from behind c.variables
    → r.temporaries ≡ most_temporaries c.code → r.free ≡ r.words + 5 * r.temporaries → register_count c < 2 ^ 32
    → AreRegisters r c
are_registers r c behind begin words variables count free small =
    let sum : words_in (all_variables c) ≡ words_in c.parameters + words_in c.variables =
    words_append c.parameters c.variables in
    let total : r.words ≡ words_in (all_variables c) = omega arith in
    let from_zero : r.words ≡ 0 + words_in (all_variables c) = omega arith in
    let next : behind ≡ 0 + words_in c.parameters = omega arith in
    let list : r.variables ≡ registers_from 0 (all_variables c) =
    variables
    ∙ ap (λ z. registers_from 0 c.parameters ++ registers_from z c.variables) next
    ∙ sym (registers_append 0 c.parameters c.variables) in
    let at : r.free ≡ first_free c = omega arith in
    record {
      variables = λ x.
          let here : get_or (registers_from 0 (all_variables c)) x r.words ≡ 0 + register_of (all_variables c) x =
          registers_at 0 (all_variables c) x r.words from_zero in
          ap (λ ns. get_or ns x r.words) list ∙ omega (arith, here);
      words = total;
      temporaries = count;
      free = at;
      small = omega (arith, at, small);
    }

pub registers_few : (c : CodeFunction) → register_count c < 2 ^ 32
    → words_in c.parameters + words_in c.variables + 5 * most_temporaries c.code + 4 < 2 ^ 32
registers_few c small =
    let total : words_in (all_variables c) ≡ words_in c.parameters + words_in c.variables =
    words_append c.parameters c.variables in
    omega arith

-- one more is put behind a list
pub moves_put : (c : CodeFunction) (before now after : List FlatInstruction) (r d n : ℕ)
    → now ≡ before ++ argument_moves c r d n → after ≡ now ++ (Move (r + n) (temporary_register c (d + n)) ∷ [])
    → after ≡ before ++ argument_moves c r d (n + 1)
moves_put c before now after r d n e put =
    let next : suc n ≡ n + 1 = omega arith in
    put ∙ ap (λ is. is ++ (Move (r + n) (temporary_register c (d + n)) ∷ [])) e
    ∙ append_assoc before (argument_moves c r d n) (Move (r + n) (temporary_register c (d + n)) ∷ [])
    ∙ ap (λ is. before ++ is) (sym (moves_more c r d n))
    ∙ ap (λ k. before ++ argument_moves c r d k) next

pub zeros_put : (before now after : List FlatInstruction) (r n : ℕ) → now ≡ before ++ zeros r n
    → after ≡ now ++ (Constant (r + n) 0 ∷ []) → after ≡ before ++ zeros r (n + 1)
zeros_put before now after r n e put =
    let next : suc n ≡ n + 1 = omega arith in
    put ∙ ap (λ is. is ++ (Constant (r + n) 0 ∷ [])) e
    ∙ append_assoc before (zeros r n) (Constant (r + n) 0 ∷ [])
    ∙ ap (λ is. before ++ is) (sym (zeros_more r n))
    ∙ ap (λ k. before ++ zeros r k) next
