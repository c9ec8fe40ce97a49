-- How many bytes the code of a program has at most.
use Rattle.std.proofs.Common.{◌≡◌, ℕ, zero, suc, ◌+◌, ◌-◌, ◌*◌, ◌^◌, ◌≤◌, ◌==◌, ◌||◌, Bool, true, false, not, List, []}
use Rattle.std.proofs.Common.{◌∷◌, length, Option, Some, None, refl, ap, ◌∙◌, subst, arith, length-append}
use Rattle.std.specs.Prelude.{nat_lt, nat_le, slice_get, if◌then◌else◌}
use Rattle.addr_map.specs.Places.{MapSizes, code_size}
use Rattle.words.specs.TwosComplement.{low_bits}
use Rattle.machine_laws.specs.Calls.Table.{row_address}
use Rattle.rv_isa.specs.declared.instruction.Instr.{Instr}
use Rattle.flat_code.specs.declared.instruction.RightOperand.{RightOperand}
use Rattle.flat_code.specs.declared.instruction.RightOperand.TheVariants as right
use Rattle.flat_code.specs.declared.instruction.FlatInstruction.{FlatInstruction}
use Rattle.flat_code.specs.declared.instruction.FlatInstruction.TheVariants as flat
use Rattle.flat_code.specs.declared.function.FlatFunction.{FlatFunction}
use Rattle.flat_code.specs.declared.function.FlatProgram.{FlatProgram}
use Rattle.flat_code.specs.Calls.{function_in, record_bytes}
use Rattle.flat_code.specs.Meaning.{parameters_of, results_of, body_of}
use Rattle.reg_plan.specs.declared.plan.FunctionPlan.{FunctionPlan}
use Rattle.reg_plan.specs.Tests.{AreAccepted}
use Rattle.machine_laws.specs.Segments.Segments.{is_of, function_words, words_if, words_below, code_bytes}
use Rattle.rv_codegen.specs.declared.code.GenerateError.TheVariants.{TooLarge}
use Rattle.rv_codegen.specs.Generated.{IsCause}
use Rattle.machine_laws.specs.Blocks.Immediates.{is_immediate, immediate_of, immediate32_of}
use Rattle.image_laws.specs.CodeSizes.Sizes.{constant_words, right_words, operator_words, instruction_words}
use Rattle.image_laws.specs.CodeSizes.Sizes.{more_words, body_words, most_words, most_if, most_below, instructions_if}
use Rattle.image_laws.specs.CodeSizes.Sizes.{instructions_below, HandsOver}
use Rattle.image_laws.proofs.CodeSizes.Blocks.{home_most, passed_most}
use Rattle.image_laws.proofs.CodeSizes.Lists.{function_length}

module _ (m : MapSizes) (p : FlatProgram) (plans : List FunctionPlan) (ok : AreAccepted p plans) where
  if_most : (f : ℕ) (o : Option FlatFunction) → function_in p f ≡ o
      → length (if is_of false o then function_words m p plans f else []) ≤ most_if p o
  if_most f None there = omega arith
  if_most f (Some g) there = by g.is_runtime
    where
      by : (b : Bool) → length (if not b then function_words m p plans f else [])
          ≤ (if b then 0 else most_words p g)
      by true = omega arith
      by false = function_length m p plans ok f g there

  below_most : (n : ℕ) → length (words_below m p plans false n) ≤ most_below p n
  unfolding words_below
  below_most zero = omega arith
  below_most (suc n) =
      let r = below_most n in
      let h = if_most n (function_in p n) refl in
      let a = length-append (words_below m p plans false n) (words_if m p plans false n) in
      omega arith

pub few_bytes : (m : MapSizes) (p : FlatProgram) (plans : List FunctionPlan) → AreAccepted p plans
    → code_bytes m p plans ≤ 4 * most_below p (length p.functions)
few_bytes m p plans ok = let b = below_most m p plans ok (length p.functions) in omega arith

-- ---- where calls hand over few values

-- a number takes at most eleven words
pub few_for_constant : (n : ℕ) → constant_words n ≤ 11
few_for_constant n = by (is_immediate n) (nat_lt n (2 ^ 31 - 2 ^ 11) || nat_le (2 ^ 64 - 2 ^ 31) n)
  where
    by : (a b : Bool) → (if a then 1 else (if b then 2 else 11)) ≤ 11
    by true b = omega arith
    by false true = omega arith
    by false false = omega arith

few_for_right : (g : FlatFunction) (z : RightOperand) → right_words g z ≤ 11
few_for_right g (right.Register z) = let h = home_most g z in omega arith
few_for_right g (right.Number n) = by (n == 0)
  where
    by : (b : Bool) → (if b then 0 else constant_words (low_bits 64 n)) ≤ 11
    by true = omega arith
    by false = few_for_constant (low_bits 64 n)

few_for_operator : (g : FlatFunction) (x y : ℕ) (z : RightOperand) (short : Option Instr)
    → operator_words g x y z short ≤ 18
few_for_operator g x y z (Some i) = let a = home_most g x in let b = home_most g y in omega arith
few_for_operator g x y z None =
    let a = home_most g x in let b = home_most g y in let r = few_for_right g z in omega arith

pub few_for_each : (p : FlatProgram) (g : FlatFunction) (i : FlatInstruction)
    → instruction_words p g i ≤ 18 + more_words p g.results i
few_for_each p g (flat.Constant x n) =
    let c = few_for_constant (low_bits 64 n) in let a = home_most g x in omega arith
few_for_each p g (flat.Operate op x y z) = few_for_operator g x y z (immediate_of op 0 0 z)
few_for_each p g (flat.Operate32 op x y z) = few_for_operator g x y z (immediate32_of op 0 0 z)
few_for_each p g (flat.Branch op y z past) =
    let c = few_for_right g z in let a = home_most g y in omega arith
few_for_each p g (flat.Call f first x) =
    let c = few_for_constant (record_bytes g) in
    let a = few_for_constant (row_address p f) in
    let d = passed_most g first (parameters_of (function_in p f)) in
    let e = passed_most g x (results_of (function_in p f)) in
    omega arith
few_for_each p g (flat.CallAddress y first n x k) =
    let c = few_for_constant (record_bytes g) in
    let a = home_most g y in
    let d = passed_most g first n in
    let e = passed_most g x k in
    omega arith
few_for_each p g (flat.End e) = omega arith
few_for_each p g (flat.Move x y) = let a = home_most g x in let b = home_most g y in omega arith
few_for_each p g (flat.Load op x y o) = let a = home_most g x in let b = home_most g y in omega arith
few_for_each p g (flat.Store op y o x) = let a = home_most g x in let b = home_most g y in omega arith
few_for_each p g (flat.JumpForward past) = omega arith
few_for_each p g (flat.JumpBack back) = omega arith
few_for_each p g flat.Turn = omega arith
few_for_each p g (flat.Return y) = let d = passed_most g y g.results in omega arith
few_for_each p g (flat.Get x) = let a = home_most g x in omega arith
few_for_each p g (flat.Put x) = let a = home_most g x in omega arith
few_for_each p g (flat.Exit x) = let a = home_most g x in omega arith
few_for_each p g (flat.Charged x) = let a = home_most g x in omega arith

module _ (p : FlatProgram) (v : ℕ) (few : HandsOver p v) where
  body_most : (g : FlatFunction) (is : List FlatInstruction)
      → ((pc : ℕ) (i : FlatInstruction) → slice_get is pc ≡ Some i → more_words p g.results i ≤ 84 + 12 * v)
      → body_words p g is ≤ (102 + 12 * v) * length is
  body_most g [] h = omega arith
  body_most g (i ∷ is) h =
      let each = few_for_each p g i in
      let first = h 0 i refl in
      let rest = body_most g is (λ pc j e. h (suc pc) j e) in
      omega arith

  some_most : (f : ℕ) (o : Option FlatFunction) → function_in p f ≡ o
      → most_if p o ≤ (102 + 12 * v) * instructions_if o + (4 + 6 * v)
  some_most f None there = omega arith
  some_most f (Some g) there = by g.is_runtime
    where
      few_of : (pc : ℕ) (i : FlatInstruction) → slice_get g.body pc ≡ Some i → more_words p g.results i ≤ 84 + 12 * v
      few_of pc i e = subst (λ o. more_words p (results_of o) i ≤ 84 + 12 * v) there
          (few.each f pc i (ap (λ o. slice_get (body_of o) pc) there ∙ e))

      by : (b : Bool) → (if b then 0 else most_words p g)
          ≤ (102 + 12 * v) * (if b then 0 else length g.body) + (4 + 6 * v)
      by true = omega arith
      by false =
          let a = few.parameters f g there in
          let d = passed_most g 0 g.parameters in
          let b = body_most g g.body few_of in
          omega arith

  all_most : (n : ℕ) → most_below p n ≤ (102 + 12 * v) * instructions_below p n + (4 + 6 * v) * n
  all_most zero = omega arith
  all_most (suc n) = let r = all_most n in let h = some_most n (function_in p n) refl in omega arith

pub not_too_large : (m : MapSizes) (p : FlatProgram) (plans : List FunctionPlan) (values bytes : ℕ)
    → AreAccepted p plans → HandsOver p values
    → 4 * ((102 + 12 * values) * instructions_below p (length p.functions) + (4 + 6 * values) * length p.functions)
    ≤ code_size
    → IsCause m p plans (TooLarge bytes) → ⊥
not_too_large m p plans v bytes ok few fits cause =
    let b = few_bytes m p plans ok in
    let a = all_most p v few (length p.functions) in
    let large = cause.0 in
    omega arith
