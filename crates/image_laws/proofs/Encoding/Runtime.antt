-- Functions of the runtime are of instructions that the machine has: the only endings that stay in one are exits, which have
-- no line.
use Rattle.std.proofs.Common.{◌≡◌, inl, inr, ⊎_elim, ℕ, zero, suc, ◌+◌, ◌-◌, ◌^◌, ◌<◌, ◌≤◌, sym, subst, arith}
use Rattle.std.proofs.Common.{true}
use Rattle.std.proofs.Common.{List, [], ◌∷◌, ◌++◌, length, Some, nat_lt, nat_le}
use Rattle.std.specs.Prelude.{◌&&◌, slice_get}
use Rattle.std.proofs.lemmas.Bool.{and_parts, or_cases, ltb-true, leb-true}
use Rattle.std.proofs.lemmas.Option.{same_Some, none-some}
use Rattle.sb_base.specs.declared.ending.Ending.TheVariants as ending
use Rattle.sb_base.specs.Endings.{code_of}
use Rattle.addr_map.specs.Places.{MapSizes}
use Rattle.flat_code.specs.declared.instruction.RightOperand.{RightOperand}
use Rattle.flat_code.specs.declared.instruction.RightOperand.TheVariants.{Register, Number}
use Rattle.flat_code.specs.declared.instruction.FlatInstruction.{FlatInstruction}
use Rattle.flat_code.specs.declared.instruction.FlatInstruction.TheVariants as flat
use Rattle.flat_code.specs.declared.function.FlatFunction.{FlatFunction}
use Rattle.flat_code.specs.Memory.{Bytes}
use Rattle.flat_code.specs.Routines.Metadata.{View}
use Rattle.flat_code.specs.Routines.Shape.{is_short, has_right}
use Rattle.machine_laws.specs.Blocks.Blocks.{IsShort, RightIsShort}
use Rattle.machine_laws.specs.Blocks.Tails.{line_of}
use Rattle.runtime_functions.specs.declared.runtime.RuntimeFunction.{RuntimeFunction}
use Rattle.runtime_functions.specs.declared.runtime.RuntimeFunction.TheVariants as runtime
use Rattle.runtime_functions.specs.declared.library.LibraryFunction.{LibraryFunction}
use Rattle.runtime_functions.specs.declared.library.LibraryFunction.TheVariants as library
use Rattle.runtime_functions.specs.Functions.{with_stub, with_stubs, stubs, function_body, with_zeros}
use Rattle.runtime_functions.specs.Runtime.{argument_count, result_count, IsOfRuntime, AreOfRuntime}
use Rattle.runtime_functions.specs.Sizes.{most_registers, is_encodable, are_encodable}
use Rattle.image_laws.specs.Encoding.Fitting.{IsFit, AreFit}

-- ---- lines

abbrev IsLined : FlatInstruction → Type 0
IsLined (flat.End e) = line_of e < 2 ^ 32
IsLined _ = Unit {0}

abbrev AreLined : List FlatInstruction → Type 0
AreLined [] = Unit {0}
AreLined (i ∷ is) = IsLined i × AreLined is

lined_append : (is js : List FlatInstruction) → AreLined is → AreLined js → AreLined (is ++ js)
lined_append [] js a b = b
lined_append (i ∷ is) js a b = (a.0, lined_append is js a.1 b)

lined_stub : (n q : ℕ) (i : FlatInstruction) → IsLined (with_stub n q i)
lined_stub n q (flat.End (ending.Exit status)) = omega arith
lined_stub n q (flat.End (ending.Spatial line)) = tt
lined_stub n q (flat.End (ending.Temporal line)) = tt
lined_stub n q (flat.End (ending.BadCall line)) = tt
lined_stub n q (flat.End (ending.BadFree line)) = tt
lined_stub n q (flat.End (ending.Divide line)) = tt
lined_stub n q (flat.End (ending.Stack line)) = tt
lined_stub n q (flat.End (ending.Keys line)) = tt
lined_stub n q (flat.End (ending.Abort line)) = tt
lined_stub n q _ = tt

lined_routine : (n q : ℕ) (is : List FlatInstruction) → AreLined (with_stubs n q is)
lined_routine n q [] = tt
lined_routine n q (i ∷ is) = (lined_stub n q i, lined_routine n (suc q) is)

lined_stubs : (d k count : ℕ) → AreLined (stubs d k count)
lined_stubs d k zero = tt
lined_stubs d k (suc n) = (tt, (tt, lined_stubs d (suc k) n))

lined_body : (r : List FlatInstruction) (d : ℕ) → AreLined (function_body r d)
lined_body r d =
    lined_append (with_stubs (length r) 0 r) (flat.Return d ∷ stubs d 1 8) (lined_routine (length r) 0 r)
    (tt, lined_stubs d 1 8)

-- ---- numbers

short_number : (n : ℕ) → is_short n ≡ true → IsShort n
short_number n e =
    ⊎_elim (λ low. inl (ltb-true n (2 ^ 31 - 2 ^ 11) low))
    (λ high.
    let parts = and_parts (nat_le (2 ^ 64 - 2 ^ 31) n) (nat_lt n (2 ^ 64)) high in
    inr (leb-true (2 ^ 64 - 2 ^ 31) n parts.0, ltb-true n (2 ^ 64) parts.1))
    (or_cases (nat_lt n (2 ^ 31 - 2 ^ 11)) (nat_le (2 ^ 64 - 2 ^ 31) n && nat_lt n (2 ^ 64)) e)

short_operand : (m : ℕ) (z : RightOperand) → has_right m z ≡ true → RightIsShort z
short_operand m (Register z) e = tt
short_operand m (Number n) e = short_number n e

one_fit : (i : FlatInstruction) → is_encodable i ≡ true → IsLined i → IsFit i
one_fit (flat.Constant x n) e lined =
    short_number n (and_parts (nat_lt x most_registers) (is_short n) e).1
one_fit (flat.Operate op x y z) e lined =
    short_operand most_registers z
    (and_parts (nat_lt y most_registers) (has_right most_registers z)
    (and_parts (nat_lt x most_registers) (nat_lt y most_registers && has_right most_registers z) e).1).1
one_fit (flat.Operate32 op x y z) e lined =
    short_operand most_registers z
    (and_parts (nat_lt y most_registers) (has_right most_registers z)
    (and_parts (nat_lt x most_registers) (nat_lt y most_registers && has_right most_registers z) e).1).1
one_fit (flat.Load op x y offset) e lined =
    ltb-true offset (2 ^ 11)
    (and_parts (nat_lt y most_registers) (nat_lt offset (2 ^ 11))
    (and_parts (nat_lt x most_registers) (nat_lt y most_registers && nat_lt offset (2 ^ 11)) e).1).1
one_fit (flat.Store op y offset x) e lined =
    ltb-true offset (2 ^ 11)
    (and_parts (nat_lt x most_registers) (nat_lt offset (2 ^ 11))
    (and_parts (nat_lt y most_registers) (nat_lt x most_registers && nat_lt offset (2 ^ 11)) e).1).1
one_fit (flat.Branch op y z past) e lined =
    short_operand most_registers z (and_parts (nat_lt y most_registers) (has_right most_registers z) e).1
one_fit (flat.End ending) e lined = (lined, ltb-true (code_of ending) 256 e)
one_fit _ e lined = tt

all_fit : (is : List FlatInstruction) → are_encodable is ≡ true → AreLined is → AreFit is
all_fit [] e lined = tt
all_fit (i ∷ is) e lined =
    let parts = and_parts (is_encodable i) (are_encodable is) e in
    (one_fit i parts.0 lined.0, all_fit is parts.1 lined.1)

-- ---- functions

few_arguments : (f : RuntimeFunction) → argument_count f ≤ 1024
few_arguments (runtime.Library f) = by f
  where
    by : (f : LibraryFunction) → argument_count (runtime.Library f) ≤ 1024
    by library.Malloc = omega arith
    by _ = omega arith
few_arguments runtime.Scan = omega arith
few_arguments _ = omega arith

few_results : (f : RuntimeFunction) → 1 + result_count f ≤ 1024
few_results (runtime.Library f) = by f
  where
    by : (f : LibraryFunction) → 1 + result_count (runtime.Library f) ≤ 1024
    by library.Malloc = omega arith
    by _ = omega arith
few_results runtime.Scan = omega arith
few_results _ = omega arith

-- what is known of a function of the runtime
pub record IsRuntimeFit (f : FlatFunction) : Type 0 where
  pub body : AreFit f.body
  pub parameters : f.parameters ≤ 1024
  pub results : f.results ≤ 1024

module _ (m : MapSizes) (entry : View) (IsGood : Bytes → Type 0)
    (encodable : (f : RuntimeFunction) (g : FlatFunction) → IsOfRuntime m entry IsGood f g → are_encodable g.body ≡ true)
  where
    of_runtime_fit : (f : RuntimeFunction) (g : FlatFunction) → IsOfRuntime m entry IsGood f g → IsRuntimeFit g
    of_runtime_fit f g of =
        let a = few_arguments f in
        let r = few_results f in
        record {
          body = all_fit g.body (encodable f g of)
              (subst AreLined (sym of.is.body) (lined_body (with_zeros of.routine (argument_count f)) (argument_count f)));
          parameters = let same = of.is.parameters in omega (arith, a, same);
          results = let same = of.is.results_are in omega (arith, r, same);
        }

    pub runtime_fit : (fs : List RuntimeFunction) (gs : List FlatFunction) (k : ℕ) (g : FlatFunction)
        → AreOfRuntime m entry IsGood fs gs → slice_get gs k ≡ Some g → IsRuntimeFit g
    runtime_fit [] [] k g of at = absurd (none-some g at)
    runtime_fit [] (x ∷ gs) k g of at = absurd of
    runtime_fit (f ∷ fs) [] k g of at = absurd of
    runtime_fit (f ∷ fs) (x ∷ gs) zero g of at = subst IsRuntimeFit (same_Some x g at) (of_runtime_fit f x of.0)
    runtime_fit (f ∷ fs) (x ∷ gs) (suc k) g of at = runtime_fit fs gs k g of.1 at
