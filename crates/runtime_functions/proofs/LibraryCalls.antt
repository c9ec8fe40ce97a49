-- Routines of the library by their contracts.
use Rattle.std.proofs.Common.{◌≡◌, ℕ, ◌+◌, ◌≤◌, Bool, true, false, List, [], ◌∷◌, arith, sym, ap, subst}
use Rattle.std.specs.Prelude.{if◌then◌else◌, IfOk, Result, Ok, Err}
use Rattle.addr_map.specs.Places.{MapSizes}
use Rattle.obj_memory.specs.declared.value.Value.{Value}
use Rattle.source_meaning.specs.State.{State as Source, Setting}
use Rattle.source_meaning.specs.Library.{routine}
use Rattle.source_meaning.specs.Lines.{RunsAlikeAt}
use Rattle.flat_code.specs.declared.instruction.FlatInstruction.{FlatInstruction}
use Rattle.flat_code.specs.declared.function.FlatFunction.{FlatFunction}
use Rattle.flat_code.specs.declared.function.FlatProgram.{FlatProgram}
use Rattle.flat_code.specs.Memory.{Bytes}
use Rattle.flat_code.specs.State.{State}
use Rattle.flat_code.specs.Meaning.{Context}
use Rattle.flat_code.specs.Routines.Routine.{Does, Outcome}
use Rattle.flat_code.specs.Routines.Metadata.{View}
use Rattle.flat_code.specs.Routines.InputOutput.{has_input_output, IsWithoutInputOutput}
use Rattle.flat_code.specs.Routines.Shape.{HasShape}
use Rattle.flat_code.proofs.Routines.Shape.{more}
use Rattle.runtime_functions.specs.Sizes.{most_registers}
use Rattle.flat_code.specs.Routines.Objects.StandsFor.{Keys}
use Rattle.flat_actions.specs.Actions.{IsAction, runtime_basis, registers_of, views_of}
use Rattle.lib_wrappers.specs.AllocatingRoutines.Premises.{AreStanding}
use Rattle.runtime_functions.specs.declared.library.LibraryFunction.{LibraryFunction}
use Rattle.runtime_functions.specs.declared.runtime.RuntimeFunction.{RuntimeFunction}
use Rattle.runtime_functions.specs.declared.runtime.RuntimeFunction.TheVariants.{Library}
use Rattle.runtime_functions.specs.Library.{IsLibraryCode, library_interface, routine_of, signature, Passed, NoValue}
use Rattle.runtime_functions.specs.Library.{OneWord, WithEntry, register_count, total_count, holder_from, holders_from}
use Rattle.runtime_functions.specs.Library.{parameters_of, results_of}
use Rattle.runtime_functions.specs.Functions.{IsRuntimeFunction}
use Rattle.runtime_functions.specs.Runtime.{IsOfRuntime, IsRuntimeCode, most_instructions, argument_count, result_count}
use Rattle.runtime_functions.specs.Calls.{CallSite, CallsFunction}
use Rattle.runtime_functions.specs.Actions.{AreParameters, AreResults, AreTaken, IsLaidOut, price_of, IsActionFunction}
use Rattle.runtime_functions.specs.Actions.{IsReady, ServesCall}
use Rattle.runtime_functions.proofs.Actions.{served}

stronger : (c : Context) (r : List FlatInstruction) (P P' : State → Type 0) (B : State → ℕ)
    (Q : State → Outcome → Type 0) → ((s : State) → P' s → P s) → Does c r P B Q → Does c r P' B Q
stronger c r P P' B Q to d = record { from = λ code pc s has words p. d.from code pc s has words (to s p) }

-- what asks nothing of the state of the source is done in states in which objects stand too
pub standing : (map : MapSizes) (entry : View) (IsGood : Bytes → Type 0) (f : LibraryFunction) (line : ℕ)
    (items : List FlatInstruction)
    → ((set : Setting) → IsAction (runtime_basis map entry IsGood) (λ vs. routine set (routine_of f) vs line)
    (library_interface f).arguments (library_interface f).result (library_interface f).scratch
    (signature f).constant (signature f).factor items)
    → IsLibraryCode map entry IsGood f line items
standing map entry IsGood f line items h = record {
  does = λ set sizes functions types k x vs charge weight.
      stronger _ _ _ _ _ _ (λ s p. (p.0, p.1, tt)) (h set functions types k x vs charge weight);
}

-- by which routine it is
pub code_of_same : (map : MapSizes) (entry : View) (IsGood : Bytes → Type 0) (line : ℕ) (f same : LibraryFunction)
    (items : List FlatInstruction) → f ≡ same → IsLibraryCode map entry IsGood same line items
    → IsLibraryCode map entry IsGood f line items
code_of_same map entry IsGood line f same items e h =
    subst (λ f. IsLibraryCode map entry IsGood f line items) (sym e) h

pub runtime_code_of_same : (map : MapSizes) (entry : View) (IsGood : Bytes → Type 0) (line : ℕ)
    (f same : RuntimeFunction) (items : List FlatInstruction) → f ≡ same
    → IsRuntimeCode map entry IsGood same line items → IsRuntimeCode map entry IsGood f line items
runtime_code_of_same map entry IsGood line f same items e h =
    subst (λ f. IsRuntimeCode map entry IsGood f line items) (sym e) h

-- code is two things where it is both
pub both_of : {A E : Type 0} (P Q : A → Type 0) (r : Result A E) → IfOk r P → IfOk r Q → IfOk r (λ x. P x × Q x)
both_of P Q (Ok x) p q = (p, q)
both_of P Q (Err e) p q = q

-- a shape of fewer instructions and registers, by which function it is
pub within : (f same : RuntimeFunction) (items : List FlatInstruction) (n m : ℕ) → f ≡ same → n ≤ most_instructions same
    → m ≤ most_registers → HasShape items n m → HasShape items (most_instructions f) most_registers
within f same items n m e a b h = subst (λ g. HasShape items (most_instructions g) most_registers) (sym e)
    (more items n (most_instructions same) m most_registers a b h)

-- a function of the list by its code
pub function_of_list : (map : MapSizes) (entry : View) (IsGood : Bytes → Type 0) (f : RuntimeFunction)
    (function : FlatFunction) (items routine : List FlatInstruction) (a n line : ℕ) → routine ≡ items
    → a ≡ argument_count f → n ≡ result_count f → line ≡ 1 → IsRuntimeCode map entry IsGood f line items
    → HasShape items (most_instructions f) most_registers → IsRuntimeFunction routine a n function
    → IsOfRuntime map entry IsGood f function
function_of_list map entry IsGood f function items routine a n line same e g l code shape is = record {
  routine = items;
  is = subst (λ k. IsRuntimeFunction items (argument_count f) k function) g
      (subst (λ k. IsRuntimeFunction items k n function) e (subst (λ r. IsRuntimeFunction r a n function) same is));
  code = subst (λ k. IsRuntimeCode map entry IsGood f k items) l code;
  shape = shape;
}

-- ---- calls

-- a step counts 2 at most
pub price_at_most : (r : List FlatInstruction) → price_of r ≤ 2
price_at_most r = by (has_input_output r)
  where
    by : (b : Bool) → (if b then 2 else 1) ≤ 2
    by true = omega arith
    by false = omega arith

-- and 1 where no input is taken and no output put
pub price_alone : (r : List FlatInstruction) → IsWithoutInputOutput r → price_of r ≤ 1
price_alone r alone = (let price : price_of r ≡ 1 = ap (λ b. if b then 2 else 1) alone.none in omega arith)

parameters_hold : (first a : ℕ) (v : Passed) → first + register_count v ≤ a
    → AreParameters a (registers_of (holder_from first v))
parameters_hold first a NoValue l = tt
parameters_hold first a OneWord l = (omega arith, tt)
parameters_hold first a WithEntry l = (omega arith, (omega arith, (omega arith, (omega arith, (omega arith, tt)))))

parameters_taken : (first a : ℕ) (vs : List Passed) → first + total_count vs ≤ a → AreTaken a (holders_from first vs)
parameters_taken first a [] l = tt
parameters_taken first a (v ∷ vs) l =
    (parameters_hold first a v (omega arith), parameters_taken (first + register_count v) a vs (omega arith))

results_hold : (a : ℕ) (v : Passed) → AreResults a (register_count v) (registers_of (holder_from (a + 1) v))
results_hold a NoValue = tt
results_hold a OneWord = ((omega arith, omega arith), tt)
results_hold a WithEntry = (
  (omega arith, omega arith),
  (
    (omega arith, omega arith),
    (
      (omega arith, omega arith),
      ((omega arith, omega arith), ((omega arith, omega arith), tt)),
    ),
  ),
)

laid_out : (f : LibraryFunction) → IsLaidOut (library_interface f) (parameters_of f) (results_of f)
laid_out f = record {
  taken = parameters_taken 0 (parameters_of f) (signature f).takes (omega arith);
  given = results_hold (parameters_of f) (signature f).gives;
  own = omega arith;
}

abbrev action_of : (map : MapSizes) (entry : View) (IsGood : Bytes → Type 0) (set : Setting) → set.sizes ≡ map
    → (f : LibraryFunction) (fn : FlatFunction) → IsOfRuntime map entry IsGood (Library f) fn
    → IsActionFunction map entry IsGood (λ x vs. AreStanding map x) (λ line vs. routine set (routine_of f) vs line)
    (library_interface f) (parameters_of f) (results_of f) fn
action_of map entry IsGood set sizes f fn of = record {
  routine = of.routine;
  is = of.is;
  does = of.code.does set sizes;
  priced = price_at_most of.routine;
  laid = laid_out f;
}

pub library_served : (map : MapSizes) (entry : View) (IsGood : Bytes → Type 0) (set : Setting) → set.sizes ≡ map
    → (p : FlatProgram) (s : CallSite) (f : LibraryFunction) (fn : FlatFunction)
    → IsOfRuntime map entry IsGood (Library f) fn → CallsFunction map p s fn
    → (functions : ℕ) (types : ℕ → ℕ) (k : Keys) (x : Source) (vs : List Value) (line : ℕ)
    → RunsAlikeAt line (routine set (routine_of f) vs 1) (routine set (routine_of f) vs line)
    → IsReady (views_of map functions types entry) k IsGood (library_interface f) s x vs → AreStanding map x
    → ServesCall map p (views_of map functions types entry) k IsGood (library_interface f) s (parameters_of f)
    (results_of f) line x (routine set (routine_of f) vs line)
library_served map entry IsGood set sizes p s f fn of calls functions types k x vs line alike ready objects =
    served map entry IsGood (λ x vs. AreStanding map x) (λ line vs. routine set (routine_of f) vs line)
    (library_interface f) p s fn (parameters_of f) (results_of f) (action_of map entry IsGood set sizes f fn of)
    (record { calls = calls; is = of.is }) functions types k x vs line alike ready objects
