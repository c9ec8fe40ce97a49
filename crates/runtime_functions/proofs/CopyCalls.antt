-- The function that moves a range with its entries assigns structures.
use Rattle.std.proofs.Common.{◌≡◌, ℕ, ◌+◌, ◌-◌, ◌*◌, List, [], ◌∷◌, false, sym, ap, ◌∙◌, subst, arith, length}
use Rattle.addr_map.specs.Places.{MapSizes, AreMapped}
use Rattle.obj_memory.specs.declared.value.Value.{Value}
use Rattle.obj_memory.specs.declared.value.Place.{Place}
use Rattle.obj_memory.specs.Judgement.{place_in, named}
use Rattle.source_meaning.specs.State.{State as Source, Gives, ◌>>◌, done, on}
use Rattle.source_meaning.specs.Acting.{state_of}
use Rattle.source_meaning.specs.Actions.{integer, copy_structure, place_or_stop, move_bytes}
use Rattle.source_meaning.specs.Keeping.{IsDirect}
use Rattle.source_meaning.specs.Library.{argument}
use Rattle.source_meaning.specs.Lines.{outcome_at}
use Rattle.source_meaning.proofs.Holding.{direct_allowed}
use Rattle.flat_code.specs.declared.instruction.FlatInstruction.{FlatInstruction}
use Rattle.flat_code.specs.declared.function.FlatFunction.{FlatFunction}
use Rattle.flat_code.specs.declared.function.FlatProgram.{FlatProgram}
use Rattle.flat_code.specs.Memory.{Bytes}
use Rattle.flat_code.specs.State.{State}
use Rattle.flat_code.specs.Meaning.{Goes}
use Rattle.flat_code.specs.Routines.Routine.{Outcome, Continues, Halts, Either, Never}
use Rattle.flat_code.specs.Routines.Metadata.{View}
use Rattle.flat_code.proofs.Routines.Rules.{weaken}
use Rattle.flat_code.specs.Routines.Objects.StandsFor.{Keys}
use Rattle.flat_actions.specs.Actions.{IsActionIn, Leaves, IsFor, Nowhere, Word, runtime_basis, views_of, work_of}
use Rattle.flat_actions.specs.Ranges.{IsObjectRange, HasMovedTagged, IsTaggedMoveRoutine}
use Rattle.lib_wrappers.proofs.MovingRoutines.Bytes.{in_runtime}
use Rattle.lib_wrappers.proofs.MovingRoutines.Moves.{allowed_range, with_moved, moved_is}
use Rattle.lib_wrappers.proofs.AreaRoutines.Values.{named_is}
use Rattle.runtime_functions.specs.declared.runtime.RuntimeFunction.TheVariants.{CopyTagged}
use Rattle.runtime_functions.specs.Calls.{CallSite, CallsFunction, calling_steps}
use Rattle.runtime_functions.specs.Actions.{IsReady, ServesCall, IsActionFunction, IsServed, work_of_call, steps_of}
use Rattle.runtime_functions.specs.Actions.{ComesBehind}
use Rattle.runtime_functions.specs.Runtime.{IsOfRuntime}
use Rattle.runtime_functions.specs.Copying.{copying, AreToCopy, copying_interface}
use Rattle.runtime_functions.proofs.Actions.{at_one}
use Rattle.runtime_functions.proofs.LibraryCalls.{price_alone}

-- ---- in the source

module _ (x : Source) (line size : ℕ) (dv sv : Value) (d : IsDirect x.objects dv size) (s : IsDirect x.objects sv size)
  where
    abbrev to : Place
    to = place_in x.objects d.object dv.word

    abbrev from : Place
    from = place_in x.objects s.object sv.word

    copied_is : (copy_structure size false dv line sv >> done (integer 0)) x ≡ Gives (integer 0) (with_moved x size to from)
    copied_is =
        ap (λ w. on (on (place_or_stop w line x) (λ p y. on (place_or_stop (named sv y.objects) line y)
        (λ q. move_bytes size p q))) (λ u y. Gives (integer 0) y)) (named_is x.objects dv size d)
        ∙ ap (λ w. on (on (place_or_stop w line x) (λ q. move_bytes size to q)) (λ u y. Gives (integer 0) y))
        (named_is x.objects sv size s)

-- ---- in flat code

copies_words : (map : MapSizes) → AreMapped map → (entry : View) (IsGood : Bytes → Type 0) (r : List FlatInstruction)
    → IsTaggedMoveRoutine map entry IsGood 0 1 2 4 r
    → IsActionIn (runtime_basis map entry IsGood) AreToCopy (copying 1) (Word 0 ∷ Word 1 ∷ Word 2 ∷ []) Nowhere 4 40 16
    r
copies_words map mapped entry IsGood r moves functions types k x [] charge weight =
    record { from = λ code pc f has w p. absurd p.1 }
copies_words map mapped entry IsGood r moves functions types k x (dv ∷ []) charge weight =
    record { from = λ code pc f has w p. absurd p.1.1 }
copies_words map mapped entry IsGood r moves functions types k x (dv ∷ sv ∷ []) charge weight =
    record { from = λ code pc f has w p. absurd p.1.1.1 }
copies_words map mapped entry IsGood r moves functions types k x (dv ∷ sv ∷ nv ∷ []) charge weight = record {
  from = λ code pc f has w p.
      let g = views_of map functions types entry in
      let size = nv.word in
      let d = p.2.to in let s = p.2.from in
      let held = p.1 in
      let is = copied_is x 1 size dv sv d s in
      let run = copying 1 (dv ∷ sv ∷ nv ∷ []) in
      let work : work_of run x ≡ size = ap (λ o. (state_of o).work - x.work) is ∙ omega arith in
      weaken (in_runtime map charge weight) code (40 + 16 * size) (40 + 16 * work_of run x) (Goes pc f) (pc + length r)
      (Either (HasMovedTagged map entry IsGood 0 1 size 4 f) Never) (Leaves g k IsGood Nowhere 4 x f (run x))
      (omega arith) (by f p.0 d s held.0 held.1.0)
      ((moves size charge weight).from code pc f has w (
        record {
          size_is = held.1.1.0;
          to_range = subst (λ i. IsObjectRange map i size) (sym held.0)
              (allowed_range g k x.objects f.memory dv size (to x 1 size dv sv d s) p.0.objects
              (direct_allowed x.objects dv size d));
          from_range = subst (λ i. IsObjectRange map i size) (sym held.1.0)
              (allowed_range g k x.objects f.memory sv size (from x 1 size dv sv d s) p.0.objects
              (direct_allowed x.objects sv size s));
        },
        p.0.spaces,
      ));
}
  where
    by : (f : State) → IsFor (views_of map functions types entry) k IsGood x f → (d : IsDirect x.objects dv nv.word)
        → (s : IsDirect x.objects sv nv.word) → f.values 0 ≡ dv.word → f.values 1 ≡ sv.word → (y : Outcome)
        → Either (HasMovedTagged map entry IsGood 0 1 nv.word 4 f) Never y
        → Leaves (views_of map functions types entry) k IsGood Nowhere 4 x f (copying 1 (dv ∷ sv ∷ nv ∷ []) x) y
    by f stands d s to_is from_is (Continues z) h =
        subst (λ o. Leaves (views_of map functions types entry) k IsGood Nowhere 4 x f o (Continues z))
        (sym (copied_is x 1 nv.word dv sv d s))
        (moved_is map mapped entry IsGood functions types k 4 x f z 0 1 nv.word 4 dv sv (integer 0)
        (to x 1 nv.word dv sv d s) (from x 1 nv.word dv sv d s) stands (omega arith)
        (direct_allowed x.objects dv nv.word d) (direct_allowed x.objects sv nv.word s) to_is from_is h)
    by f stands d s to_is from_is (Halts status report z) never = absurd never
copies_words map mapped entry IsGood r moves functions types k x (dv ∷ sv ∷ nv ∷ v ∷ vs) charge weight =
    record { from = λ code pc f has w p. absurd p.1.1.1.1 }

-- ---- calls

module _ (map : MapSizes) (mapped : AreMapped map) (entry : View) (IsGood : Bytes → Type 0) (p : FlatProgram)
    (s : CallSite) (fn : FlatFunction) (of : IsOfRuntime map entry IsGood CopyTagged fn)
    (calls : CallsFunction map p s fn) where
  abbrev act : IsActionFunction map entry IsGood AreToCopy copying copying_interface 3 0 fn
  act = record {
    routine = of.routine;
    is = of.is;
    does = copies_words map mapped entry IsGood of.routine of.code.0;
    priced = price_alone of.routine of.code.1;
    laid = record {
      taken = ((omega arith, tt), ((omega arith, tt), ((omega arith, tt), tt)));
      given = tt;
      own = omega arith;
    };
  }

  pub copy_served : (functions : ℕ) (types : ℕ → ℕ) (k : Keys) (x : Source) (vs : List Value) (line : ℕ)
      → IsReady (views_of map functions types entry) k IsGood copying_interface s x vs → AreToCopy x vs
      → ServesCall map p (views_of map functions types entry) k IsGood copying_interface s 3 0 line x (copying line vs)
  copy_served functions types k x vs line ready premise =
      let g = views_of map functions types entry in
      let d = premise.to in let f = premise.from in
      let size = (argument 2 vs).word in
      let own = copied_is x 1 size (argument 0 vs) (argument 1 vs) d f in
      let other = copied_is x line size (argument 0 vs) (argument 1 vs) d f in
      let same : copying line vs x ≡ outcome_at line (copying 1 vs x) = other ∙ sym (ap (outcome_at line) own) in
      let work : work_of (copying line vs) x ≡ work_of (copying 1 vs) x =
      ap (λ o. (state_of o).work - x.work) (other ∙ sym own) in
      subst (λ o. ComesBehind map p s (steps_of copying_interface (copying line vs) x + calling_steps)
      (IsServed g k IsGood Nowhere s 3 0 (work_of_call 3 0 1 (steps_of copying_interface (copying line vs) x)) line x o))
      (sym same)
      (subst (λ w. ComesBehind map p s (40 + 16 * w + calling_steps)
      (IsServed g k IsGood Nowhere s 3 0 (work_of_call 3 0 1 (40 + 16 * w)) line x
      (outcome_at line (copying 1 vs x))))
      (sym work)
      (at_one map entry IsGood AreToCopy copying copying_interface p s fn 3 0 act
      (record { calls = calls; is = of.is }) functions types k x vs line ready premise))
