-- The function that makes a range zero sets an object to zero.
use Rattle.std.proofs.Common.{◌≡◌, ℕ, ◌+◌, ◌*◌, inl, inr, ⊎_elim, List, [], ◌∷◌, length, refl, ◌∙◌}
use Rattle.std.proofs.Common.{subst, arith}
use Rattle.addr_map.specs.Places.{MapSizes, AreMapped}
use Rattle.obj_memory.specs.declared.value.Value.{Value}
use Rattle.obj_memory.specs.Objects.{object_at, with_zeroed}
use Rattle.obj_memory.proofs.Keeping.{keeps_zeroed}
use Rattle.source_meaning.specs.State.{State as Source}
use Rattle.source_meaning.specs.Actions.{integer}
use Rattle.source_meaning.specs.Lines.{RunsAlikeAt}
use Rattle.flat_code.specs.declared.instruction.FlatInstruction.{FlatInstruction}
use Rattle.flat_code.specs.declared.function.FlatFunction.{FlatFunction}
use Rattle.flat_code.specs.declared.function.FlatProgram.{FlatProgram}
use Rattle.flat_code.specs.Memory.{Bytes}
use Rattle.flat_code.specs.State.{State}
use Rattle.flat_code.specs.Meaning.{Goes}
use Rattle.flat_code.specs.Routines.Routine.{Outcome, Continues, Halts, Either, Never}
use Rattle.flat_code.specs.Routines.Metadata.{View}
use Rattle.flat_code.proofs.Routines.Regions.{spaces_follow}
use Rattle.flat_code.proofs.Routines.Rules.{weaken}
use Rattle.flat_code.specs.Routines.Objects.StandsFor.{Keys}
use Rattle.flat_actions.specs.Actions.{IsActionIn, Leaves, IsFor, HasGiven, Nowhere, Word, runtime_basis, views_of}
use Rattle.flat_actions.specs.Actions.{work_of}
use Rattle.flat_actions.proofs.Standing.{shown_still, keeps_same}
use Rattle.lib_wrappers.proofs.MovingRoutines.Bytes.{in_runtime}
use Rattle.lib_wrappers.specs.AllocatingRoutines.Zeroing.{IsZeroed, HasZeroed, IsZeroRoutine}
use Rattle.lib_wrappers.proofs.AllocatingRoutines.ZeroedObjects.{zeroed_stands}
use Rattle.runtime_functions.specs.declared.runtime.RuntimeFunction.TheVariants.{Zero}
use Rattle.runtime_functions.specs.Calls.{CallSite, CallsFunction}
use Rattle.runtime_functions.specs.Actions.{IsReady, ServesCall, IsActionFunction}
use Rattle.runtime_functions.specs.Runtime.{IsOfRuntime}
use Rattle.runtime_functions.specs.Zeroing.{zeroing, IsToZeroObject, zeroing_interface}
use Rattle.runtime_functions.proofs.Actions.{served}
use Rattle.runtime_functions.proofs.LibraryCalls.{price_alone}

-- the source's state after an object of some bytes was set to zero
abbrev with_zeros : (n size : ℕ) → Source → Source
with_zeros n size x = record x { work = x.work + size; objects = with_zeroed n x.objects }

module _ (map : MapSizes) (mapped : AreMapped map) (entry : View) (IsGood : Bytes → Type 0) (functions : ℕ)
    (types : ℕ → ℕ) (k : Keys) (n : ℕ) (x : Source) (dv nv : Value) where
  given : (f f' : State) → IsFor (views_of map functions types entry) k IsGood x f
      → IsToZeroObject n x (dv ∷ nv ∷ []) → f.values 0 ≡ dv.word
      → HasZeroed map entry IsGood 0 nv.word 3 f f'
      → HasGiven (views_of map functions types entry) k IsGood Nowhere 3 x f (integer 0)
      (with_zeros n (object_at x.objects n).size x) f'
  given f f' stands p at h =
      let o = object_at x.objects n in
      let zeroed = subst (λ s. IsZeroed map entry o.address s f.memory f'.memory) p.size
      (subst (λ a. IsZeroed map entry a nv.word f.memory f'.memory) (at ∙ p.address) h.memory) in
      let shown = shown_still x f f' h.shows stands.shown in
      let follow = spaces_follow map in let locks = follow.locks in let table = follow.table in
      let same = (keeps_zeroed n x.objects).at n in
      record {
        keys = k;
        held = keeps_same x.objects k;
        stands = record {
          objects = zeroed_stands map mapped functions types entry k x.objects n f.memory f'.memory stands.objects
              stands.spaces.table p.live zeroed;
          spaces = h.good;
          keys = stands.keys;
          shown = record {
            input = shown.input;
            output = shown.output;
            taken = shown.taken;
            accesses = shown.accesses;
          };
        };
        given = tt;
        turns = h.shows.turns;
        elsewhere = record {
          low = λ a l out. (let address = same.address in let size = same.size in
              zeroed.beside a l (⊎_elim (λ lo. inl (omega arith)) (λ hi. inr (omega arith))
              (out n (same.live ∙ p.live))));
          behind = λ a l. zeroed.spaces a (omega arith);
        };
        others = h.others;
      }

zeroes_words : (map : MapSizes) → AreMapped map → (entry : View) (IsGood : Bytes → Type 0) (n : ℕ)
    (r : List FlatInstruction) → IsZeroRoutine map entry IsGood 0 1 3 r
    → IsActionIn (runtime_basis map entry IsGood) (IsToZeroObject n) (zeroing n 1) (Word 0 ∷ Word 1 ∷ []) Nowhere 3 16 4
    r
zeroes_words map mapped entry IsGood n r zeroes functions types k x [] charge weight =
    record { from = λ code pc f has w p. absurd p.1 }
zeroes_words map mapped entry IsGood n r zeroes functions types k x (dv ∷ []) charge weight =
    record { from = λ code pc f has w p. absurd p.1.1 }
zeroes_words map mapped entry IsGood n r zeroes functions types k x (dv ∷ nv ∷ []) charge weight = record {
  from = λ code pc f has w p.
      (let g = views_of map functions types entry in
      let size = nv.word in
      let q = p.2 in let is = q.size in let address = q.address in let at = p.1.0 in
      let aligned = (p.0.objects.sound.at n).aligned in
      let placed = p.0.objects.placed n q.live in let first = placed.first in let last = placed.last in
      weaken (in_runtime map charge weight) code (16 + 4 * size)
      (16 + 4 * work_of (zeroing n 1 (dv ∷ nv ∷ [])) x) (Goes pc f) (pc + length r)
      (Either (HasZeroed map entry IsGood 0 size 3 f) Never)
      (Leaves g k IsGood Nowhere 3 x f (zeroing n 1 (dv ∷ nv ∷ []) x))
      (omega arith) (by f p.0 q p.1.0)
      ((zeroes size charge weight).from code pc f has w (
        record {
          size = p.1.1.0;
          aligned = omega arith;
          range = record { first = omega arith; last = omega arith };
        },
        p.0.spaces,
      )));
}
  where
    by : (f : State) → IsFor (views_of map functions types entry) k IsGood x f → IsToZeroObject n x (dv ∷ nv ∷ [])
        → f.values 0 ≡ dv.word → (y : Outcome) → Either (HasZeroed map entry IsGood 0 nv.word 3 f) Never y
        → Leaves (views_of map functions types entry) k IsGood Nowhere 3 x f (zeroing n 1 (dv ∷ nv ∷ []) x) y
    by f stands q at (Continues z) h = given map mapped entry IsGood functions types k n x dv nv f z stands q at h
    by f stands q at (Halts status report z) never = absurd never
zeroes_words map mapped entry IsGood n r zeroes functions types k x (dv ∷ nv ∷ v ∷ vs) charge weight =
    record { from = λ code pc f has w p. absurd p.1.1.1 }

-- ---- calls

module _ (map : MapSizes) (mapped : AreMapped map) (entry : View) (IsGood : Bytes → Type 0) (p : FlatProgram)
    (s : CallSite) (fn : FlatFunction) (of : IsOfRuntime map entry IsGood Zero fn)
    (calls : CallsFunction map p s fn) (n : ℕ) where
  abbrev act : IsActionFunction map entry IsGood (IsToZeroObject n) (zeroing n) zeroing_interface 2 0 fn
  act = record {
    routine = of.routine;
    is = of.is;
    does = zeroes_words map mapped entry IsGood n of.routine of.code.0;
    priced = price_alone of.routine of.code.1;
    laid = record { taken = ((omega arith, tt), ((omega arith, tt), tt)); given = tt; own = omega arith };
  }

  alike : (vs : List Value) (line : ℕ) → RunsAlikeAt line (zeroing n 1 vs) (zeroing n line vs)
  alike vs line = record { by = λ x. refl }

  pub zero_served : (functions : ℕ) (types : ℕ → ℕ) (k : Keys) (x : Source) (vs : List Value) (line : ℕ)
      → IsReady (views_of map functions types entry) k IsGood zeroing_interface s x vs → IsToZeroObject n x vs
      → ServesCall map p (views_of map functions types entry) k IsGood zeroing_interface s 2 0 line x (zeroing n line vs)
  zero_served functions types k x vs line ready premise =
      served map entry IsGood (IsToZeroObject n) (zeroing n) zeroing_interface p s fn 2 0 act
      (record { calls = calls; is = of.is }) functions types k x vs line (alike vs line) ready premise
