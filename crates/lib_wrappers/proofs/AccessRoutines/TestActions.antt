-- The tests are whole actions: of the source each is a run that gives nothing.
use Rattle.std.proofs.Common.{◌≡◌, ℕ, ◌+◌, ◌*◌, ◌^◌, ◌<◌, ◌≤◌, List, [], ◌∷◌, Bool, true, false, length, arith}
use Rattle.sb_base.specs.declared.ending.Ending.{Ending}
use Rattle.addr_map.specs.Places.{AreMapped}
use Rattle.obj_memory.specs.declared.value.Value.{Value}
use Rattle.source_meaning.specs.State.{State as Source, on, ◌>>◌, done}
use Rattle.source_meaning.specs.Actions.{integer}
use Rattle.source_meaning.specs.Blocks.{pass_or_stop}
use Rattle.source_meaning.specs.Judging.{is_within, is_live_tag, test_bounds, test_life}
use Rattle.source_meaning.specs.Library.{argument}
use Rattle.flat_code.specs.declared.instruction.RightOperand.TheVariants.{Number}
use Rattle.flat_code.specs.declared.instruction.FlatInstruction.{FlatInstruction}
use Rattle.flat_code.specs.Memory.{Bytes}
use Rattle.flat_code.specs.State.{State}
use Rattle.flat_code.specs.Meaning.{Goes}
use Rattle.flat_code.specs.declared.registers.Held.{Held}
use Rattle.flat_code.specs.Routines.Routine.{Outcome, Continues, Halts}
use Rattle.flat_code.proofs.Routines.Rules.{weaken}
use Rattle.flat_code.specs.Routines.Objects.StandsFor.{Views, Keys}
use Rattle.flat_actions.specs.Actions.{Basis, IsFor, Nowhere, Pointer, Leaves, IsAction, IsActionIn, context_in}
use Rattle.flat_actions.specs.Actions.{views_of}
use Rattle.flat_actions.specs.Actions.{work_of}
use Rattle.flat_actions.proofs.Standing.{given_still, ended_still, unwritten_same}
use Rattle.flat_actions.specs.Judgement.Testing.{IsTested, IsSpatialRoutine, IsTemporalRoutine}

tested_leaves : (g : Views) (k : Keys) (IsGood : Bytes → Type 0) (t : ℕ) (x : Source) (f : State) → IsFor g k IsGood x f
    → (passes : Bool) (e : Ending) (o : Outcome) → IsTested (pass_or_stop passes e x) t f o
    → Leaves g k IsGood Nowhere t x f (on (pass_or_stop passes e x) (λ u. done (integer 0))) o
tested_leaves g k IsGood t x f stands true e (Continues z) same =
    given_still g k IsGood Nowhere t x x.work f z (integer 0) stands same.memory same.shows tt same.others
tested_leaves g k IsGood t x f stands true e (Halts status report z) h = absurd h
tested_leaves g k IsGood t x f stands false e (Continues z) h = absurd h
tested_leaves g k IsGood t x f stands false e (Halts status report z) h =
    ended_still e x x.work status report f z stands.shown h.2.shows (unwritten_same h.2.memory) h.0 h.1

-- of a known number of bytes
pub spatial_acts : (basis : Basis) (h : Held) (n line t : ℕ) (r : List FlatInstruction) → 1 ≤ n → n < 2 ^ 64
    → IsSpatialRoutine h (Number n) line t r
    → IsAction basis (λ vs. test_bounds n (argument 0 vs) line >> done (integer 0)) (Pointer h ∷ []) Nowhere t 5 0 r
spatial_acts basis h n line t r some small does functions types k x [] charge weight =
    record { from = λ code pc f has w p. absurd p.1 }
spatial_acts basis h n line t r some small does functions types k x (v ∷ []) charge weight = record {
  from = λ code pc f has w p.
      let g = views_of basis.map functions types basis.entry in
      weaken (context_in basis charge weight) code 5
      (5 + 0 * work_of (test_bounds n v line >> done (integer 0)) x) (Goes pc f) (pc + length r) _ _ (omega arith)
      (tested_leaves g k basis.IsGood t x f p.0 (is_within v.tag v.word n) _)
      ((does g k x v n basis.is_runtime charge weight).from code pc f has w
      (record { stands = p.0.objects; sound = p.1.0.1; spells = p.1.0.0 }, omega arith, some));
}
spatial_acts basis h n line t r some small does functions types k x (v ∷ u ∷ vs) charge weight =
    record { from = λ code pc f has w p. absurd p.1.1 }

-- where the tag is known to be that of an object
abbrev pub IsOfObject : Source → List Value → Type 0
IsOfObject x vs = (a : ℕ) × (n : ℕ) × (is_within (argument 0 vs).tag a n ≡ true)

pub temporal_acts : (basis : Basis) (h : Held) (line t : ℕ) (r : List FlatInstruction) → AreMapped basis.map
    → IsTemporalRoutine h line t r
    → IsActionIn basis IsOfObject (λ vs. test_life (argument 0 vs) line >> done (integer 0)) (Pointer h ∷ []) Nowhere t
    3
    0 r
temporal_acts basis h line t r mapped does functions types k x [] charge weight =
    record { from = λ code pc f has w p. absurd p.1 }
temporal_acts basis h line t r mapped does functions types k x (v ∷ []) charge weight = record {
  from = λ code pc f has w p.
      let g = views_of basis.map functions types basis.entry in
      weaken (context_in basis charge weight) code 3
      (3 + 0 * work_of (test_life v line >> done (integer 0)) x) (Goes pc f) (pc + length r) _ _ (omega arith)
      (tested_leaves g k basis.IsGood t x f p.0 (is_live_tag v.tag x.objects) _)
      ((does g k x v p.2.0 p.2.1 basis.is_runtime charge weight mapped).from code pc f has w
      (record { stands = p.0.objects; sound = p.1.0.1; spells = p.1.0.0 }, p.2.2));
}
temporal_acts basis h line t r mapped does functions types k x (v ∷ u ∷ vs) charge weight =
    record { from = λ code pc f has w p. absurd p.1.1 }
