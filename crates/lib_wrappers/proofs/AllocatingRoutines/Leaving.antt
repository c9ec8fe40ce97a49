-- What is left of a state is left of one before it that differs in registers.
use Rattle.std.proofs.Common.{◌≡◌, ℕ, ◌≤◌, ap, ◌∙◌, arith}
use Rattle.source_meaning.specs.State.{State as Source, Outcome as Completed, Gives, Ended, Paused}
use Rattle.obj_memory.specs.declared.value.Value.{Value}
use Rattle.flat_code.specs.Memory.{Bytes}
use Rattle.flat_code.specs.State.{State}
use Rattle.flat_code.specs.Routines.Registers.{OthersStay}
use Rattle.flat_code.specs.Routines.Routine.{Outcome, Continues, Halts, Either}
use Rattle.flat_code.specs.Routines.Metadata.{ShowsNothing}
use Rattle.flat_code.specs.Routines.Objects.StandsFor.{Views, Keys}
use Rattle.flat_actions.specs.Actions.{Holder, registers_of, Leaves}
use Rattle.flat_actions.proofs.Standing.{unwritten_since}

module _ (g : Views) (k : Keys) (IsGood : Bytes → Type 0) (result : Holder) (t u : ℕ) (le : t ≤ u) (x : Source)
    (s s1 : State) (memory : s1.memory ≡ s.memory) (shows : ShowsNothing s s1)
    (others : OthersStay (registers_of result) t s s1) where
  pub leaves_from : (o : Completed Value) (y : Outcome) → Leaves g k IsGood result u x s1 o y
      → Leaves g k IsGood result t x s o y
  leaves_from (Gives v x') (Continues s') h = record {
    keys = h.keys;
    held = h.held;
    stands = h.stands;
    given = h.given;
    turns = h.turns ∙ shows.turns;
    elsewhere = record {
      low = λ a l out. h.elsewhere.low a l out ∙ ap (λ m. m a) memory;
      behind = λ a l. h.elsewhere.behind a l ∙ ap (λ m. m a) memory;
    };
    others = λ r l none. h.others r (omega arith) none ∙ others r l none;
  }
  leaves_from (Ended e x') (Halts status report s') h = record {
    status_is = h.status_is;
    report_is = h.report_is;
    shown = h.shown;
    turns = h.turns ∙ shows.turns;
    unwritten = unwritten_since memory h.unwritten;
  }
  leaves_from (Gives v x') (Halts status report s') h = absurd h
  leaves_from (Ended e x') (Continues s') h = absurd h
  leaves_from (Paused x') y h = absurd h

-- a fact of an outcome, by whether the run goes on
pub either_of : (Q : Outcome → Type 0) (y : Outcome) → Q y
    → Either (λ s. Q (Continues s)) (λ status report s. Q (Halts status report s)) y
either_of Q (Continues s) q = q
either_of Q (Halts status report s) q = q
