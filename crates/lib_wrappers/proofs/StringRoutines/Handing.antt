-- What is left since a state before.
use Rattle.std.proofs.Common.{◌≡◌, ℕ, ◌≤◌, [], ap, ◌∙◌, arith}
use Rattle.obj_memory.specs.declared.value.Value.{Value}
use Rattle.source_meaning.specs.State.{State as Source, Outcome as Completed, Gives, Ended, Paused}
use Rattle.source_meaning.specs.Acting.{at_work}
use Rattle.flat_code.specs.Memory.{Bytes}
use Rattle.flat_code.specs.State.{State}
use Rattle.flat_code.specs.Routines.Registers.{OthersStay}
use Rattle.flat_code.specs.Routines.Routine.{Outcome, Continues, Halts}
use Rattle.flat_code.specs.Routines.Metadata.{ShowsNothing}
use Rattle.flat_code.specs.Routines.Objects.StandsFor.{Views, Keys}
use Rattle.flat_actions.specs.Actions.{Nowhere, Leaves}
use Rattle.flat_actions.proofs.Standing.{unwritten_since}

-- registers below t, memory and what is shown are as before
pub record IsSince (t : ℕ) (f f' : State) : Type 0 where
  pub memory : f'.memory ≡ f.memory
  pub shows : ShowsNothing f f'
  pub others : OthersStay [] t f f'

module _ (g : Views) (k : Keys) (IsGood : Bytes → Type 0) where
  -- what was left from a later state, at another count of work and with more registers that stay
  pub left_from : (t u w : ℕ) (x : Source) (f f' : State) (r : Completed Value) (o : Outcome) → t ≤ u → IsSince t f f'
      → Leaves g k IsGood Nowhere u (at_work w x) f' r o → Leaves g k IsGood Nowhere t x f r o
  left_from t u w x f f' (Gives v x') (Continues f2) le s h = record {
    keys = h.keys;
    held = record { own = h.held.own; held = h.held.held };
    stands = h.stands;
    given = h.given;
    turns = h.turns ∙ s.shows.turns;
    elsewhere = record {
      low = λ a l out. h.elsewhere.low a l out ∙ ap (λ m. m a) s.memory;
      behind = λ a l. h.elsewhere.behind a l ∙ ap (λ m. m a) s.memory;
    };
    others = λ r less none. h.others r (omega arith) tt ∙ s.others r less tt;
  }
  left_from t u w x f f' (Ended e x') (Halts status report f2) le s h = record {
    status_is = h.status_is;
    report_is = h.report_is;
    shown = h.shown;
    turns = h.turns ∙ s.shows.turns;
    unwritten = unwritten_since s.memory h.unwritten;
  }
  left_from t u w x f f' (Gives v x') (Halts status report f2) le s h = h
  left_from t u w x f f' (Ended e x') (Continues f2) le s h = h
  left_from t u w x f f' (Paused x') o le s h = h
