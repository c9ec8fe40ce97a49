-- Registers that code sets one after another.
use Rattle.std.proofs.Common.{◌≡◌, ℕ, ◌≤◌, List, length, refl, ◌∙◌, subst, arith}
use Rattle.flat_code.specs.declared.instruction.FlatInstruction.{FlatInstruction}
use Rattle.flat_code.specs.Memory.{put}
use Rattle.flat_code.specs.State.{State}
use Rattle.flat_code.specs.Words.{IsOfWords}
use Rattle.flat_code.specs.Meaning.{Context}
use Rattle.flat_code.proofs.Stored.{put_same, put_other}
use Rattle.flat_code.specs.Routines.Routine.{Does, Outcome, Continues}
use Rattle.flat_code.specs.Routines.Effects.{effects, AreAllowed}
use Rattle.flat_code.specs.Routines.Metadata.{ShowsNothing}
use Rattle.flat_code.proofs.Routines.Straight.{run_straight}
use Rattle.flat_code.proofs.Routines.Showing.{shows_both}
use Rattle.flat_operators.specs.Results.{HasResult, IsUnchanged, Anywhere}

-- one register and the work so far are set, and all else is as before
abbrev pub with_set : (d v work : ℕ) → State → State
with_set d v w s = record s { values = put s.values d v; work = w }

shows_same : (d v w : ℕ) (s : State) → ShowsNothing s (with_set d v w s)
shows_same d v w s = record { input = refl; output = refl; taken = refl; accesses = refl; turns = refl }

module _ (n : ℕ) where
  pub one_set : (d v w : ℕ) (s : State) → HasResult d v n s (with_set d v w s)
  one_set d v w s = record {
    result = put_same s.values d v;
    others = λ x low ne. put_other s.values d v x ne;
    memory = refl;
    shows = shows_same d v w s;
  }

  pub scratch_set : (v w : ℕ) (s : State) → IsUnchanged n s (with_set n v w s)
  scratch_set v w s = record {
    registers = λ x low. put_other s.values n v x (λ e. omega arith);
    memory = refl;
    shows = shows_same n v w s;
  }

  pub set_again : (d u v : ℕ) (s s1 s2 : State) → HasResult d u n s s1 → HasResult d v n s1 s2 → HasResult d v n s s2
  set_again d u v s s1 s2 a b = record {
    result = b.result;
    others = λ x low ne. b.others x low ne ∙ a.others x low ne;
    memory = b.memory ∙ a.memory;
    shows = shows_both s s1 s2 a.shows b.shows;
  }

  pub set_behind : (d v : ℕ) (s s1 s2 : State) → IsUnchanged n s s1 → HasResult d v n s1 s2 → HasResult d v n s s2
  set_behind d v s s1 s2 a b = record {
    result = b.result;
    others = λ x low ne. b.others x low ne ∙ a.registers x low;
    memory = b.memory ∙ a.memory;
    shows = shows_both s s1 s2 a.shows b.shows;
  }

  pub is_value : (d u v : ℕ) (s s' : State) → u ≡ v → HasResult d u n s s' → HasResult d v n s s'
  is_value d u v s s' e h = subst (λ w. HasResult d w n s s') e h

-- code without jumps does what its effects give
pub does_straight : (c : Context) (is : List FlatInstruction) (b : ℕ) (Q : State → Outcome → Type 0) → length is ≤ b
    → ((s : State) → IsOfWords s → AreAllowed c is s × Q s (Continues (effects c is s)))
    → Does c is Anywhere (λ s. b) Q
does_straight c is b Q le h = record {
  from = λ code pc s has w p. record {
    steps = length is;
    within = le;
    outcome = Continues (effects c is s);
    comes = run_straight c code is pc s (h s w).0 has;
    holds = (h s w).1;
  };
}
