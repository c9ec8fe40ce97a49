-- Runs that come to later states, that lead to one another, and that pause at a limit.
use Rattle.std.proofs.Common.{ℕ, ◌+◌, ◌≤◌, Bool, true, false, refl, subst, arith}
use Rattle.behaviours.proofs.Moments.{prefix_refl}
use Rattle.obj_memory.proofs.Continuing.{continues_same}
use Rattle.source_meaning.specs.State.{State, Outcome, Gives, Ended, Paused, Run, on, ◌>>=◌, done, pause, choose}
use Rattle.source_meaning.specs.Acting.{Later, ActsBy, IsAction, state_of}
use Rattle.source_meaning.proofs.Turning.{GoesLater, IsBelow, LeadsTo, IsWithin, PausesAt}
use Rattle.source_meaning.proofs.Acting.{later_same, later_then, acts_done}

later_of_action : {A : Type 0} (k : ℕ) (s : State) (o o' : Outcome A) → ActsBy k s o o' → Later s (state_of o)
later_of_action k s (Gives a s') o' h = h.2.later
later_of_action k s (Ended e s') o' h = h.2.later
later_of_action k s (Paused s') o' h = absurd h

pub later_action : {A : Type 0} {r : Run A} → IsAction r → GoesLater r
later_action {r = r} h = record { later = λ s. later_of_action 0 s (r s) _ (h.acts s 0) }

pub below_same : {A : Type 0} (o : Outcome A) → IsBelow o o
below_same (Gives a s) = refl
below_same (Ended e s) = refl
below_same (Paused s) = later_same s

module _ {A B : Type 0} where
  later_after : (s : State) (o : Outcome A) (k : A → Run B) → Later s (state_of o) → ((a : A) → GoesLater (k a))
      → Later s (state_of (on o k))
  later_after s (Gives a s') k p g = later_then p ((g a).later s')
  later_after s (Ended e s') k p g = p
  later_after s (Paused s') k p g = p

  pub later_on : {r : Run A} {k : A → Run B} → GoesLater r → ((a : A) → GoesLater (k a)) → GoesLater (r >>= k)
  later_on {r = r} {k = k} p g = record { later = λ s. later_after s (r s) k (p.later s) g }

  below_on : (o o' : Outcome A) (k k' : A → Run B) → IsBelow o o' → ((a : A) → LeadsTo (k a) (k' a))
      → IsBelow (on o k) (on o' k')
  below_on (Gives a s) o' k k' p q = subst (λ x. IsBelow (k a s) (on x k')) p ((q a).below s)
  below_on (Ended e s) o' k k' p q = subst (λ x. IsBelow (on (Ended e s) k) (on x k')) p refl
  below_on (Paused s) o' k k' p q = later_after s o' k' p (λ a. (q a).later)

  pub leads_on : {r r' : Run A} {k k' : A → Run B} → LeadsTo r r' → ((a : A) → LeadsTo (k a) (k' a))
      → LeadsTo (r >>= k) (r' >>= k')
  leads_on {r = r} {r' = r'} {k = k} {k' = k'} p q = record {
    below = λ s. below_on (r s) (r' s) k k' (p.below s) q;
    later = later_on p.later (λ a. (q a).later);
  }

  within_on : (limit left : ℕ) (s : State) (o : Outcome A) (k : A → Run B) → IsWithin limit o → Later s (state_of o)
      → limit ≤ s.turns + left → ((a : A) → PausesAt limit left (k a)) → IsWithin limit (on o k)
  within_on limit left s (Gives a s') k w l b h = (h a).within s' w (omega (arith, l.turns))
  within_on limit left s (Ended e s') k w l b h = w
  within_on limit left s (Paused s') k w l b h = w

  pub pauses_on : {limit left : ℕ} {r : Run A} {k : A → Run B} → PausesAt limit left r
      → ((a : A) → PausesAt limit left (k a)) → PausesAt limit left (r >>= k)
  pauses_on {limit = limit} {left = left} {r = r} {k = k} p h = record {
    later = later_on p.later (λ a. (h a).later);
    within = λ s w b. within_on limit left s (r s) k (p.within s w b) (p.later.later s) b h;
  }

module _ {A : Type 0} where
  pub later_done : (a : A) → GoesLater (done a)
  later_done a = later_action acts_done

  pub later_pause : GoesLater (pause {A = A})
  later_pause = record { later = λ s. later_same s }

  pub later_choose : (b : Bool) {r r' : Run A} → GoesLater r → GoesLater r' → GoesLater (choose b r r')
  later_choose true g g' = g
  later_choose false g g' = g'

  pub leads_action : {r : Run A} → IsAction r → LeadsTo r r
  leads_action {r = r} h = record { below = λ s. below_same (r s); later = later_action h }

  pub leads_pause : {r : Run A} → GoesLater r → LeadsTo pause r
  leads_pause {r = r} g = record { below = λ s. g.later s; later = g }

  pub leads_choose : (b : Bool) {r r' q q' : Run A} → LeadsTo r q → LeadsTo r' q'
      → LeadsTo (choose b r r') (choose b q q')
  leads_choose true l l' = l
  leads_choose false l l' = l'

  within_of_action : (limit k : ℕ) (s : State) (o o' : Outcome A) → s.turns ≤ limit → ActsBy k s o o' → IsWithin limit o
  within_of_action limit k s (Gives a s') o' w h = omega (arith, h.2.turns)
  within_of_action limit k s (Ended e s') o' w h = omega (arith, h.2.turns)
  within_of_action limit k s (Paused s') o' w h = absurd h

  pub pauses_action : (limit left : ℕ) {r : Run A} → IsAction r → PausesAt limit left r
  pauses_action limit left {r = r} h = record
      { later = later_action h; within = λ s w b. within_of_action limit 0 s (r s) _ w (h.acts s 0) }

  pub pauses_less : {limit : ℕ} {r : Run A} (left left' : ℕ) → left' ≤ left → PausesAt limit left r
      → PausesAt limit left' r
  pauses_less left left' le h = record { later = h.later; within = λ s w e. h.within s w (omega arith) }

  pub pauses_choose : {limit : ℕ} (left : ℕ) (b : Bool) {r r' : Run A} → PausesAt limit left r → PausesAt limit left r'
      → PausesAt limit left (choose b r r')
  pauses_choose left true g g' = g
  pauses_choose left false g g' = g'

-- a further turn
pub later_turn : (s : State) → Later s (record s { turns = s.turns + 1 })
later_turn s = record {
  output = prefix_refl s.output;
  accesses = prefix_refl s.accesses;
  taken = omega arith;
  work = omega arith;
  turns = omega arith;
  keys = omega arith;
  objects = continues_same s.objects;
}
