-- What is made of actions is an action.
use Rattle.std.proofs.Common.{◌≡◌, ℕ, ◌+◌, ◌≤◌, Bool, true, false, refl, sym, ap, ◌∙◌, arith}
use Rattle.behaviours.proofs.Moments.{prefix_refl, prefix_trans, prefix_same}
use Rattle.sb_base.specs.declared.ending.Ending.{Ending}
use Rattle.obj_memory.specs.Objects.{Objects}
use Rattle.obj_memory.specs.Sound.{Continues}
use Rattle.obj_memory.proofs.Continuing.{continues_same, continues_then, continues_new, continues_dead}
use Rattle.obj_memory.proofs.Continuing.{continues_zeroed, continues_value, continues_moved}
use Rattle.source_meaning.specs.State.{State, Outcome, Gives, Ended, Paused, Run, on, ◌>>=◌, ◌>>◌, done, stop, choose}
use Rattle.source_meaning.specs.State.{read_state, change, skip, tally}
use Rattle.source_meaning.specs.Acting.{at_work, Later, Advances, ActsBy, IsAction}

pub later_same : (s : State) → Later s s
later_same s = record {
  output = prefix_refl s.output;
  accesses = prefix_refl s.accesses;
  taken = omega arith;
  work = omega arith;
  turns = omega arith;
  keys = omega arith;
  objects = continues_same s.objects;
}

pub later_then : {s s1 s2 : State} → Later s s1 → Later s1 s2 → Later s s2
later_then {s = s} {s1 = s1} {s2 = s2} p q = record {
  output = prefix_trans s.output s1.output s2.output p.output q.output;
  accesses = prefix_trans s.accesses s1.accesses s2.accesses p.accesses q.accesses;
  taken = omega (arith, p.taken, q.taken);
  work = omega (arith, p.work, q.work);
  turns = omega (arith, p.turns, q.turns);
  keys = omega (arith, p.keys, q.keys);
  objects = continues_then s.objects s1.objects s2.objects p.objects q.objects;
}

advances_same : (k : ℕ) (s : State) → Advances k k s s
advances_same k s = record { work = refl; turns = refl; later = later_same s }

advances_then : {k k1 k2 : ℕ} {s s1 s2 : State} → Advances k k1 s s1 → Advances k1 k2 s1 s2 → Advances k k2 s s2
advances_then e f = record
    { work = omega (arith, e.work, f.work); turns = f.turns ∙ e.turns; later = later_then e.later f.later }

from_by : {A : Type 0} {k k1 : ℕ} {s s1 : State} (o o' : Outcome A) → Advances k k1 s s1 → ActsBy k1 s1 o o'
    → ActsBy k s o o'
from_by (Gives a s') o' e h = (h.0, h.1, advances_then e h.2)
from_by (Ended x s') o' e h = (h.0, h.1, advances_then e h.2)
from_by (Paused s') o' e h = h

to_by : {A : Type 0} (k : ℕ) (s : State) (o o' o'' : Outcome A) → o'' ≡ o' → ActsBy k s o o' → ActsBy k s o o''
to_by k s (Gives a s') o' o'' e h = (h.0, e ∙ h.1, h.2)
to_by k s (Ended x s') o' o'' e h = (h.0, e ∙ h.1, h.2)
to_by k s (Paused s') o' o'' e h = h

on_by : {A B : Type 0} (k : ℕ) (s : State) (o o' : Outcome A) (f : A → Run B) → ActsBy k s o o'
    → ((a : A) → IsAction (f a)) → ActsBy k s (on o f) (on o' f)
on_by k s (Gives a s') o' f h g =
    to_by k s (f a s') (f a (at_work h.0 s')) (on o' f) (ap (λ o. on o f) h.1)
    (from_by (f a s') _ h.2 ((g a).acts s' h.0))
on_by k s (Ended x s') o' f h g = (h.0, ap (λ o. on o f) h.1, h.2)
on_by k s (Paused s') o' f h g = h

pub acts_on : {A B : Type 0} {r : Run A} {f : A → Run B} → IsAction r → ((a : A) → IsAction (f a)) → IsAction (r >>= f)
acts_on {r = r} {f = f} h g = record { acts = λ s k. on_by k s (r s) (r (at_work k s)) f (h.acts s k) g }

pub acts_then : {A B : Type 0} {r : Run A} {q : Run B} → IsAction r → IsAction q → IsAction (r >> q)
acts_then {r = r} {q = q} h g = record
    { acts = λ s k. on_by k s (r s) (r (at_work k s)) (λ _. q) (h.acts s k) (λ _. g) }

pub acts_done : {A : Type 0} {a : A} → IsAction (done a)
acts_done = record { acts = λ s k. (k, refl, advances_same k s) }

pub acts_skip : IsAction skip
acts_skip = record { acts = λ s k. (k, refl, advances_same k s) }

pub acts_stop : {A : Type 0} {e : Ending} → IsAction (stop {A = A} e)
acts_stop = record { acts = λ s k. (k, refl, advances_same k s) }

pub acts_choose : {A : Type 0} (b : Bool) {r q : Run A} → IsAction r → IsAction q → IsAction (choose b r q)
acts_choose true h g = h
acts_choose false h g = g

-- what is read of a state is no count of work
pub acts_read : {A : Type 0} {f : State → A} → ((k : ℕ) (s : State) → f (at_work k s) ≡ f s) → IsAction (read_state f)
acts_read {f = f} e = record { acts = λ s k. (k, ap (λ a. Gives a (at_work k s)) (e k s), advances_same k s) }

pub acts_tally : (n : ℕ) → IsAction (tally n)
acts_tally n = record {
  acts = λ s k. (
    k + n,
    refl,
    record {
      work = omega arith;
      turns = refl;
      later = record {
        output = prefix_refl s.output;
        accesses = prefix_refl s.accesses;
        taken = omega arith;
        work = omega arith;
        turns = omega arith;
        keys = omega arith;
        objects = continues_same s.objects;
      };
    },
  );
}

-- a change that is not to the count of work or of turns, and not to what is shown
pub acts_change : {f : State → State} → ((k : ℕ) (s : State) → f (at_work k s) ≡ at_work k (f s))
    → ((s : State) → (f s).work ≡ s.work) → ((s : State) → (f s).turns ≡ s.turns)
    → ((s : State) → (f s).output ≡ s.output) → ((s : State) → (f s).accesses ≡ s.accesses)
    → ((s : State) → (f s).taken ≡ s.taken) → ((s : State) → s.keys ≤ (f s).keys)
    → ((s : State) → Continues s.objects (f s).objects)
    → IsAction (change f)
acts_change {f = f} e w t o a n y c = record {
  acts = λ s k. (
    k,
    ap (Gives tt) (e k s),
    record {
      work = ap (λ n. k + n) (sym (w s));
      turns = t s;
      later = record {
        output = prefix_same s.output (f s).output (sym (o s));
        accesses = prefix_same s.accesses (f s).accesses (sym (a s));
        taken = omega (arith, n s);
        work = omega (arith, w s);
        turns = omega (arith, t s);
        keys = y s;
        objects = c s;
      };
    },
  );
}

-- a change of the objects alone
pub acts_objects : (f : Objects → Objects) → ((objects : Objects) → Continues objects (f objects))
    → IsAction (change (λ s. record s { objects = f s.objects }))
acts_objects f c = acts_change (λ k s. refl) (λ s. refl) (λ s. refl) (λ s. refl) (λ s. refl) (λ s. refl)
    (λ s. omega arith) (λ s. c s.objects)

-- a change of what is neither shown nor counted, and no object
pub acts_private : {f : State → State} → ((k : ℕ) (s : State) → f (at_work k s) ≡ at_work k (f s))
    → ((s : State) → (f s).work ≡ s.work) → ((s : State) → (f s).turns ≡ s.turns)
    → ((s : State) → (f s).output ≡ s.output) → ((s : State) → (f s).accesses ≡ s.accesses)
    → ((s : State) → (f s).taken ≡ s.taken) → ((s : State) → (f s).keys ≡ s.keys)
    → ((s : State) → (f s).objects ≡ s.objects)
    → IsAction (change f)
acts_private {f = f} e w t o a n y c = acts_change e w t o a n (λ s. omega (arith, y s))
    (λ s. rw (c s) (continues_same s.objects))

pub no_fewer : (n : ℕ) → n ≤ n
no_fewer n = omega arith

pub ruleset changes = (
  acts_change,
  no_fewer,
  continues_same,
  continues_new,
  continues_dead,
  continues_zeroed,
  continues_value,
  continues_moved,
)

pub ruleset basic = (acts_on, acts_then, acts_done, acts_skip, acts_stop, acts_read, acts_tally, acts_choose)
