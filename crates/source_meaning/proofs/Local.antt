-- Actions that keep the variables of the function that runs: its plain values and its homes.
use Rattle.std.proofs.Common.{◌≡◌, ℕ, ◌≤◌, Bool, true, false, refl, ◌∙◌}
use Rattle.sb_base.specs.declared.ending.Ending.{Ending}
use Rattle.obj_memory.specs.Objects.{Objects}
use Rattle.obj_memory.specs.Sound.{Continues}
use Rattle.obj_memory.proofs.Continuing.{continues_same, continues_new, continues_dead, continues_zeroed}
use Rattle.obj_memory.proofs.Continuing.{continues_value, continues_moved}
use Rattle.source_meaning.specs.State.{State, Outcome, Gives, Ended, Paused, Run, on, ◌>>=◌, ◌>>◌, done, stop, choose}
use Rattle.source_meaning.specs.State.{read_state, change, skip, tally}
use Rattle.source_meaning.specs.Acting.{at_work, IsAction}
use Rattle.source_meaning.specs.Staying.{KeepsVariables, KeepsBy, Keeps}
use Rattle.source_meaning.proofs.Acting.{acts_on, acts_then, acts_done, acts_skip, acts_stop, acts_choose, acts_read}
use Rattle.source_meaning.proofs.Acting.{acts_tally, acts_change, acts_objects, no_fewer}

pub record IsLocal {A : Type 0} (r : Run A) : Type 0 where
  pub action : IsAction r
  pub keeps : (s : State) → KeepsBy s (r s)

pub local_keeps : {A : Type 0} {r : Run A} → IsLocal r → Keeps r
local_keeps h = record { keeps = h.keeps }

keeps_same : (s : State) → KeepsVariables s s
keeps_same s = record { plain = refl; frame = refl }

from_by : {A : Type 0} (s s1 : State) (o : Outcome A) → KeepsVariables s s1 → KeepsBy s1 o → KeepsBy s o
from_by s s1 (Gives a s') p q = record { plain = q.plain ∙ p.plain; frame = q.frame ∙ p.frame }
from_by s s1 (Ended e s') p q = tt
from_by s s1 (Paused s') p q = tt

on_by : {A B : Type 0} (s : State) (o : Outcome A) (f : A → Run B) → KeepsBy s o → ((a : A) → IsLocal (f a))
    → KeepsBy s (on o f)
on_by s (Gives a s') f p g = from_by s s' (f a s') p ((g a).keeps s')
on_by s (Ended e s') f p g = tt
on_by s (Paused s') f p g = tt

pub local_on : {A B : Type 0} {r : Run A} {f : A → Run B} → IsLocal r → ((a : A) → IsLocal (f a)) → IsLocal (r >>= f)
local_on {r = r} {f = f} h g = record
    { action = acts_on h.action (λ a. (g a).action); keeps = λ s. on_by s (r s) f (h.keeps s) g }

pub local_then : {A B : Type 0} {r : Run A} {q : Run B} → IsLocal r → IsLocal q → IsLocal (r >> q)
local_then {r = r} {q = q} h g = record
    { action = acts_then h.action g.action; keeps = λ s. on_by s (r s) (λ _. q) (h.keeps s) (λ _. g) }

pub local_done : {A : Type 0} {a : A} → IsLocal (done a)
local_done = record { action = acts_done; keeps = λ s. keeps_same s }

pub local_skip : IsLocal skip
local_skip = record { action = acts_skip; keeps = λ s. keeps_same s }

pub local_stop : {A : Type 0} {e : Ending} → IsLocal (stop {A = A} e)
local_stop = record { action = acts_stop; keeps = λ s. tt }

pub local_choose : {A : Type 0} (b : Bool) {r q : Run A} → IsLocal r → IsLocal q → IsLocal (choose b r q)
local_choose true h g = h
local_choose false h g = g

pub local_read : {A : Type 0} {f : State → A} → ((k : ℕ) (s : State) → f (at_work k s) ≡ f s) → IsLocal (read_state f)
local_read e = record { action = acts_read e; keeps = λ s. keeps_same s }

pub local_tally : (n : ℕ) → IsLocal (tally n)
local_tally n = record { action = acts_tally n; keeps = λ s. record { plain = refl; frame = refl } }

-- a change that is not to the count of work or of turns, not to what is shown, and not to variables
pub local_change : {f : State → State} → ((k : ℕ) (s : State) → f (at_work k s) ≡ at_work k (f s))
    → ((s : State) → (f s).work ≡ s.work) → ((s : State) → (f s).turns ≡ s.turns)
    → ((s : State) → (f s).output ≡ s.output) → ((s : State) → (f s).accesses ≡ s.accesses)
    → ((s : State) → (f s).taken ≡ s.taken) → ((s : State) → s.keys ≤ (f s).keys)
    → ((s : State) → Continues s.objects (f s).objects)
    → ((s : State) → (f s).plain ≡ s.plain) → ((s : State) → (f s).frame ≡ s.frame) → IsLocal (change f)
local_change e w t o a n y c p h = record
    { action = acts_change e w t o a n y c; keeps = λ s. record { plain = p s; frame = h s } }

pub local_objects : (f : Objects → Objects) → ((objects : Objects) → Continues objects (f objects))
    → IsLocal (change (λ s. record s { objects = f s.objects }))
local_objects f c = record { action = acts_objects f c; keeps = λ s. record { plain = refl; frame = refl } }

pub ruleset local_changes = (
  local_change,
  no_fewer,
  continues_same,
  continues_new,
  continues_dead,
  continues_zeroed,
  continues_value,
  continues_moved,
)

pub ruleset local_basic =
    (local_on, local_then, local_done, local_skip, local_stop, local_read, local_tally, local_choose)
