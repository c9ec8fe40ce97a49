-- The course of the run: it is never stuck, takes the longer branch and jump, and ends.
use Rattle.std.proofs.Common.{◌≡◌, ℕ, zero, suc, ◌+◌, Bool, true, false, ◌&&◌, List, refl, ap}
use Rattle.std.proofs.lemmas.Bool.{and_parts}
use Rattle.addr_map.specs.Places.{region_size}
use Rattle.behaviours.specs.Steps.{run}
use Rattle.rv_isa.specs.Results.{branch_taken, reg_result}
use Rattle.flat_code.specs.Memory.{Bytes, put}
use Rattle.flat_code.specs.State.{State, Stage, Stands, Over, Stuck}
use Rattle.flat_code.specs.Calls.{rooms}
use Rattle.flat_code.specs.Meaning.{step, started}
use Rattle.rv_codegen_example.specs.Program.{sizes, doublings, program, StandsBefore, Ends}

goes : Stage → Stage
goes = step sizes program

is_over : Stage → Bool
is_over (Stands f pc s frames) = false
is_over (Over status report s) = true
is_over Stuck = false

is_fine : Stage → Bool
is_fine (Stands f pc s frames) = true
is_fine (Over status report s) = true
is_fine Stuck = false

-- no stage of the first so many is stuck, and the last has ended
walks : ℕ → Stage → Bool
walks zero s = is_over s
walks (suc n) s = is_fine s && walks n (goes s)

over_stays : (k : ℕ) (status : ℕ) (report : List ℕ) (s : State)
    → run goes k (Over status report s) ≡ Over status report s
unfolding goes
over_stays zero status report s = refl
over_stays (suc k) status report s = over_stays k status report s

over_fine : (k : ℕ) (s : Stage) → is_over s ≡ true → is_fine (run goes k s) ≡ true
unfolding is_over is_fine
over_fine k (Stands f pc s frames) e = cc
over_fine k (Over status report s) e = ap is_fine (over_stays k status report s)
over_fine k Stuck e = cc

walks_fine : (n : ℕ) (s : Stage) → walks n s ≡ true → (k : ℕ) → is_fine (run goes k s) ≡ true
unfolding walks
walks_fine zero s h k = over_fine k s h
walks_fine (suc n) s h zero = (and_parts (is_fine s) (walks n (goes s)) h).0
walks_fine (suc n) s h (suc k) = walks_fine n (goes s) (and_parts (is_fine s) (walks n (goes s)) h).1 k

walked : (memory : Bytes) (input : List ℕ) → walks 50 (started program memory input) ≡ true
unfolding walks goes is_fine is_over region_size branch_taken reg_result put rooms
walked memory input = refl

stuck_not_fine : (s : Stage) → s ≡ Stuck → is_fine s ≡ true → ⊥
unfolding is_fine
stuck_not_fine s e h = let f : is_fine s ≡ false = ap is_fine e in cc

pub never_stuck : (memory : Bytes) (input : List ℕ) (k : ℕ)
    → run (step sizes program) k (started program memory input) ≡ Stuck → ⊥
unfolding goes
never_stuck memory input k e =
    stuck_not_fine (run goes k (started program memory input)) e
    (walks_fine 50 (started program memory input) (walked memory input) k)

pub ends : (memory : Bytes) (input : List ℕ)
    → Ends memory input (run (step sizes program) 50 (started program memory input))
unfolding region_size branch_taken reg_result put rooms
ends memory input = record { state = _; is = refl; output = refl }

pub takes_longer : (memory : Bytes) (input : List ℕ)
    → StandsBefore 1 5 (run (step sizes program) 12 (started program memory input))
    × StandsBefore 1 (doublings + 6) (run (step sizes program) 13 (started program memory input))
    × StandsBefore 1 3 (run (step sizes program) 14 (started program memory input))
unfolding region_size branch_taken reg_result put rooms
takes_longer memory input = (
  record { state = _; frames = _; is = refl },
  record { state = _; frames = _; is = refl },
  record { state = _; frames = _; is = refl },
)
