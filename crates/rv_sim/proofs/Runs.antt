-- Runs, one instruction after another.
use Rattle.std.proofs.Common.{◌≡◌, ℕ, zero, suc, ◌+◌, ◌-◌, ◌≤◌, List, Option, Some, None, refl, sym, ap, ◌∙◌, arith}
use Rattle.rv_sim.specs.declared.stop.Stop.{Stop}
use Rattle.rv_sim.specs.declared.stop.Stop.TheVariants.{Exited, Trap, Limit, InputFault, OutputFault}
use Rattle.rv_sim.specs.State.{MachineState}
use Rattle.rv_sim.specs.Run.{Configuration, Turn, onwards, turn, runs}
use Rattle.rv_sim.specs.Seen.{IsSeen, IsRun}
use Rattle.rv_sim.specs.Turns.{FaultKeeps, TurnedOrFault}

-- the two equations of a run
pub runs-zero : (c : Configuration) → runs zero c ≡ (c, None)
unfolding runs
runs-zero c = refl

pub runs-suc : (n : ℕ) (c : Configuration) → runs (suc n) c ≡ onwards (runs n c)
unfolding runs
runs-suc n c = refl

-- what has stopped stays so
pub onwards-stopped : (t : Turn) (stop : Stop) → t.1 ≡ Some stop → onwards t ≡ t
onwards-stopped (c, None) stop e = cc
onwards-stopped (c, Some s) stop e = refl

pub onwards-going : (t : Turn) → t.1 ≡ None → onwards t ≡ turn t.0
onwards-going (c, None) e = refl
onwards-going (c, Some s) e = cc

pub runs_at : (m n : ℕ) (c : Configuration) → m ≡ n → runs m c ≡ runs n c
runs_at m n c e = ap (λ k. runs k c) e

pub runs-next : (n : ℕ) (c : Configuration) → (runs n c).1 ≡ None → runs (suc n) c ≡ turn (runs n c).0
runs-next n c e = runs-suc n c ∙ onwards-going (runs n c) e

runs-more : (k n : ℕ) (c : Configuration) (stop : Stop) → (runs n c).1 ≡ Some stop → runs (k + n) c ≡ runs n c
runs-more zero n c stop e = runs_at (zero + n) n c (omega arith)
runs-more (suc k) n c stop e =
    runs_at (suc k + n) (suc (k + n)) c (omega arith)
    ∙ (runs-suc (k + n) c ∙ (ap onwards (runs-more k n c stop e) ∙ onwards-stopped (runs n c) stop e))

pub runs_stopped : (m n : ℕ) (c : Configuration) (stop : Stop) → n ≤ m → (runs n c).1 ≡ Some stop → runs m c ≡ runs n c
runs_stopped m n c stop h e = runs_at m (m - n + n) c (omega arith) ∙ runs-more (m - n) n c stop e

going : (t : Turn) → t.1 ≡ None → t ≡ (t.0, None)
going (c, None) e = refl
going (c, Some stop) e = cc

-- a run that goes on after m instructions is cut there
pub runs-plus : (m n : ℕ) (c : Configuration) → (runs m c).1 ≡ None → runs (n + m) c ≡ runs n (runs m c).0
runs-plus m zero c e = runs_at (zero + m) m c (omega arith) ∙ (going (runs m c) e ∙ sym (runs-zero (runs m c).0))
runs-plus m (suc n) c e =
    runs_at (suc n + m) (suc (n + m)) c (omega arith)
    ∙ (runs-suc (n + m) c ∙ (ap onwards (runs-plus m n c e) ∙ sym (runs-suc n (runs m c).0)))

-- a turn that stops is what the run comes to
last : (stop : Stop) (n m : ℕ) (c : Configuration) → suc n ≤ m → (runs n c).1 ≡ None → Some stop ≡ (turn (runs n c).0).1
    → runs m c ≡ turn (runs n c).0
last stop n m c h e f =
    let next = runs-next n c e in
    runs_stopped m (suc n) c stop h (ap (λ t. t.1) next ∙ sym f) ∙ next

-- a run whose instruction after n others is the last
pub run_ends : (o e : Option (List ℕ)) (stop : Stop) (n m : ℕ) (c : Configuration) (before state : MachineState)
    (rest : List ℕ) (output errors : Option (List ℕ)) → suc n ≤ m → (Some stop ≡ Some Limit → ⊥)
    → FaultKeeps (Some stop) before state → (runs n c).1 ≡ None
    → TurnedOrFault o e (Some stop) (runs n c).0 before state rest output errors
    → IsRun o e stop m c state rest output errors
run_ends o e InputFault n m c before state rest output errors h l k goes f =
    (n, record { within = omega arith; goes = goes; asks = rw k f.0; left = f.1 })
run_ends o e OutputFault n m c before state rest output errors h l k goes f =
    (n, record { within = omega arith; goes = goes; asks = rw k f.0; left = f.1 })
run_ends o e Limit n m c before state rest output errors h l k goes f = absurd (l refl)
run_ends o e (Exited status) n m c before state rest output errors h l k goes f =
    rw (last (Exited status) n m c h goes f.0) (sym f.0, f.1)
run_ends o e (Trap kind pc) n m c before state rest output errors h l k goes f =
    rw (last (Trap kind pc) n m c h goes f.0) (sym f.0, f.1)

-- the run goes on after n instructions, at what is seen
pub record Goes (o e : Option (List ℕ)) (n : ℕ) (c : Configuration) (state : MachineState) (rest : List ℕ)
    (output errors : Option (List ℕ)) : Type 0 where
  pub goes : (runs n c).1 ≡ None
  pub seen : IsSeen o e state rest output errors (runs n c).0

pub goes_at : (o e : Option (List ℕ)) (m n : ℕ) (c : Configuration) (state : MachineState) (rest : List ℕ)
    (output errors : Option (List ℕ)) → m ≡ n → Goes o e m c state rest output errors
    → Goes o e n c state rest output errors
goes_at o e m n c state rest output errors same g = rw (sym same) g

pub goes_first : (o e : Option (List ℕ)) (c : Configuration) (state : MachineState) (rest : List ℕ)
    (output errors : Option (List ℕ)) → IsSeen o e state rest output errors c → Goes o e 0 c state rest output errors
unfolding runs
goes_first o e c state rest output errors seen = record { goes = refl; seen = seen }

pub goes_on : (o e : Option (List ℕ)) (n : ℕ) (c : Configuration) (before state : MachineState) (rest : List ℕ)
    (output errors : Option (List ℕ)) → (runs n c).1 ≡ None
    → TurnedOrFault o e None (runs n c).0 before state rest output errors → Goes o e (n + 1) c state rest output errors
goes_on o e n c before state rest output errors goes f =
    let next : runs (n + 1) c ≡ turn (runs n c).0 = runs_at (n + 1) (suc n) c (omega arith) ∙ runs-next n c goes in
    record { goes = ap (λ t. t.1) next ∙ sym f.0; seen = rw next f.1 }
