-- How code comes to what a part of the source means: rules that follow the source's run.
use Rattle.std.proofs.Common.{◌≡◌, ℕ, ◌+◌, ◌-◌, ◌*◌, ◌≤◌, List, [], Option, Some, None, Bool, true, false, refl, sym}
use Rattle.std.proofs.Common.{ap}
use Rattle.std.proofs.Common.{◌∙◌, subst, arith}
use Rattle.std.specs.Prelude.{cond, nat_lt}
use Rattle.std.proofs.lemmas.Bool.{ltb-false}
use Rattle.behaviours.specs.Steps.{run}
use Rattle.behaviours.proofs.Running.{run_add}
use Rattle.sb_base.specs.declared.ending.Ending.{Ending}
use Rattle.obj_memory.specs.Objects.{Objects}
use Rattle.source_meaning.specs.State.{State, Rvalue, Outcome, Gives, Ended, Paused, Run, on, choose, Setting}
use Rattle.source_meaning.specs.Actions.{begin_turn, is_zero}
use Rattle.source_meaning.specs.Meaning.{moment_at}
use Rattle.source_meaning.specs.Acting.{at_work, ActsBy, IsAction}
use Rattle.source_meaning.specs.Good.{Context, Leaves, After}
use Rattle.tac_ir.specs.declared.instruction.Instruction.{Instruction}
use Rattle.tac_ir.specs.declared.instruction.Instruction.TheVariants.{Branch, Turn}
use Rattle.tac_ir.specs.declared.function.Tac.{Tac}
use Rattle.tac_ir.specs.Stage.{Temps, Frame, Stage, Stands, Over, came, seen}
use Rattle.tac_ir.specs.Costs.{cost, fourfold, heavier}
use Rattle.tac_ir.specs.Meaning.{begun, fits, effect, act, act_at, at_node, step}
use Rattle.tac_ir.proofs.Fits.{only_opens}

-- Some steps lead from one stage to another. The source goes from s to s', the code counts k and then k' units of work
-- in the same states; c units may be spent beside the 8 for each unit of the source, and b of them are left.
pub record Reached (g : Setting) (t : Tac) (c b : ℕ) (x : Stage) (k : ℕ) (s s' : State) (x' : Stage) (k' : ℕ) : Type
    0 where
  pub steps : ℕ
  pub comes : run (step g t) steps x ≡ x'
  pub turns : s.turns ≤ s'.turns
  pub work : k' + b + 8 * s.work ≤ k + c + 8 * s'.work

-- The code comes to what an outcome says: where a value is given it stands at a node of the same function, over the
-- same frames, with temporaries as P says, and leaves so many units for what follows; where the source pauses it has
-- shown as much, and the limit of turns is reached.
abbrev pub ComesTo : {A : Type 0} → Setting → Tac → (limit c : ℕ) → (left : A → ℕ) → (u : ℕ) → List Frame → (A → ℕ)
    → (A → Temps → State → Type 0) → Stage → ℕ → State → Outcome A → Type 0
ComesTo g t limit c left u frames to P x k s (Gives a s') =
    (temps : Temps) × (k' : ℕ) × P a temps s'
    × Reached g t c (left a) x k s s' (Stands u (to a) temps frames (at_work k' s')) k'
ComesTo g t limit c left u frames to P x k s (Ended e s') =
    (k' : ℕ) × Reached g t c 0 x k s s' (Over e (at_work k' s')) k'
ComesTo g t limit c left u frames to P x k s (Paused s') =
    (x' : Stage) × (k' : ℕ) × (seen x' ≡ moment_at (at_work k' s') [] None) × Reached g t c 0 x k s s' x' k'
    × (limit ≤ s'.turns)

pub record GoesLeaving {A : Type 0} (g : Setting) (t : Tac) (limit c : ℕ) (left : A → ℕ) (u : ℕ) (frames : List Frame)
    (to : A → ℕ) (P : A → Temps → State → Type 0) (x : Stage) (k : ℕ) (s : State) (o : Outcome A) : Type 0 where
  pub by : ComesTo g t limit c left u frames to P x k s o

-- as much is left whatever the value
abbrev pub Goes : {A : Type 0} → Setting → Tac → (limit c b u : ℕ) → List Frame → (A → ℕ)
    → (A → Temps → State → Type 0) → Stage → ℕ → State → Outcome A → Type 0
Goes g t limit c b u frames to P x k s o = GoesLeaving g t limit c (λ _. b) u frames to P x k s o

module _ {g : Setting} {t : Tac} where
  -- a stretch before it, by which what is left may change
  pub reached_for : {c d : ℕ} (b b' : ℕ) {x x1 x' : Stage} {k k1 k' : ℕ} {s s1 s' : State} → (j : ℕ)
      → run (step g t) j x ≡ x1 → s.turns ≤ s1.turns → k1 + b' + d + 8 * s.work ≤ k + b + c + 8 * s1.work
      → Reached g t d b x1 k1 s1 s' x' k' → Reached g t c b' x k s s' x' k'
  reached_for b b' {x = x} j e turns work r = record {
    steps = j + r.steps;
    comes = run_add (step g t) j r.steps x ∙ ap (run (step g t) r.steps) e ∙ r.comes;
    turns = omega (arith, r.turns);
    work = omega (arith, r.work, work);
  }

  -- a stretch before it
  reached_from : {c d b : ℕ} {x x1 x' : Stage} {k k1 k' : ℕ} {s s1 s' : State} → (j : ℕ) → run (step g t) j x ≡ x1
      → s.turns ≤ s1.turns → k1 + d + 8 * s.work ≤ k + c + 8 * s1.work → Reached g t d b x1 k1 s1 s' x' k'
      → Reached g t c b x k s s' x' k'
  reached_from {b = b} j e turns work r = reached_for b b j e turns (omega (arith, work)) r

  less_left : {c b b' : ℕ} {x x' : Stage} {k k' : ℕ} {s s' : State} → b' ≤ b → Reached g t c b x k s s' x' k'
      → Reached g t c b' x k s s' x' k'
  less_left le r = record { steps = r.steps; comes = r.comes; turns = r.turns; work = omega (arith, r.work) }

  more_spent : (y c b : ℕ) {x x' : Stage} {k k' : ℕ} {s s' : State} → Reached g t c b x k s s' x' k'
      → Reached g t (c + y) (b + y) x k s s' x' k'
  more_spent y c b r = record { steps = r.steps; comes = r.comes; turns = r.turns; work = omega (arith, r.work) }

  spent_all : {c d : ℕ} {x x' : Stage} {k k' : ℕ} {s s' : State} → d ≤ c → Reached g t d 0 x k s s' x' k'
      → Reached g t c 0 x k s s' x' k'
  spent_all le r = record { steps = r.steps; comes = r.comes; turns = r.turns; work = omega (arith, r.work) }

  module _ {limit : ℕ} {A : Type 0} {u : ℕ} {frames : List Frame} {to : A → ℕ} {P : A → Temps → State → Type 0} where
    from_by : {c d : ℕ} {b : A → ℕ} {x x1 : Stage} {k k1 : ℕ} {s s1 : State} (o : Outcome A) → (j : ℕ)
        → run (step g t) j x ≡ x1
        → s.turns ≤ s1.turns → k1 + d + 8 * s.work ≤ k + c + 8 * s1.work
        → GoesLeaving g t limit d b u frames to P x1 k1 s1 o
        → GoesLeaving g t limit c b u frames to P x k s o
    from_by (Gives a s') j e turns work h = let q = h.by in record
        { by = (q.0, q.1, q.2, reached_from j e turns work q.3) }
    from_by (Ended end s') j e turns work h = let q = h.by in record { by = (q.0, reached_from j e turns work q.1) }
    from_by (Paused s') j e turns work h = let q = h.by in record
        { by = (q.0, q.1, q.2, reached_from j e turns work q.3, q.4) }

    pub goes_from : {c d : ℕ} {b : A → ℕ} {x x1 : Stage} {k k1 : ℕ} {s s1 : State} {o : Outcome A} → (j : ℕ)
        → run (step g t) j x ≡ x1 → s.turns ≤ s1.turns → k1 + d + 8 * s.work ≤ k + c + 8 * s1.work
        → GoesLeaving g t limit d b u frames to P x1 k1 s1 o → GoesLeaving g t limit c b u frames to P x k s o
    goes_from {o = o} j e turns work h = from_by o j e turns work h

    -- units of the source's work pay for 8 units each; some of it may be forgotten
    pub goes_counted_as : {c : ℕ} {b : A → ℕ} (n d : ℕ) {x : Stage} {k : ℕ} {s : State} {o : Outcome A} → d ≤ c + 8 * n
        → GoesLeaving g t limit d b u frames to P x k (record s { work = s.work + n }) o
        → GoesLeaving g t limit c b u frames to P x k s o
    goes_counted_as n d {o = o} le h = from_by o 0 refl (omega arith) (omega arith) h

    pub goes_counted : {c : ℕ} {b : A → ℕ} {x : Stage} {k : ℕ} {s : State} {o : Outcome A}
        → GoesLeaving g t limit (c + 8) b u frames to P x k (record s { work = s.work + 1 }) o
        → GoesLeaving g t limit c b u frames to P x k s o
    goes_counted {c = c} h = goes_counted_as 1 (c + 8) (omega arith) h

    -- less is enough
    pub goes_spare : {d : ℕ} {b : A → ℕ} (c : ℕ) {x : Stage} {k : ℕ} {s : State} {o : Outcome A} → c ≤ d
        → GoesLeaving g t limit c b u frames to P x k s o → GoesLeaving g t limit d b u frames to P x k s o
    goes_spare c {o = o} le h = from_by o 0 refl (omega arith) (omega arith) h

    -- more to spend, and more left
    frame_by : (y c : ℕ) (b : A → ℕ) {x : Stage} {k : ℕ} {s : State} (o : Outcome A)
        → GoesLeaving g t limit c b u frames to P x k s o
        → GoesLeaving g t limit (c + y) (λ a. b a + y) u frames to P x k s o
    frame_by y c b (Gives a s') h = let q = h.by in record { by = (q.0, q.1, q.2, more_spent y c (b a) q.3) }
    frame_by y c b (Ended e s') h = let q = h.by in record { by = (q.0, spent_all (omega arith) q.1) }
    frame_by y c b (Paused s') h = let q = h.by in record { by = (q.0, q.1, q.2, spent_all (omega arith) q.3, q.4) }

    pub goes_frame : (y c b : ℕ) {x : Stage} {k : ℕ} {s : State} {o : Outcome A}
        → Goes g t limit c b u frames to P x k s o → Goes g t limit (c + y) (b + y) u frames to P x k s o
    goes_frame y c b {o = o} h = frame_by y c (λ _. b) o h

    pub goes_framed : (y c : ℕ) (b : A → ℕ) {x : Stage} {k : ℕ} {s : State} {o : Outcome A}
        → GoesLeaving g t limit c b u frames to P x k s o
        → GoesLeaving g t limit (c + y) (λ a. b a + y) u frames to P x k s o
    goes_framed y c b {o = o} h = frame_by y c b o h

    -- a step of an instruction that costs w, and that what it is given fits
    pub goes_steps : (w c : ℕ) {b : A → ℕ} {n : ℕ} {i : Instruction} {temps : Temps} {k : ℕ} {s : State} {x : Stage}
        {o : Outcome A} → at_node t u n ≡ Some i → cost i ≡ w → fits g t i u temps (at_work (k + w) s) ≡ true
        → effect g t i u temps frames (at_work (k + w) s) ≡ x
        → GoesLeaving g t limit c b u frames to P x (k + w) s o
        → GoesLeaving g t limit (w + c) b u frames to P (Stands u n temps frames (at_work k s)) k s o
    goes_steps w c {i = i} {temps = temps} {k = k} {s = s} {o = o} has costs fit does h =
        from_by o 1 (ap (λ j. act_at g t j u temps frames (at_work k s)) has
        ∙ ap (λ w. act g t i u temps frames (at_work (k + w) s)) costs
        ∙ only_opens (effect g t i u temps frames (at_work (k + w) s)) fit ∙ does) (omega arith) (omega arith) h

    -- that costs 1
    pub goes_step : (c : ℕ) {b : A → ℕ} {n : ℕ} {i : Instruction} {temps : Temps} {k : ℕ} {s : State} {x : Stage}
        {o : Outcome A}
        → at_node t u n ≡ Some i → cost i ≡ 1 → fits g t i u temps (at_work (k + 1) s) ≡ true
        → effect g t i u temps frames (at_work (k + 1) s) ≡ x
        → GoesLeaving g t limit c b u frames to P x (k + 1) s o
        → GoesLeaving g t limit (1 + c) b u frames to P (Stands u n temps frames (at_work k s)) k s o
    goes_step c has costs fit does h = goes_steps 1 c has costs fit does h

    -- there already
    pub goes_done : {c : ℕ} {b : A → ℕ} {a : A} {temps : Temps} {k : ℕ} {s s' : State} → b a ≤ c → s'.turns ≡ s.turns
        → s'.work ≡ s.work → P a temps s'
        → GoesLeaving g t limit c b u frames to P (Stands u (to a) temps frames (at_work k s')) k s (Gives a s')
    goes_done {temps = temps} {k = k} le turns work p =
        record { by = (temps, k, p, record { steps = 0; comes = refl; turns = omega arith; work = omega arith }) }

    pub goes_over : {c : ℕ} {b : A → ℕ} {e : Ending} {k : ℕ} {s s' : State} → s'.turns ≡ s.turns → s'.work ≡ s.work
        → GoesLeaving g t limit c b u frames to P (Over e (at_work k s')) k s (Ended e s')
    goes_over {k = k} turns work = record
        { by = (k, record { steps = 0; comes = refl; turns = omega arith; work = omega arith }) }

    pub goes_pause : {c : ℕ} {b : A → ℕ} {x : Stage} {k : ℕ} {s : State} → seen x ≡ moment_at (at_work k s) [] None
        → limit ≤ s.turns → GoesLeaving g t limit c b u frames to P x k s (Paused s)
    goes_pause {x = x} {k = k} e le = record
        { by = (x, k, e, record { steps = 0; comes = refl; turns = omega arith; work = omega arith }, le) }

    pub goes_at : {c : ℕ} {b : A → ℕ} {n n' : ℕ} {temps : Temps} {z : State} {k : ℕ} {s : State} {o : Outcome A}
        → n ≡ n'
        → GoesLeaving g t limit c b u frames to P (Stands u n' temps frames z) k s o
        → GoesLeaving g t limit c b u frames to P (Stands u n temps frames z) k s o
    goes_at {c = c} {b = b} {temps = temps} {z = z} {k = k} {s = s} {o = o} e h =
        subst (λ (m : ℕ). GoesLeaving g t limit c b u frames to P (Stands u m temps frames z) k s o) (sym e) h

  module _ {limit : ℕ} {A : Type 0} {u : ℕ} {frames : List Frame} {to : A → ℕ} {P Q : A → Temps → State → Type 0} where
    weak_by : {c : ℕ} {b b' : A → ℕ} {x : Stage} {k : ℕ} {s : State} (o : Outcome A) → ((a : A) → b' a ≤ b a)
        → ((a : A) (temps : Temps) (s : State) → P a temps s → Q a temps s)
        → GoesLeaving g t limit c b u frames to P x k s o → GoesLeaving g t limit c b' u frames to Q x k s o
    weak_by (Gives a s') le f h = let q = h.by in record { by = (q.0, q.1, f a q.0 s' q.2, less_left (le a) q.3) }
    weak_by (Ended e s') le f h = record { by = h.by }
    weak_by (Paused s') le f h = record { by = h.by }

    pub goes_weak : {c b b' : ℕ} {x : Stage} {k : ℕ} {s : State} {o : Outcome A} → b' ≤ b
        → ((a : A) (temps : Temps) (s : State) → P a temps s → Q a temps s) → Goes g t limit c b u frames to P x k s o
        → Goes g t limit c b' u frames to Q x k s o
    goes_weak {o = o} le f h = weak_by o (λ a. le) f h

  -- less is left
  pub goes_leaving : {limit : ℕ} {A : Type 0} {u : ℕ} {frames : List Frame} {to : A → ℕ}
      {P : A → Temps → State → Type 0} {c : ℕ} {b : A → ℕ} (b' : A → ℕ) {x : Stage} {k : ℕ} {s : State}
      {o : Outcome A} → ((a : A) → b' a ≤ b a) → GoesLeaving g t limit c b u frames to P x k s o
      → GoesLeaving g t limit c b' u frames to P x k s o
  goes_leaving b' {o = o} le h = weak_by o le (λ a temps s p. p) h

  pub goes_less : {limit : ℕ} {A : Type 0} {u : ℕ} {frames : List Frame} {to : A → ℕ} {P : A → Temps → State → Type 0}
      {c b : ℕ} (b' : ℕ) {x : Stage} {k : ℕ} {s : State} {o : Outcome A} → b' ≤ b
      → Goes g t limit c b u frames to P x k s o → Goes g t limit c b' u frames to P x k s o
  goes_less b' le h = goes_weak le (λ a temps s p. p) h

  -- one thing after another: the first may spend what the source pays, or all
  module _ {limit : ℕ} {A B : Type 0} {u : ℕ} {frames frames' : List Frame} {to : A → ℕ}
      {P : A → Temps → State → Type 0} {to' : B → ℕ} {P' : B → Temps → State → Type 0} {c : ℕ} {b : A → ℕ}
      {b' : B → ℕ} {x : Stage} {k : ℕ} {s : State} where
    after_by : (o : Outcome A) (f : A → Run B) → GoesLeaving g t limit c b u frames to P x k s o
        → ((a : A) (s' : State) (temps : Temps) (k' : ℕ) → P a temps s' → s.turns ≤ s'.turns → o ≡ Gives a s'
        → GoesLeaving g t limit (b a) b' u frames' to' P' (Stands u (to a) temps frames (at_work k' s')) k' s' (f a s'))
        → GoesLeaving g t limit c b' u frames' to' P' x k s (on o f)
    after_by (Gives a s') f h next = let q = h.by in let r = q.3 in from_by (f a s') r.steps r.comes r.turns
        (omega (arith, r.work)) (next a s' q.0 q.1 q.2 r.turns refl)
    after_by (Ended e s') f h next = let q = h.by in record { by = (q.0, q.1) }
    after_by (Paused s') f h next = let q = h.by in record { by = (q.0, q.1, q.2, q.3, q.4) }

    pub goes_after : {o : Outcome A} {f : A → Run B} → GoesLeaving g t limit c b u frames to P x k s o
        → ((a : A) (s' : State) (temps : Temps) (k' : ℕ) → P a temps s' → s.turns ≤ s'.turns → o ≡ Gives a s'
        → GoesLeaving g t limit (b a) b' u frames' to' P' (Stands u (to a) temps frames (at_work k' s')) k' s' (f a s'))
        → GoesLeaving g t limit c b' u frames' to' P' x k s (on o f)
    goes_after {o = o} {f = f} h next = after_by o f h next

    pub goes_then : {o : Outcome A} {f : A → Run B} → GoesLeaving g t limit 0 b u frames to P x k s o
        → ((a : A) (s' : State) (temps : Temps) (k' : ℕ) → P a temps s' → s.turns ≤ s'.turns → o ≡ Gives a s'
        → GoesLeaving g t limit (c + b a) b' u frames' to' P' (Stands u (to a) temps frames (at_work k' s'))
        k' s' (f a s'))
        → GoesLeaving g t limit c b' u frames' to' P' x k s (on o f)
    goes_then {o = o} {f = f} h next = then_by o f h next
      where
        then_by : (o : Outcome A) (f : A → Run B) → GoesLeaving g t limit 0 b u frames to P x k s o
            → ((a : A) (s' : State) (temps : Temps) (k' : ℕ) → P a temps s' → s.turns ≤ s'.turns → o ≡ Gives a s'
            → GoesLeaving g t limit (c + b a) b' u frames' to' P' (Stands u (to a) temps frames (at_work k' s'))
            k' s' (f a s'))
            → GoesLeaving g t limit c b' u frames' to' P' x k s (on o f)
        then_by (Gives a s') f h next = let q = h.by in let r = q.3 in from_by (f a s') r.steps r.comes r.turns
            (omega (arith, r.work)) (next a s' q.0 q.1 q.2 r.turns refl)
        then_by (Ended e s') f h next = let q = h.by in record { by = (q.0, spent_all (omega arith) q.1) }
        then_by (Paused s') f h next = let q = h.by in record { by = (q.0, q.1, q.2, spent_all (omega arith) q.3, q.4) }

  -- the same where the source's state is good, and stays so
  module _ {limit : ℕ} {sc : Context} {A B : Type 0} {u : ℕ} {frames frames' : List Frame} {to : A → ℕ}
      {P : A → Temps → State → Type 0} {to' : B → ℕ} {P' : B → Temps → State → Type 0} {c : ℕ} {b : A → ℕ}
      {b' : B → ℕ} {x : Stage} {k : ℕ} {s : State} where
    pub goes_sure : (Q : A → Objects → Type 0) {o : Outcome A} {f : A → Run B} → After sc s Q o
        → GoesLeaving g t limit 0 b u frames to P x k s o
        → ((a : A) (s' : State) (temps : Temps) (k' : ℕ) → P a temps s' → s.turns ≤ s'.turns → o ≡ Gives a s'
        → Leaves sc s s' → Q a s'.objects
        → GoesLeaving g t limit (c + b a) b' u frames' to' P' (Stands u (to a) temps frames (at_work k' s'))
        k' s' (f a s'))
        → GoesLeaving g t limit c b' u frames' to' P' x k s (on o f)
    goes_sure Q {o = o} {f = f} after h next =
        goes_then h (λ a s' temps k' p le is. let w = subst (λ o. After sc s Q o) is after in next a s' temps k' p le is
        w.0 w.1)

  -- what is known of a run that the code comes to
  module _ {limit : ℕ} {sc : Context} {A : Type 0} {u : ℕ} {frames : List Frame} {to : A → ℕ}
      {P : A → Temps → State → Type 0} {c : ℕ} {b : A → ℕ} {x : Stage} {k : ℕ} {s : State}
      (Q : A → Objects → Type 0) where
    with_by : (o : Outcome A) → After sc s Q o → GoesLeaving g t limit c b u frames to P x k s o
        → GoesLeaving g t limit c b u frames to (λ a temps s'. P a temps s' × Leaves sc s s' × Q a s'.objects) x k s o
    with_by (Gives a s') after h = let q = h.by in record { by = (q.0, q.1, (q.2, after.0, after.1), q.3) }
    with_by (Ended e s') after h = record { by = h.by }
    with_by (Paused s') after h = record { by = h.by }

    pub goes_with : {o : Outcome A} → After sc s Q o → GoesLeaving g t limit c b u frames to P x k s o
        → GoesLeaving g t limit c b u frames to (λ a temps s'. P a temps s' × Leaves sc s s' × Q a s'.objects) x k s o
    goes_with {o = o} after h = with_by o after h

  -- an action that both do, and that counts four times in the code: of each unit of it four are left
  module _ {limit : ℕ} {A B : Type 0} {u : ℕ} {frames : List Frame} {to : B → ℕ} {P : B → Temps → State → Type 0}
      {c : ℕ} {b : B → ℕ} {k : ℕ} {s : State} where
    heavier_by : (o o' : Outcome A) (F : A → State → Stage) (f : A → Run B) → ActsBy k s o o'
        → ((a : A) (s' : State) (k' : ℕ) → s'.turns ≡ s.turns → o ≡ Gives a s'
        → GoesLeaving g t limit (c + 4 * (s'.work - s.work)) b u frames to P (F a (at_work k' s')) k' s' (f a s'))
        → GoesLeaving g t limit c b u frames to P (came (fourfold k o') F) k s (on o f)
    heavier_by (Gives a s') o' F f h next =
        let e = h.2 in
        let k1 = h.0 + 3 * (h.0 - k) in
        from_by {d = c + 4 * (s'.work - s.work)} {k1 = k1} (f a s') 0 (ap (λ o. came (fourfold k o) F) h.1)
        (omega (arith, e.turns)) (omega (arith, e.work, e.later.work)) (next a s' k1 e.turns refl)
    heavier_by (Ended end s') o' F f h next =
        let e = h.2 in record {
          by = (
            h.0 + 3 * (h.0 - k),
            record {
              steps = 0;
              comes = ap (λ o. came (fourfold k o) F) h.1;
              turns = omega (arith, e.turns);
              work =
                  omega (arith, e.work, e.later.work);
            },
          );
        }
    heavier_by (Paused s') o' F f h next = absurd h

    pub goes_heavier : {r : Run A} (F : A → State → Stage) {f : A → Run B} → IsAction r
        → ((a : A) (s' : State) (k' : ℕ) → s'.turns ≡ s.turns → r s ≡ Gives a s'
        → GoesLeaving g t limit (c + 4 * (s'.work - s.work)) b u frames to P (F a (at_work k' s')) k' s' (f a s'))
        → GoesLeaving g t limit c b u frames to P (came (heavier r (at_work k s)) F) k s (on (r s) f)
    goes_heavier {r = r} F {f = f} h next = heavier_by (r s) (r (at_work k s)) F f (h.acts s k) next

  module _ {limit : ℕ} {A : Type 0} {u : ℕ} {frames : List Frame} {to : A → ℕ} {P : A → Temps → State → Type 0}
      {c : ℕ} {b : A → ℕ} {k : ℕ} {s : State} where
    last_by : (o o' : Outcome A) (F : A → State → Stage) → ActsBy k s o o'
        → ((a : A) (s' : State) (k' : ℕ) → s'.turns ≡ s.turns
        → GoesLeaving g t limit c b u frames to P (F a (at_work k' s')) k' s' (Gives a s'))
        → GoesLeaving g t limit c b u frames to P (came o' F) k s o
    last_by (Gives a s') o' F h next =
        let e = h.2 in from_by (Gives a s') 0 (ap (λ o. came o F) h.1) (omega (arith, e.turns))
        (omega (arith, e.work, e.later.work)) (next a s' h.0 e.turns)
    last_by (Ended end s') o' F h next =
        let e = h.2 in record {
          by = (
            h.0,
            record {
              steps = 0;
              comes = ap (λ o. came o F) h.1;
              turns = omega (arith, e.turns);
              work =
                  omega (arith, e.work, e.later.work);
            },
          );
        }
    last_by (Paused s') o' F h next = absurd h

    -- behind which nothing comes
    pub goes_last : {r : Run A} (F : A → State → Stage) → IsAction r
        → ((a : A) (s' : State) (k' : ℕ) → s'.turns ≡ s.turns
        → GoesLeaving g t limit c b u frames to P (F a (at_work k' s')) k' s' (Gives a s'))
        → GoesLeaving g t limit c b u frames to P (came (r (at_work k s)) F) k s (r s)
    goes_last {r = r} F h next = last_by (r s) (r (at_work k s)) F (h.acts s k) next

    last_heavier_by : (o o' : Outcome A) (F : A → State → Stage) → ActsBy k s o o'
        → ((a : A) (s' : State) (k' : ℕ) → s'.turns ≡ s.turns → o ≡ Gives a s'
        → GoesLeaving g t limit (c + 4 * (s'.work - s.work)) b u frames to P (F a (at_work k' s')) k' s' (Gives a s'))
        → GoesLeaving g t limit c b u frames to P (came (fourfold k o') F) k s o
    last_heavier_by (Gives a s') o' F h next =
        let e = h.2 in
        let k1 = h.0 + 3 * (h.0 - k) in
        from_by {d = c + 4 * (s'.work - s.work)} {k1 = k1} (Gives a s') 0 (ap (λ o. came (fourfold k o) F) h.1)
        (omega (arith, e.turns)) (omega (arith, e.work, e.later.work)) (next a s' k1 e.turns refl)
    last_heavier_by (Ended end s') o' F h next =
        let e = h.2 in record {
          by = (
            h.0 + 3 * (h.0 - k),
            record {
              steps = 0;
              comes = ap (λ o. came (fourfold k o) F) h.1;
              turns = omega (arith, e.turns);
              work =
                  omega (arith, e.work, e.later.work);
            },
          );
        }
    last_heavier_by (Paused s') o' F h next = absurd h

    pub goes_last_heavier : {r : Run A} (F : A → State → Stage) → IsAction r
        → ((a : A) (s' : State) (k' : ℕ) → s'.turns ≡ s.turns → r s ≡ Gives a s'
        → GoesLeaving g t limit (c + 4 * (s'.work - s.work)) b u frames to P (F a (at_work k' s')) k' s' (Gives a s'))
        → GoesLeaving g t limit c b u frames to P (came (heavier r (at_work k s)) F) k s (r s)
    goes_last_heavier {r = r} F h next = last_heavier_by (r s) (r (at_work k s)) F (h.acts s k) next

  module _ {limit : ℕ} {A : Type 0} {u : ℕ} {frames : List Frame} {to : A → ℕ} {P : A → Temps → State → Type 0} where
    branch_by : (c : ℕ) (q : Bool) (r r' : Run A) {b : A → ℕ} {n a taken other : ℕ} {temps : Temps} {k : ℕ} {s : State}
        → at_node t u n ≡ Some (Branch a taken other) → is_zero (temps a).value ≡ q
        → GoesLeaving g t limit c b u frames to P (Stands u other temps frames (at_work (k + 1) s)) (k + 1) s (r s)
        → GoesLeaving g t limit c b u frames to P (Stands u taken temps frames (at_work (k + 1) s)) (k + 1) s (r' s)
        → GoesLeaving g t limit (1 + c) b u frames to P (Stands u n temps frames (at_work k s)) k s (choose q r r' s)
    branch_by c true r r' {taken = taken} {other = other} {temps = temps} {k = k} {s = s} has e h h' =
        goes_step c has refl refl (ap (λ q. Stands u (cond q other taken) temps frames (at_work (k + 1) s)) e) h
    branch_by c false r r' {taken = taken} {other = other} {temps = temps} {k = k} {s = s} has e h h' =
        goes_step c has refl refl (ap (λ q. Stands u (cond q other taken) temps frames (at_work (k + 1) s)) e) h'

    -- two ways, by whether a value is 0
    pub goes_branch : (c : ℕ) (v : Rvalue) (r r' : Run A) {b : A → ℕ} {n a taken other : ℕ} {temps : Temps} {k : ℕ}
        {s : State}
        → at_node t u n ≡ Some (Branch a taken other) → temps a ≡ v
        → GoesLeaving g t limit c b u frames to P (Stands u other temps frames (at_work (k + 1) s)) (k + 1) s (r s)
        → GoesLeaving g t limit c b u frames to P (Stands u taken temps frames (at_work (k + 1) s)) (k + 1) s (r' s)
        → GoesLeaving g t limit (1 + c) b u frames to P (Stands u n temps frames (at_work k s)) k s
        (choose (is_zero v.value) r r' s)
    goes_branch c v r r' has e h h' = branch_by c (is_zero v.value) r r' has (ap (λ (v : Rvalue). is_zero v.value) e)
        h h'

    -- a turn begins, where one is left
    turn_by : (c : ℕ) (q : Bool) (r : Run A) {b : A → ℕ} {n m : ℕ} {counted : Option ℕ} {temps : Temps} {k : ℕ}
        {s : State}
        → at_node t u n ≡ Some (Turn counted m)
        → fits g t (Turn counted m) u temps (at_work (k + 1) s) ≡ true → nat_lt s.turns limit ≡ q
        → GoesLeaving g t limit c b u frames to P (Stands u m temps frames (at_work (k + 1) (begun s)))
        (k + 1) (begun s) (r (begun s))
        → GoesLeaving g t limit (1 + c) b u frames to P (Stands u n temps frames (at_work k s)) k s
        (on (choose q (λ s. Gives (tt {0}) (begun s)) (λ s. Paused s) s) (λ _. r))
    turn_by c true r {temps = temps} {k = k} {s = s} has fit e h =
        from_by (r (begun s)) 1 (ap (λ j. act_at g t j u temps frames (at_work k s)) has
        ∙ only_opens (Stands u _ temps frames (at_work (k + 1) (begun s))) fit) (omega arith) (omega arith) h
    turn_by c false r {s = s} has fit e h = goes_pause refl (ltb-false s.turns limit e)

    pub goes_turn : (c : ℕ) (r : Run A) {b : A → ℕ} {n m : ℕ} {counted : Option ℕ} {temps : Temps} {k : ℕ} {s : State}
        → at_node t u n ≡ Some (Turn counted m) → fits g t (Turn counted m) u temps (at_work (k + 1) s) ≡ true
        → GoesLeaving g t limit c b u frames to P (Stands u m temps frames (at_work (k + 1) (begun s)))
        (k + 1) (begun s) (r (begun s))
        → GoesLeaving g t limit (1 + c) b u frames to P (Stands u n temps frames (at_work k s)) k s
        (on (begin_turn limit s) (λ _. r))
    goes_turn c r {s = s} has fit h = turn_by c (nat_lt s.turns limit) r has fit refl h
