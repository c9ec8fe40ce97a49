-- How quiet code is put together. What is said on the way is said of values and of the memory, which no step of work
-- changes, beside that nothing was shown since the start.
use Rattle.std.proofs.Common.{◌≡◌, ℕ, suc, ◌+◌, ◌*◌, ◌≤◌, ◌⊎◌, inl, inr, ⊎_elim, List, true}
use Rattle.std.proofs.Common.{false, Some, length, refl, subst, arith}
use Rattle.std.specs.Prelude.{slice_get}
use Rattle.rv_isa.specs.declared.instruction.BranchOp.{BranchOp}
use Rattle.flat_code.specs.declared.instruction.RightOperand.{RightOperand}
use Rattle.flat_code.specs.declared.instruction.FlatInstruction.{FlatInstruction}
use Rattle.flat_code.specs.declared.instruction.FlatInstruction.TheVariants.{Branch, JumpForward}
use Rattle.flat_code.specs.Memory.{Bytes}
use Rattle.flat_code.specs.State.{Values, State}
use Rattle.flat_code.specs.Words.{IsOfWords}
use Rattle.flat_code.specs.Meaning.{Context, Goes}
use Rattle.flat_code.specs.Routines.Routine.{HasAt, Outcome, Continues, Halts, Reaches, Either, Never, until_code}
use Rattle.flat_code.specs.Routines.Effects.{worked, effects}
use Rattle.flat_code.specs.Routines.Metadata.{ShowsNothing}
use Rattle.flat_code.proofs.Routines.Rules.{taken, weaken, next, line_on, branch, jump_on, arrived, loop}
use Rattle.flat_code.proofs.Routines.Regions.{IsLaidOut}
use Rattle.flat_code.proofs.Routines.Showing.{shows_both}
use Rattle.flat_code.specs.Routines.Spaces.Quiet.{AreQuiet}
use Rattle.flat_code.proofs.Routines.Spaces.Quiet.{quiet_allowed, quiet_shows, shows_worked}

-- what holds of values and memory
abbrev pub Fact : Type 1
Fact = Values → Bytes → Type 0

-- it holds, and nothing was shown since the start
abbrev pub Quietly : (start : State) → Fact → State → Type 0
Quietly start J v = ShowsNothing start v × J v.values v.memory

-- the code comes quietly to a place where it holds
abbrev pub ReachesQuietly : Context → (code : List FlatInstruction) → (bound : ℕ) → (from : ℕ) → (start v : State)
    → (place : ℕ) → Fact → Type 0
ReachesQuietly c code b pc start v end J = Reaches c code b (Goes pc v) end (Either (Quietly start J) Never)

pub quietly_worked : (c : Context) (start v : State) (J : Fact) → Quietly start J v → Quietly start J (worked c v)
quietly_worked c start v J h = (shows_worked c start v h.0, h.1)

module _ (c : Context) (ok : IsLaidOut c.sizes) (code : List FlatInstruction) (start : State) where
  -- fewer steps, and less said
  pub quiet_weaken : (a b pc : ℕ) (v : State) (end : ℕ) (J K : Fact) → a ≤ b
      → ((values : Values) (m : Bytes) → J values m → K values m) → ReachesQuietly c code a pc start v end J
      → ReachesQuietly c code b pc start v end K
  quiet_weaken a b pc v end J K le h r = weaken c code a b (Goes pc v) end _ _ le by r
    where
      by : (x : Outcome) → Either (Quietly start J) Never x → Either (Quietly start K) Never x
      by (Continues s) q = (q.0, h s.values s.memory q.1)
      by (Halts status report s) q = q

  -- nothing is left to do
  pub quiet_arrived : (b pc end : ℕ) (v : State) (J : Fact) → pc ≡ end → Quietly start J v
      → ReachesQuietly c code b pc start v end J
  quiet_arrived b pc end v J e h = arrived c code b v pc end _ e h

  -- code without jumps, and what follows it
  pub quiet_line : (is : List FlatInstruction) (b pc : ℕ) (v : State) (end : ℕ) (J : Fact) → ShowsNothing start v
      → AreQuiet c is v → HasAt code pc is
      → (ShowsNothing start (effects c is v)
      → ReachesQuietly c code b (pc + length is) start (effects c is v) end J)
      → ReachesQuietly c code (length is + b) pc start v end J
  quiet_line is b pc v end J shown q has t =
      line_on c code is b pc v end _ (quiet_allowed c is v q) has
      (t (shows_both start v (effects c is v) shown (quiet_shows c is v ok q)))

  -- and where it is the last
  pub quiet_end : (is : List FlatInstruction) (pc : ℕ) (v : State) (J : Fact) → ShowsNothing start v
      → AreQuiet c is v → HasAt code pc is → J (effects c is v).values (effects c is v).memory
      → ReachesQuietly c code (length is) pc start v (pc + length is) J
  quiet_end is pc v J shown q has h =
      let n : length is + 0 ≡ length is = omega arith in
      subst (λ b. ReachesQuietly c code b pc start v (pc + length is) J) n
      (quiet_line is 0 pc v (pc + length is) J shown q has
      (λ shown'. quiet_arrived 0 (pc + length is) (pc + length is) (effects c is v) J refl (shown', h)))

  -- one stretch after another
  pub quiet_next : (a b pc middle end : ℕ) (v : State) (I J : Fact) → IsOfWords v
      → ReachesQuietly c code a pc start v middle I
      → ((s : State) → IsOfWords s → ShowsNothing start s → I s.values s.memory
      → ReachesQuietly c code b middle start s end J)
      → ReachesQuietly c code (a + b) pc start v end J
  quiet_next a b pc middle end v I J w r on =
      next c code a b (Goes pc v) middle end (Quietly start I) Never _ w r (λ s w' q. on s w' q.0 q.1)
      (λ status report s never. never)

  -- a branch, by its condition
  pub quiet_branch : (b pc : ℕ) (v : State) (op : BranchOp) (x : ℕ) (y : RightOperand) (past end : ℕ) (J : Fact)
      → slice_get code pc ≡ Some (Branch op x y past) → ShowsNothing start v
      → (taken op x y v ≡ true → ShowsNothing start (worked c v)
      → ReachesQuietly c code b (pc + 1 + past) start (worked c v) end J)
      → (taken op x y v ≡ false → ShowsNothing start (worked c v)
      → ReachesQuietly c code b (pc + 1) start (worked c v) end J)
      → ReachesQuietly c code (suc b) pc start v end J
  quiet_branch b pc v op x y past end J at shown on off =
      let shown' = shows_worked c start v shown in
      branch c code b pc v op x y past end _ at (λ e. on e shown') (λ e. off e shown')

  pub quiet_jump : (b pc past : ℕ) (v : State) (end : ℕ) (J : Fact) → slice_get code pc ≡ Some (JumpForward past)
      → ShowsNothing start v
      → (ShowsNothing start (worked c v) → ReachesQuietly c code b (pc + 1 + past) start (worked c v) end J)
      → ReachesQuietly c code (suc b) pc start v end J
  quiet_jump b pc past v end J at shown t = jump_on c code b pc past v end _ at (t (shows_worked c start v shown))

  -- A loop: I k holds where at most k turns are left, and D where the condition holds. A turn leaves fewer.
  module _ (pc : ℕ) (op : BranchOp) (x : ℕ) (y : RightOperand) (body : List FlatInstruction) (b : ℕ)
      (I : ℕ → Fact) (D : Fact) (has : HasAt code pc (until_code op x y body)) where
    -- what a turn that leaves at most j turns leads to
    abbrev pub Remains : (j : ℕ) → Fact
    Remains j values m = (i : ℕ) × (i ≤ j) × I i values m

    abbrev pub QuietTurn : (k : ℕ) → State → Type 0
    QuietTurn k v = ((taken op x y v ≡ false) × (j : ℕ) × (k ≡ suc j)
        × (ShowsNothing start (worked c v)
        → ReachesQuietly c code b (pc + 1) start (worked c v) (pc + 1 + length body) (Remains j)))
        ⊎ ((taken op x y v ≡ true) × D v.values v.memory)

    quiet_turn : (k : ℕ) (v : State) → ShowsNothing start v → QuietTurn k v
        → ((taken op x y v ≡ false) × (j : ℕ) × (k ≡ suc j)
        × Reaches c code b (Goes (pc + 1) (worked c v)) (pc + 1 + length body)
        (Either (λ s'. (i : ℕ) × (i ≤ j) × Quietly start (I i) (worked c s')) Never))
        ⊎ ((taken op x y v ≡ true) × Quietly start D (worked c v))
    quiet_turn k v shown t = ⊎_elim
        (λ d. inl (
          d.0,
          d.1,
          d.2,
          weaken c code b b (Goes (pc + 1) (worked c v)) (pc + 1 + length body) _ _
              (omega arith) (by d.1) (d.3 (shows_worked c start v shown)),
        ))
        (λ d. inr (d.0, (shows_worked c start v shown, d.1)))
        t
      where
        by : (j : ℕ) (x : Outcome) → Either (Quietly start (Remains j)) Never x
            → Either (λ s'. (i : ℕ) × (i ≤ j) × Quietly start (I i) (worked c s')) Never x
        by j (Continues s) q = (q.1.0, q.1.1, (shows_worked c start s q.0, q.1.2))
        by j (Halts status report s) q = q

    pub quiet_loop : ((k : ℕ) (v : State) → IsOfWords v → ShowsNothing start v → I k v.values v.memory → QuietTurn k v)
        → (k : ℕ) (v : State) → IsOfWords v → ShowsNothing start v → I k v.values v.memory
        → ReachesQuietly c code (k * (b + 2) + 1) pc start v (pc + length (until_code op x y body)) D
    quiet_loop turn k v w shown h =
        loop c code pc op x y body b (λ i. Quietly start (I i)) (Quietly start D) Never has
        (λ i s ws q. quiet_turn i s q.0 (turn i s ws q.0 q.1)) k k (omega arith) v w (shown, h)
