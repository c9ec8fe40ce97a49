-- How what lists of instructions do is put together.
use Rattle.std.proofs.Common.{◌≡◌, ℕ, zero, suc, ◌+◌, ◌-◌, ◌*◌, ◌≤◌, ◌⊎◌, List, [], ◌∷◌, ◌++◌, Bool, true, false, Some}
use Rattle.std.proofs.Common.{length, refl, sym, ap, ◌∙◌, subst, arith, length-append, ⊎_elim}
use Rattle.std.specs.Prelude.{slice_get}
use Rattle.std.proofs.lemmas.Bool.{cases_Bool, cond-true, cond-false}
use Rattle.std.proofs.Math.Nat.{suc-mul}
use Rattle.sb_base.specs.declared.ending.Ending.{Ending}
use Rattle.sb_base.specs.Endings.{code_of, report_of}
use Rattle.rv_isa.specs.declared.instruction.BranchOp.{BranchOp}
use Rattle.rv_isa.specs.Results.{branch_taken}
use Rattle.flat_code.specs.declared.instruction.RightOperand.{RightOperand}
use Rattle.flat_code.specs.declared.instruction.FlatInstruction.{FlatInstruction}
use Rattle.flat_code.specs.declared.instruction.FlatInstruction.TheVariants.{Branch, JumpForward, JumpBack, End}
use Rattle.flat_code.specs.State.{State}
use Rattle.flat_code.specs.Words.{IsOfWords}
use Rattle.flat_code.specs.Meaning.{Context, Local, Goes, Ends, right_value}
use Rattle.flat_code.proofs.Words.{LocalFits}
use Rattle.flat_code.specs.Routines.Local.{counted, act, local_step, local_run}
use Rattle.flat_code.specs.Routines.Routine.{HasAt, Outcome, Continues, Halts, left_at, Reaches, Does, Either}
use Rattle.flat_code.specs.Routines.Routine.{unless_code, until_code}
use Rattle.flat_code.specs.Routines.Effects.{worked, effects, AreAllowed}
use Rattle.flat_code.proofs.Routines.Steps.{has_front, has_back, run_zero, run_suc, run_add, run_fits}
use Rattle.flat_code.proofs.Routines.Straight.{run_straight}

-- what holds of a state where it goes on, and of a status, a report and a state where the run ends
abbrev pub Holds : Type 1
Holds = State → Type 0

abbrev pub HoldsAtEnd : Type 1
HoldsAtEnd = (status : ℕ) → (report : List ℕ) → State → Type 0

-- whether the condition of a branch holds in a state
abbrev pub taken : BranchOp → (left : ℕ) → RightOperand → State → Bool
taken op x y s = branch_taken op (s.values x) (right_value y s.values)

suc_times : (k m : ℕ) → suc k * m ≡ m + k * m
suc_times k m = omega (arith, suc-mul k m)

module _ (c : Context) (code : List FlatInstruction) where
  pub weaken : (a b : ℕ) (l : Local) (pc : ℕ) (Q R : Outcome → Type 0) → a ≤ b → ((x : Outcome) → Q x → R x)
      → Reaches c code a l pc Q → Reaches c code b l pc R
  weaken a b l pc Q R le h r = record {
    steps = r.steps;
    within = omega (arith, r.within);
    outcome = r.outcome;
    comes = r.comes;
    holds = h r.outcome r.holds;
  }

  -- where a stretch cannot go on, it does not matter to where it would
  pub ends_there : (a : ℕ) (l : Local) (middle end : ℕ) (Q R : Outcome → Type 0) → Reaches c code a l middle Q
      → ((s : State) → Q (Continues s) → ⊥)
      → ((status : ℕ) (report : List ℕ) (s : State) → Q (Halts status report s) → R (Halts status report s))
      → Reaches c code a l end R
  ends_there a l middle end Q R r never off = by r.outcome r.comes r.holds
    where
      by : (x : Outcome) → local_run c code r.steps l ≡ left_at middle x → Q x → Reaches c code a l end R
      by (Continues s) e q = absurd (never s q)
      by (Halts status report s) e q = record {
        steps = r.steps;
        within = r.within;
        outcome = Halts status report s;
        comes = e;
        holds = off status report s q;
      }

  -- where a stretch goes on, another follows
  pub next : (a b : ℕ) (l : Local) (middle end : ℕ) (I : Holds) (J : HoldsAtEnd) (R : Outcome → Type 0) → LocalFits l
      → Reaches c code a l middle (Either I J)
      → ((s : State) → IsOfWords s → I s → Reaches c code b (Goes middle s) end R)
      → ((status : ℕ) (report : List ℕ) (s : State) → J status report s → R (Halts status report s))
      → Reaches c code (a + b) l end R
  next a b l middle end I J R w r on off = by r.outcome r.comes r.holds
    where
      by : (x : Outcome) → local_run c code r.steps l ≡ left_at middle x → Either I J x → Reaches c code (a + b) l end R
      by (Continues s) e q =
          let t = on s (subst LocalFits e (run_fits c code r.steps l w)) q in
          record {
            steps = r.steps + t.steps;
            within = omega (arith, r.within, t.within);
            outcome = t.outcome;
            comes = run_add c code r.steps t.steps l ∙ ap (local_run c code t.steps) e ∙ t.comes;
            holds = t.holds;
          }
      by (Halts status report s) e q = record {
        steps = r.steps;
        within = omega (arith, r.within);
        outcome = Halts status report s;
        comes = e;
        holds = off status report s q;
      }

  -- code without jumps
  pub line : (is : List FlatInstruction) (pc : ℕ) (s : State) (I : Holds) (J : HoldsAtEnd) → AreAllowed c is s
      → HasAt code pc is → I (effects c is s) → Reaches c code (length is) (Goes pc s) (pc + length is) (Either I J)
  line is pc s I J a has h = record {
    steps = length is;
    within = omega arith;
    outcome = Continues (effects c is s);
    comes = run_straight c code is pc s a has;
    holds = h;
  }

  -- and what follows it
  pub line_on : (is : List FlatInstruction) (b pc : ℕ) (s : State) (end : ℕ) (R : Outcome → Type 0) → AreAllowed c is s
      → HasAt code pc is → Reaches c code b (Goes (pc + length is) (effects c is s)) end R
      → Reaches c code (length is + b) (Goes pc s) end R
  line_on is b pc s end R a has t = record {
    steps = length is + t.steps;
    within = omega (arith, t.within);
    outcome = t.outcome;
    comes = run_add c code (length is) t.steps (Goes pc s)
        ∙ ap (local_run c code t.steps) (run_straight c code is pc s a has)
        ∙ t.comes;
    holds = t.holds;
  }

  -- one step, and what follows it
  pub step_on : (b : ℕ) (l l' : Local) (end : ℕ) (R : Outcome → Type 0) → local_step c code l ≡ l'
      → Reaches c code b l' end R → Reaches c code (suc b) l end R
  step_on b l l' end R e t = record {
    steps = suc t.steps;
    within = omega (arith, t.within);
    outcome = t.outcome;
    comes = run_suc c code t.steps l ∙ ap (local_run c code t.steps) e ∙ t.comes;
    holds = t.holds;
  }

  -- nothing is left to do
  pub arrived : (b : ℕ) (s : State) (pc end : ℕ) (R : Outcome → Type 0) → pc ≡ end → R (Continues s)
      → Reaches c code b (Goes pc s) end R
  arrived b s pc end R e h = record {
    steps = 0;
    within = omega arith;
    outcome = Continues s;
    comes = run_zero c code (Goes pc s) ∙ ap (λ n. Goes n s) e;
    holds = h;
  }

  -- the run ends with a report
  pub ended : (b : ℕ) (e : Ending) (s : State) (pc end : ℕ) (R : Outcome → Type 0) → slice_get code pc ≡ Some (End e)
      → R (Halts (code_of e) (report_of e) (counted c (End e) s)) → Reaches c code (suc b) (Goes pc s) end R
  ended b e s pc end R at h =
      let l : Local = Ends (code_of e) (report_of e) (counted c (End e) s) in
      step_on b (Goes pc s) l end R (ap (λ o. act c o pc s) at)
      (record {
        steps = 0;
        within = omega arith;
        outcome = Halts (code_of e) (report_of e) (counted c (End e) s);
        comes = run_zero c code l;
        holds = h;
      })

  -- a jump
  pub jump_on : (b pc past : ℕ) (s : State) (end : ℕ) (R : Outcome → Type 0)
      → slice_get code pc ≡ Some (JumpForward past)
      → Reaches c code b (Goes (pc + 1 + past) (worked c s)) end R → Reaches c code (suc b) (Goes pc s) end R
  jump_on b pc past s end R at t = step_on b (Goes pc s) (Goes (pc + 1 + past) (worked c s)) end R
      (ap (λ o. act c o pc s) at) t

  pub jump_back : (b pc back to : ℕ) (s : State) (end : ℕ) (R : Outcome → Type 0)
      → slice_get code pc ≡ Some (JumpBack back) → pc ≡ to + back
      → Reaches c code b (Goes to (worked c s)) end R → Reaches c code (suc b) (Goes pc s) end R
  jump_back b pc back to s end R at e t =
      let same : pc - back ≡ to = omega arith in
      step_on b (Goes pc s) (Goes to (worked c s)) end R
      (ap (λ o. act c o pc s) at ∙ ap (λ n. Goes n (worked c s)) same) t

  -- a branch, by its condition
  pub branch : (b pc : ℕ) (s : State) (op : BranchOp) (x : ℕ) (y : RightOperand) (past end : ℕ) (R : Outcome → Type 0)
      → slice_get code pc ≡ Some (Branch op x y past)
      → (taken op x y s ≡ true → Reaches c code b (Goes (pc + 1 + past) (worked c s)) end R)
      → (taken op x y s ≡ false → Reaches c code b (Goes (pc + 1) (worked c s)) end R)
      → Reaches c code (suc b) (Goes pc s) end R
  branch b pc s op x y past end R at on off =
      ⊎_elim
      (λ e. step_on b (Goes pc s) (Goes (pc + 1 + past) (worked c s)) end R
      (ap (λ o. act c o pc s) at ∙ ap (λ n. Goes n (worked c s)) (cond-true _ (pc + 1 + past) (pc + 1) e)) (on e))
      (λ e. step_on b (Goes pc s) (Goes (pc + 1) (worked c s)) end R
      (ap (λ o. act c o pc s) at ∙ ap (λ n. Goes n (worked c s)) (cond-false _ (pc + 1 + past) (pc + 1) e)) (off e))
      (cases_Bool (taken op x y s))

  -- a body that may be passed over
  pub unless : (b pc : ℕ) (s : State) (op : BranchOp) (x : ℕ) (y : RightOperand) (body : List FlatInstruction)
      (R : Outcome → Type 0) → HasAt code pc (unless_code op x y body)
      → (taken op x y s ≡ true → R (Continues (worked c s)))
      → (taken op x y s ≡ false → Reaches c code b (Goes (pc + 1) (worked c s)) (pc + 1 + length body) R)
      → Reaches c code (suc b) (Goes pc s) (pc + length (unless_code op x y body)) R
  unless b pc s op x y body R has on off =
      let e : pc + 1 + length body ≡ pc + length (unless_code op x y body) = omega arith in
      subst (λ k. Reaches c code (suc b) (Goes pc s) k R) e
      (branch b pc s op x y (length body) (pc + 1 + length body) R has.0
      (λ h. arrived b (worked c s) (pc + 1 + length body) (pc + 1 + length body) R refl (on h)) off)

  -- A loop: I k holds where at most k turns are left, and D where the condition holds. A turn leaves fewer.
  module _ (pc : ℕ) (op : BranchOp) (x : ℕ) (y : RightOperand) (body : List FlatInstruction) (b : ℕ)
      (I : ℕ → State → Type 0) (D : Holds) (J : HoldsAtEnd) (has : HasAt code pc (until_code op x y body)) where
    -- what a turn that leaves at most j turns leads to
    abbrev pub Left : (j : ℕ) → State → Type 0
    Left j s = (i : ℕ) × (i ≤ j) × I i s

    abbrev pub Turns : (k : ℕ) → State → Type 0
    Turns k s = ((taken op x y s ≡ false) × (j : ℕ) × (k ≡ suc j)
        × Reaches c code b (Goes (pc + 1) (worked c s)) (pc + 1 + length body) (Either (λ s'. Left j (worked c s')) J))
        ⊎ ((taken op x y s ≡ true) × D (worked c s))

    abbrev pub Finishes : (k : ℕ) → State → Type 0
    Finishes k s = Reaches c code (k * (b + 2) + 1) (Goes pc s) (pc + length (until_code op x y body)) (Either D J)

    stops : (n : ℕ) (s : State) → (taken op x y s ≡ true) × D (worked c s) → Finishes n s
    stops n s d =
        let e : pc + 1 + (length body + 1) ≡ pc + length (until_code op x y body) =
        omega (arith, length-append body (JumpBack (length body + 1) ∷ [])) in
        let n' : suc (n * (b + 2)) ≡ n * (b + 2) + 1 = omega arith in
        subst (λ m. Reaches c code m (Goes pc s) (pc + length (until_code op x y body)) (Either D J)) n'
        (step_on (n * (b + 2)) (Goes pc s) (Goes (pc + 1 + (length body + 1)) (worked c s)) _ (Either D J)
        (ap (λ o. act c o pc s) has.0 ∙ ap (λ n. Goes n (worked c s)) (cond-true _ _ (pc + 1) d.0))
        (arrived (n * (b + 2)) (worked c s) _ _ (Either D J) e d.1))

    turns_on : (n k : ℕ) (s : State) → k ≤ suc n → IsOfWords s
        → ((i : ℕ) → i ≤ n → (s' : State) → IsOfWords s' → Left i s' → Finishes n s')
        → (taken op x y s ≡ false) × (j : ℕ) × (k ≡ suc j)
        × Reaches c code b (Goes (pc + 1) (worked c s)) (pc + 1 + length body) (Either (λ s'. Left j (worked c s')) J)
        → Finishes (suc n) s
    turns_on n k s le w again d =
        let at_end = (has_back code (pc + 1) body (JumpBack (length body + 1) ∷ []) has.1).0 in
        let m : suc n * (b + 2) + 1 ≡ suc (b + suc (n * (b + 2) + 1)) = omega (arith, suc_times n (b + 2)) in
        let w' : IsOfWords (worked c s) = record { values = w.values; memory = w.memory } in
        subst (λ m. Reaches c code m (Goes pc s) (pc + length (until_code op x y body)) (Either D J)) (sym m)
        (step_on (b + suc (n * (b + 2) + 1)) (Goes pc s) (Goes (pc + 1) (worked c s)) _ (Either D J)
        (ap (λ o. act c o pc s) has.0 ∙ ap (λ n. Goes n (worked c s)) (cond-false _ (pc + 1 + (length body + 1)) _ d.0))
        (next b (suc (n * (b + 2) + 1)) (Goes (pc + 1) (worked c s)) (pc + 1 + length body) _ (λ s'. Left d.1 (worked c
        s')) J
        (Either D J) w'
        d.3
        (λ s2 w2 q. jump_back (n * (b + 2) + 1) (pc + 1 + length body) (length body + 1) pc s2 _ (Either D J) at_end
        (omega arith)
        (again d.1 (omega (arith, d.2)) (worked c s2) (record { values = w2.values; memory = w2.memory }) q))
        (λ status report s j. j)))

    pub loop : ((k : ℕ) (s : State) → IsOfWords s → I k s → Turns k s) → (n k : ℕ) → k ≤ n → (s : State) → IsOfWords s
        → I k s → Finishes n s
    loop turn zero k le s w h = ⊎_elim
        (λ d. absurd (let j = d.1 in let e : k ≡ suc j = d.2 in omega arith))
        (λ d. stops zero s d)
        (turn k s w h)
    loop turn (suc n) k le s w h = ⊎_elim
        (λ d. turns_on n k s le w (λ j l s' w' q. loop turn n q.0 (let a = q.1 in omega arith) s' w' q.2) d)
        (λ d. stops (suc n) s d)
        (turn k s w h)

-- a routine from what it does alone, in the place where it stands
pub does : (c : Context) (r : List FlatInstruction) (P : Holds) (B : State → ℕ) (Q : State → Outcome → Type 0)
    → ((code : List FlatInstruction) (pc : ℕ) (s : State) → HasAt code pc r → IsOfWords s → P s
    → Reaches c code (B s) (Goes pc s) (pc + length r) (Q s)) → Does c r P B Q
does c r P B Q h = record { from = h }

-- One routine after another: what the second needs may depend on where the first began.
pub in_sequence : (c : Context) (a b : List FlatInstruction) (A B : ℕ) (P : Holds) (P' : State → Holds)
    (Q R : State → Outcome → Type 0) (Q' : State → State → Outcome → Type 0)
    → Does c a P (λ s. A) Q → ((s : State) → Does c b (P' s) (λ s'. B) (Q' s))
    → ((s s' : State) → P s → Q s (Continues s') → P' s s')
    → ((s s' : State) (x : Outcome) → P s → Q s (Continues s') → Q' s s' x → R s x)
    → ((s s' : State) (status : ℕ) (report : List ℕ) → P s → Q s (Halts status report s')
    → R s (Halts status report s'))
    → Does c (a ++ b) P (λ s. A + B) R
in_sequence c a b A B P P' Q R Q' da db middle on off = record {
  from = λ code pc s has w p.
      let ra = da.from code pc s (has_front code pc a b has) w p in
      let len : pc + length a + length b ≡ pc + length (a ++ b) = omega (arith, length-append a b) in
      subst (λ k. Reaches c code (A + B) (Goes pc s) k (R s)) len
      (next c code A B (Goes pc s) (pc + length a) (pc + length a + length b) (λ s'. Q s (Continues s'))
      (λ status report s'. Q s (Halts status report s')) (R s) w
      (weaken c code A A (Goes pc s) (pc + length a) (Q s) _ (omega arith) (by_cases s) ra)
      (λ s' w' q. weaken c code B B (Goes (pc + length a) s') _ (Q' s s') (R s) (omega arith)
      (λ x q'. on s s' x p q q')
      ((db s).from code (pc + length a) s' (has_back code pc a b has) w' (middle s s' p q)))
      (λ status report s' q. off s s' status report p q));
}
  where
    by_cases : (s : State) (x : Outcome) → Q s x
        → Either (λ s'. Q s (Continues s')) (λ status report s'. Q s (Halts status report s')) x
    by_cases s (Continues s') q = q
    by_cases s (Halts status report s') q = q
