-- Routines put together: one after another, one that may be passed over, one again and again, and code without jumps
-- over any registers.
use Rattle.std.proofs.Common.{◌≡◌, ℕ, zero, suc, ◌+◌, ◌-◌, ◌*◌, ◌^◌, ◌<◌, ◌≤◌, List, [], ◌∷◌, ◌++◌, true, false, map}
use Rattle.std.proofs.Common.{length, refl, arith, inl, inr}
use Rattle.rv_isa.specs.declared.instruction.BranchOp.{BranchOp}
use Rattle.flat_code.specs.declared.instruction.RightOperand.{RightOperand}
use Rattle.flat_code.specs.declared.instruction.FlatInstruction.{FlatInstruction}
use Rattle.flat_code.specs.declared.instruction.FlatInstruction.TheVariants.{JumpBack}
use Rattle.flat_code.specs.State.{State}
use Rattle.flat_code.specs.Words.{IsOfWords}
use Rattle.flat_code.specs.Meaning.{Context, Goes}
use Rattle.flat_code.specs.Routines.Registers.{IsNoneOf, AreDistinct, AreBelow, OthersStay}
use Rattle.flat_code.specs.Routines.Routine.{Outcome, Continues, Halts, Does, Either, Never, unless_code, until_code}
use Rattle.flat_code.specs.Routines.Routine.{HasAt}
use Rattle.flat_code.specs.Routines.Effects.{worked, effects, AreAllowed}
use Rattle.flat_code.specs.Routines.Renaming.{rename, all_fit, through}
use Rattle.flat_code.proofs.Routines.Steps.{has_front}
use Rattle.flat_code.proofs.Routines.Rules.{Holds, taken, weaken, unless, loop, in_sequence, Turns}
use Rattle.flat_code.proofs.Routines.Distinct.{AreFrom, AreRegisters, register_of, registers_rename, others_stay}
use Rattle.flat_code.proofs.Routines.Wrapped.{straight_routine}
use Rattle.flat_actions.proofs.Standing.{none_of_none}

-- ---- one after another

module _ (c : Context) where
  -- fewer steps, more asked and less said
  pub does_weaken : (r : List FlatInstruction) (A B : ℕ) (P P' : Holds) (Q R : State → Outcome → Type 0) → A ≤ B
      → ((s : State) → P' s → P s) → ((s : State) (o : Outcome) → P' s → Q s o → R s o)
      → Does c r P (λ s. A) Q → Does c r P' (λ s. B) R
  does_weaken r A B P P' Q R le h k d = record {
    from = λ code pc s has w p.
        weaken c code A B (Goes pc s) _ (Q s) (R s) le (λ o q. k s o p q) (d.from code pc s has w (h s p));
  }

  -- the same of one that does not end the run
  pub quiet_weaken : (r : List FlatInstruction) (A B : ℕ) (P P' : Holds) (Q R : State → Holds) → A ≤ B
      → ((s : State) → P' s → P s) → ((s s' : State) → P' s → Q s s' → R s s')
      → Does c r P (λ s. A) (λ s. Either (Q s) Never) → Does c r P' (λ s. B) (λ s. Either (R s) Never)
  quiet_weaken r A B P P' Q R le h k d =
      does_weaken r A B P P' (λ s. Either (Q s) Never) (λ s. Either (R s) Never) le h by d
    where
      by : (s : State) (o : Outcome) → P' s → Either (Q s) Never o → Either (R s) Never o
      by s (Continues s') p q = k s s' p q
      by s (Halts status report s') p q = q

  -- a routine that does not end the run, and another that may depend on where the first began
  pub quiet_then : (a b : List FlatInstruction) (A B : ℕ) (P : Holds) (Q : State → Holds) (P' : State → Holds)
      (Q' : State → State → Outcome → Type 0) (R : State → Outcome → Type 0)
      → Does c a P (λ s. A) (λ s. Either (Q s) Never) → ((s : State) → Does c b (P' s) (λ s'. B) (Q' s))
      → ((s s' : State) → P s → Q s s' → P' s s')
      → ((s s' : State) (o : Outcome) → P s → Q s s' → Q' s s' o → R s o)
      → Does c (a ++ b) P (λ s. A + B) R
  quiet_then a b A B P Q P' Q' R da db middle on =
      in_sequence c a b A B P P' (λ s. Either (Q s) Never) R Q' da db middle on
      (λ s s' status report p never. absurd never)

  -- and where neither ends it
  pub both_quiet : (a b : List FlatInstruction) (A B : ℕ) (P : Holds) (Q : State → Holds) (P' : State → Holds)
      (Q' : State → State → Holds) (R : State → Holds)
      → Does c a P (λ s. A) (λ s. Either (Q s) Never)
      → ((s : State) → Does c b (P' s) (λ s'. B) (λ s'. Either (Q' s s') Never))
      → ((s s' : State) → P s → Q s s' → P' s s')
      → ((s s' s2 : State) → P s → Q s s' → Q' s s' s2 → R s s2)
      → Does c (a ++ b) P (λ s. A + B) (λ s. Either (R s) Never)
  both_quiet a b A B P Q P' Q' R da db middle on =
      quiet_then a b A B P Q P' (λ s s'. Either (Q' s s') Never) (λ s. Either (R s) Never) da db middle by
    where
      by : (s s' : State) (o : Outcome) → P s → Q s s' → Either (Q' s s') Never o → Either (R s) Never o
      by s s' (Continues s2) p q h = on s s' s2 p q h
      by s s' (Halts status report s2) p q h = h

  -- ---- passed over where a condition holds

  pub unless_does : (op : BranchOp) (x : ℕ) (y : RightOperand) (body : List FlatInstruction) (B : ℕ) (P : Holds)
      (Q R : State → Outcome → Type 0)
      → Does c body (λ s. P s × (taken op x y s ≡ false)) (λ s. B) Q
      → ((s : State) → P s → taken op x y s ≡ true → R s (Continues (worked c s)))
      → ((s : State) → P s → P (worked c s))
      → ((s : State) (o : Outcome) → P s → Q (worked c s) o → R s o)
      → Does c (unless_code op x y body) P (λ s. suc B) R
  unless_does op x y body B P Q R d passed work back = record {
    from = λ code pc s has w p. unless c code B pc s op x y body (R s) has (passed s p)
        (λ off. weaken c code B B (Goes (pc + 1) (worked c s)) _ (Q (worked c s)) (R s) (omega arith)
        (λ o q. back s o p q)
        (d.from code (pc + 1) (worked c s) has.1 (record { values = w.values; memory = w.memory }) (work s p, off)));
  }

  -- ---- again and again: I k holds where k turns are left

  pub until_does : (op : BranchOp) (x : ℕ) (y : RightOperand) (body : List FlatInstruction) (b : ℕ)
      (I : ℕ → Holds) → ((k : ℕ) → Does c body (I (suc k)) (λ s. b) (λ s. Either (I k) Never))
      → ((k : ℕ) (s : State) → I k s → I k (worked c s))
      → ((s : State) → I 0 s → taken op x y s ≡ true)
      → ((k : ℕ) (s : State) → IsOfWords s → I (suc k) s → taken op x y s ≡ false)
      → (n : ℕ) → Does c (until_code op x y body) (I n) (λ s. n * (b + 2) + 1) (λ s. Either (I 0) Never)
  until_does op x y body b I d work stops goes n = record {
    from = λ code pc s has w i.
        loop c code pc op x y body b I (I 0) Never has (turn code pc has) n n (omega arith) s w i;
  }
    where
      turn : (code : List FlatInstruction) (pc : ℕ) → (has : HasAt code pc (until_code op x y body))
          → (k : ℕ) (s : State) → IsOfWords s → I k s
          → Turns c code pc op x y body b I (I 0) Never has k s
      turn code pc has zero s w i = inr (stops s i, work 0 s i)
      turn code pc has (suc k) s w i = inl (
        goes k s w i,
        k,
        refl,
        weaken c code b b (Goes (pc + 1) (worked c s)) _ (Either (I k) Never) _ (omega arith) (by k)
            ((d k).from code (pc + 1) (worked c s)
            (has_front code (pc + 1) body (JumpBack (length body + 1) ∷ []) has.1)
            (record { values = w.values; memory = w.memory }) (work (suc k) s i)),
      )
        where
          by : (k : ℕ) (o : Outcome) → Either (I k) Never o
              → Either (λ s'. (i : ℕ) × (i ≤ k) × I i (worked c s')) Never o
          by k (Continues s') i = (k, omega arith, work k s' i)
          by k (Halts status report s') never = never

-- ---- code without jumps, over registers that are read alone and those from scratch on

-- so many registers from one on
abbrev pub behind : (t k n : ℕ) → List ℕ
behind t k zero = []
behind t k (suc n) = (t + k) ∷ behind t (k + 1) n

abbrev pub registers_from : (t n : ℕ) → List ℕ
registers_from t zero = []
registers_from t (suc n) = t ∷ behind t 1 n

behind_from : (t k n : ℕ) → AreFrom t (behind t k n)
behind_from t k zero = tt
behind_from t k (suc n) = (omega arith, behind_from t (k + 1) n)

behind_none : (t k n x : ℕ) → x < t + k → IsNoneOf x (behind t k n)
behind_none t k zero x l = tt
behind_none t k (suc n) x l = ((λ e. omega arith), behind_none t (k + 1) n x (omega arith))

behind_distinct : (t k n : ℕ) → AreDistinct (behind t k n)
behind_distinct t k zero = tt
behind_distinct t k (suc n) = (behind_none t (k + 1) n (t + k) (omega arith), behind_distinct t (k + 1) n)

pub own_registers : (ins : List ℕ) (t n : ℕ) → AreBelow t ins → AreRegisters ins [] (registers_from t n) t
own_registers ins t zero below = record {
  none = none_of_none ins;
  distinct = tt;
  ins_below = below;
  res_below = tt;
  from = tt;
  own_distinct = tt;
}
own_registers ins t (suc n) below = record {
  none = none_of_none ins;
  distinct = tt;
  ins_below = below;
  res_below = tt;
  from = (omega arith, behind_from t 1 n);
  own_distinct = (behind_none t 1 n t (omega arith), behind_distinct t 1 n);
}

-- the names of the registers: first those that are read alone
abbrev pub named : (ins : List ℕ) (t n : ℕ) → ℕ → ℕ
named ins t n = register_of ins [] (registers_from t n)

-- the state behind such code, seen by its own registers
pub record IsGlued (c : Context) (ins : List ℕ) (t n : ℕ) (is : List FlatInstruction) (s s' : State) : Type 0 where
  pub words : IsOfWords s
  pub values : (j : ℕ) → j < length ins + length (registers_from t n)
      → (effects c is (through (named ins t n) s)).values j ≡ s'.values (named ins t n j)
  pub rest : s' ≡ record (effects c is (through (named ins t n) s)) { values = s'.values }
  pub others : OthersStay [] t s s'

pub glued : (c : Context) (ins : List ℕ) (t n : ℕ) (is : List FlatInstruction) (P : Holds) → AreBelow t ins
    → all_fit (length ins + length (registers_from t n)) (length ins) (length is) 0 is ≡ true
    → ((s : State) → IsOfWords s → P s → AreAllowed c is (through (named ins t n) s))
    → Does c (map (rename (named ins t n)) is) P (λ s. length is) (λ s. Either (IsGlued c ins t n is s) Never)
glued c ins t n is P below fit allowed =
    let r = own_registers ins t n below in
    straight_routine c (length ins + length (registers_from t n)) (length ins) (named ins t n) is P
    (registers_rename ins [] (registers_from t n) t r) fit (length is) (IsGlued c ins t n is) (omega arith) allowed
    (λ s s' w p agrees only. record {
      words = w;
      values = agrees.values;
      rest = agrees.rest;
      others = others_stay ins [] (registers_from t n) t r s s' only;
    })

-- ---- a number of 64 bits below zero
pub below_unit : (u : ℕ) → u < 2 ^ 64 → 2 ^ 64 - 1 - u + 1 ≡ 2 ^ 64 - u
below_unit u l = omega arith
