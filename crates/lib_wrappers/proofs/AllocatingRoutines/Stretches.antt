-- Code without jumps between routines whose instructions are not known.
use Rattle.std.proofs.Common.{◌≡◌, ℕ, suc, ◌+◌, ◌≤◌, List, [], ◌∷◌, ◌++◌, true, false, Some, map, length}
use Rattle.std.proofs.Common.{sym}
use Rattle.std.proofs.Common.{ap, ◌∙◌, subst, arith}
use Rattle.std.specs.Prelude.{slice_get}
use Rattle.std.proofs.lemmas.List.{length-map}
use Rattle.rv_isa.specs.declared.instruction.BranchOp.{BranchOp}
use Rattle.flat_code.specs.declared.instruction.RightOperand.{RightOperand}
use Rattle.flat_code.specs.declared.instruction.FlatInstruction.{FlatInstruction}
use Rattle.flat_code.specs.declared.instruction.FlatInstruction.TheVariants.{Branch}
use Rattle.flat_code.specs.State.{State}
use Rattle.flat_code.specs.Words.{IsOfWords}
use Rattle.flat_code.specs.Meaning.{Context, Goes}
use Rattle.flat_code.specs.Routines.Registers.{AreBelow, IsNoneOf, OthersStay}
use Rattle.flat_code.specs.Routines.Routine.{HasAt, Outcome, Reaches, Either, Never}
use Rattle.flat_code.specs.Routines.Effects.{worked, effects, AreAllowed}
use Rattle.flat_code.specs.Routines.Renaming.{rename, all_fit, Agrees, through}
use Rattle.flat_code.proofs.Routines.Rules.{taken, next, branch}
use Rattle.flat_code.proofs.Routines.Distinct.{AreRegisters, register_of, registers_rename, others_stay}
use Rattle.flat_code.proofs.Routines.Wrapped.{straight_routine}

-- ---- registers that stay, over several stretches

pub others_both : (xs : List ℕ) (t : ℕ) (s s1 s2 : State) → OthersStay xs t s s1 → OthersStay xs t s1 s2
    → OthersStay xs t s s2
others_both xs t s s1 s2 h k x l none = k x l none ∙ h x l none

-- a routine that gives no result below t
pub others_below : (t u : ℕ) (xs : List ℕ) (s s' : State) → OthersStay [] u s s' → t ≤ u → OthersStay xs t s s'
others_below t u xs s s' h le x l none = h x (omega arith) tt

-- a register from t on is none of those below
pub above_none : (t x : ℕ) (ys : List ℕ) → AreBelow t ys → t ≤ x → IsNoneOf x ys
above_none t x [] h l = tt
above_none t x (y ∷ ys) h l = ((λ e. let a = h.0 in omega arith), above_none t x ys h.1 l)

-- ---- a stretch over registers that are known by their places in lists

module _ (c : Context) (ins res own : List ℕ) (t : ℕ) (g : AreRegisters ins res own t) (r : List FlatInstruction)
    (fit : all_fit (length ins + length (res ++ own)) (length ins) (length r) 0 r ≡ true) where
  abbrev f : ℕ → ℕ
  f = register_of ins res own

  -- what it leaves
  pub record IsDone (s s' : State) : Type 0 where
    pub agrees : Agrees (length ins + length (res ++ own)) f (effects c r (through f s)) s'
    pub others : OthersStay res t s s'

  pub stretch_on : (code : List FlatInstruction) (b pc : ℕ) (s : State) (end : ℕ) (R : Outcome → Type 0)
      → IsOfWords s → HasAt code pc (map (rename f) r) → AreAllowed c r (through f s)
      → ((s' : State) → IsOfWords s' → IsDone s s' → Reaches c code b (Goes (pc + length r) s') end R)
      → Reaches c code (length r + b) (Goes pc s) end R
  stretch_on code b pc s end R w has allowed on =
      let d = straight_routine c (length ins + length (res ++ own)) (length ins) f r
      (λ x. AreAllowed c r (through f x)) (registers_rename ins res own t g) fit (length r) IsDone (omega arith)
      (λ x wx p. p)
      (λ x s' wx p agrees only. record { agrees = agrees; others = others_stay ins res own t g x s' only }) in
      let len : pc + length (map (rename f) r) ≡ pc + length r = ap (λ k. pc + k) (length-map r (rename f)) in
      next c code (length r) b (Goes pc s) (pc + length r) end (IsDone s) Never R w
      (subst (λ k. Reaches c code (length r) (Goes pc s) k (Either (IsDone s) Never)) len
      (d.from code pc s has w allowed))
      (λ s' w' h. on s' w' h)
      (λ status report s' never. absurd never)

-- ---- a branch whose condition is known

module _ (c : Context) (code : List FlatInstruction) where
  pub goes_past : (b pc to : ℕ) (s : State) (op : BranchOp) (x : ℕ) (y : RightOperand) (past end : ℕ)
      (R : Outcome → Type 0) → slice_get code pc ≡ Some (Branch op x y past) → pc + 1 + past ≡ to
      → taken op x y s ≡ true → Reaches c code b (Goes to (worked c s)) end R → Reaches c code (suc b) (Goes pc s) end R
  goes_past b pc to s op x y past end R at there e r =
      branch c code b pc s op x y past end R at
      (λ h. subst (λ n. Reaches c code b (Goes n (worked c s)) end R) (sym there) r)
      (λ h. absurd (let no : true ≡ false = sym e ∙ h in cc))

  pub goes_into : (b pc : ℕ) (s : State) (op : BranchOp) (x : ℕ) (y : RightOperand) (past end : ℕ)
      (R : Outcome → Type 0) → slice_get code pc ≡ Some (Branch op x y past) → taken op x y s ≡ false
      → Reaches c code b (Goes (pc + 1) (worked c s)) end R → Reaches c code (suc b) (Goes pc s) end R
  goes_into b pc s op x y past end R at e r =
      branch c code b pc s op x y past end R at (λ h. absurd (let no : true ≡ false = sym h ∙ e in cc)) (λ h. r)
