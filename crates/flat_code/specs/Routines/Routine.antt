-- What a list of instructions does, wherever it stands.
use Rattle.std.specs.Prelude.{◌≡◌, ℕ, ◌+◌, ◌≤◌, List, [], ◌∷◌, ◌++◌, Some, length, slice_get}
use Rattle.rv_isa.specs.declared.instruction.BranchOp.{BranchOp}
use Rattle.flat_code.specs.declared.instruction.RightOperand.{RightOperand}
use Rattle.flat_code.specs.declared.instruction.FlatInstruction.{FlatInstruction}
use Rattle.flat_code.specs.declared.instruction.FlatInstruction.TheVariants.{Branch, JumpBack}
use Rattle.flat_code.specs.State.{State}
use Rattle.flat_code.specs.Words.{IsOfWords}
use Rattle.flat_code.specs.Meaning.{Context, Local, Goes, Ends}
use Rattle.flat_code.specs.Routines.Local.{local_run}

-- the instructions stand in the code from a place on
abbrev pub HasAt : (code : List FlatInstruction) → (place : ℕ) → List FlatInstruction → Type 0
HasAt code pc [] = Unit {0}
HasAt code pc (i ∷ is) = (slice_get code pc ≡ Some i) × HasAt code (pc + 1) is

-- how a routine is left: past its last instruction, or with the run over
pub data Outcome : Type 0 where
  Continues : (s : State) → Outcome
  Halts : (status : ℕ) → (report : List ℕ) → (s : State) → Outcome

abbrev pub left_at : (place : ℕ) → Outcome → Local
left_at pc (Continues s) = Goes pc s
left_at pc (Halts status report s) = Ends status report s

-- within so many steps the code comes to a place, or the run ends, and Q holds then. No access on the way is of a byte
-- that may not be used
pub record Reaches (context : Context) (code : List FlatInstruction) (bound : ℕ) (start : Local) (place : ℕ)
    (Q : Outcome → Type 0) : Type 0 where
  pub steps : ℕ
  pub within : steps ≤ bound
  pub outcome : Outcome
  pub comes : local_run context code steps start ≡ left_at place outcome
  pub holds : Q outcome

-- From each state of words in which P holds the routine, wherever it stands in a function, comes to its end or ends the
-- run within B steps, and Q holds then.
pub record Does (context : Context) (instructions : List FlatInstruction) (P : State → Type 0) (B : State → ℕ)
    (Q : State → Outcome → Type 0) : Type 0 where
  pub from : (code : List FlatInstruction) (pc : ℕ) (s : State) → HasAt code pc instructions → IsOfWords s → P s
      → Reaches context code (B s) (Goes pc s) (pc + length instructions) (Q s)

-- one fact where the run goes on, another where it is over
abbrev pub Either : (State → Type 0) → ((status : ℕ) → (report : List ℕ) → State → Type 0) → Outcome → Type 0
Either I J (Continues s) = I s
Either I J (Halts status report s) = J status report s

-- the run does not end
abbrev pub Never : (status : ℕ) → (report : List ℕ) → State → Type 0
Never status report s = ⊥

-- a body that is passed over where a condition holds
abbrev pub unless_code : BranchOp → (left : ℕ) → RightOperand → (body : List FlatInstruction) → List FlatInstruction
unless_code op x y body = Branch op x y (length body) ∷ body

-- turns of a body until a condition holds, which is tested before each
abbrev pub until_code : BranchOp → (left : ℕ) → RightOperand → (body : List FlatInstruction) → List FlatInstruction
until_code op x y body = Branch op x y (length body + 1) ∷ (body ++ JumpBack (length body + 1) ∷ [])
