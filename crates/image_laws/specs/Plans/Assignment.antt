-- Definite assignment: which virtual registers code reads that it has not made on each way there, and which it makes on
-- each way to its end.
use Rattle.std.specs.Prelude.{◌≡◌, ◌⊎◌, ℕ, ◌+◌, ◌<◌, ◌≤◌, List, [], ◌∷◌, length, Some, true}
use Rattle.std.specs.Prelude.{slice_get}
use Rattle.tac_ir.specs.declared.instruction.Instruction.{Instruction}
use Rattle.tac_ir.specs.declared.function.CodeFunction.{CodeFunction}
use Rattle.tac_ir.specs.Edges.{successors, LeadsTo}
use Rattle.flat_code.specs.declared.instruction.FlatInstruction.{FlatInstruction}
use Rattle.flat_code.specs.declared.instruction.FlatInstruction.TheVariants.{Branch, JumpForward, JumpBack}
use Rattle.flat_code.specs.declared.function.FlatFunction.{FlatFunction}
use Rattle.flat_code.specs.declared.function.FlatProgram.{FlatProgram}
use Rattle.reg_plan.specs.Effects.{made_by, is_among, Leads}
use Rattle.reg_plan.specs.Needs.{ReadsAt, MakesAt, AlwaysMakesAt}
use Rattle.reg_plan.specs.Accepted.{HasHome}
use Rattle.check_elim.specs.Paths.{Path, Start, On}

-- some virtual registers
abbrev pub Registers : Type 1
Registers = ℕ → Type 0

abbrev pub IsOneOf : List ℕ → Registers
IsOneOf [] y = ⊥
IsOneOf (x ∷ xs) y = (y ≡ x) ⊎ IsOneOf xs y

-- ---- code by itself

-- a way through code, from its first instruction to a place in it or behind it
pub data Way (code : List FlatInstruction) : (place : ℕ) → Type 0 where
  Begins : Way code 0
  Goes : (pc q : ℕ) (i : FlatInstruction) → Way code pc → slice_get code pc ≡ Some i → Leads i pc q → Way code q

-- an instruction on the way makes a register
abbrev pub IsMadeOn : FlatProgram → (code : List FlatInstruction) → (y place : ℕ) → Way code place → Type 0
IsMadeOn p code y _ Begins = ⊥
IsMadeOn p code y _ (Goes pc q i way at to) = (is_among (made_by p i) y ≡ true) ⊎ IsMadeOn p code y pc way

-- where some registers are given, one is definitely assigned at a place: it is given, or made on each way there
abbrev pub IsAssigned : FlatProgram → (given : Registers) → (code : List FlatInstruction) → (place y : ℕ) → Type 0
IsAssigned p given code pc y = (way : Way code pc) → given y ⊎ IsMadeOn p code y pc way

-- a jump leads no further than to a place, and back into the code
abbrev pub StaysWithin : (end place : ℕ) → FlatInstruction → Type 0
StaysWithin e pc (Branch op y z past) = pc + 1 + past ≤ e
StaysWithin e pc (JumpForward past) = pc + 1 + past ≤ e
StaysWithin e pc (JumpBack back) = back ≤ pc
StaysWithin e pc _ = Unit {0}

-- Where some registers are given, code reads such alone that are assigned, and makes some on each way to its end. What an
-- instruction makes whether or not it is needed is assigned where it leads, and so where other code leads there too.
-- The code may lead to its end, and so many places further.
pub record Assigns (program : FlatProgram) (function : ℕ) (given : Registers) (code : List FlatInstruction)
    (beyond : ℕ) (made : List ℕ) : Type 0 where
  pub stays : (pc : ℕ) (i : FlatInstruction) → slice_get code pc ≡ Some i
      → StaysWithin (length code + beyond) pc i
  pub reads : (pc y : ℕ) → ReadsAt program function code pc y → IsAssigned program given code pc y
  pub makes : (pc q y : ℕ) (i : FlatInstruction) → slice_get code pc ≡ Some i → Leads i pc q
      → AlwaysMakesAt program code pc y → q < length code → IsAssigned program given code q y
  pub ends : (pc q y : ℕ) (i : FlatInstruction) → slice_get code pc ≡ Some i → Leads i pc q
      → AlwaysMakesAt program code pc y → length code ≤ q → given y ⊎ IsOneOf made y
  pub made_behind : (q y : ℕ) → length code ≤ q → IsOneOf made y → IsAssigned program given code q y

-- it reads and makes none but some registers
pub record Names (program : FlatProgram) (function : ℕ) (code : List FlatInstruction) (named : Registers) : Type 0 where
  pub read : (pc y : ℕ) → ReadsAt program function code pc y → named y
  pub made : (pc y : ℕ) → MakesAt program code pc y → named y

-- ---- the code of nodes

-- the code of an instruction on a path makes a register
abbrev pub IsMadeBefore : (function : CodeFunction) → (made : Instruction → List ℕ) → (y node : ℕ) → Path function node
    → Type 0
IsMadeBefore c made y _ Start = ⊥
IsMadeBefore c made y _ (On n m i path at to) = IsOneOf (made i) y ⊎ IsMadeBefore c made y n path

-- where the code of nodes makes these registers, one is assigned at a node: it is where the function begins, or made on
-- each path there
abbrev pub IsAssignedAt : (begin : Registers) → (function : CodeFunction) → (made : Instruction → List ℕ) → (node : ℕ)
    → Registers
IsAssignedAt begin c made n y = (path : Path c n) → begin y ⊎ IsMadeBefore c made y n path

-- behind the code of a node that leads to two, the first jump is passed over
abbrev pub passed_over : List ℕ → ℕ
passed_over (x ∷ y ∷ ns) = 1
passed_over ns = 0

-- what is made where the function begins is assigned there too
abbrev pub IsBegun : (parameters : ℕ) → (begins : List ℕ) → Registers
IsBegun n begins y = (y < n) ⊎ IsOneOf begins y

-- The code of the nodes of a function, and that with which it begins, assign all that they read. A node without
-- successors has code that leads nowhere, and all others lead to nodes.
pub record AssignsAll (program : FlatProgram) (number parameters : ℕ) (put : Instruction → List FlatInstruction)
    (begin : List FlatInstruction) (function : CodeFunction) (begins : List ℕ)
    (made : Instruction → List ℕ) : Type 0 where
  pub entry : function.entry < length function.code
  pub nodes : (n m : ℕ) (i : Instruction) → slice_get function.code n ≡ Some i → LeadsTo i m → m < length function.code
  pub begin_assigns : Assigns program number (λ y. y < parameters) begin 0 begins
  pub assigns : (n : ℕ) (i : Instruction) → slice_get function.code n ≡ Some i
      → Assigns program number (IsAssignedAt (IsBegun parameters begins) function made n) (put i)
      (passed_over (successors i)) (made i)
  pub some : (n : ℕ) (i : Instruction) → slice_get function.code n ≡ Some i → successors i ≡ [] → 0 < length (put i)
  pub stops : (n : ℕ) (i : Instruction) → slice_get function.code n ≡ Some i → successors i ≡ []
      → (pc q : ℕ) (x : FlatInstruction) → slice_get (put i) pc ≡ Some x → Leads x pc q → q < length (put i)

-- it names registers below a number alone
pub record NamesBelow (program : FlatProgram) (number : ℕ) (put : Instruction → List FlatInstruction)
    (begin : List FlatInstruction) (function : CodeFunction) (count : ℕ) : Type 0 where
  pub begin_names : Names program number begin (λ y. y < count)
  pub names : (n : ℕ) (i : Instruction) → slice_get function.code n ≡ Some i
      → Names program number (put i) (λ y. y < count)

-- each of these has a home of its own within the activation record
pub record HasOwnHomes (function : FlatFunction) (count : ℕ) : Type 0 where
  pub few : count ≤ length function.homes
  pub inside : (y : ℕ) → y < count → HasHome function y
  pub apart : (x y w : ℕ) → x < count → y < count → slice_get function.homes x ≡ Some w
      → slice_get function.homes y ≡ Some w → x ≡ y
