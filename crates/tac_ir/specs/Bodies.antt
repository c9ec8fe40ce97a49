-- The bodies of counted loops: closed parts of the graph of their function, which are entered by the loop's turn alone;
-- and whether they assign its variable nowhere.
use Rattle.std.specs.Prelude.{◌≡◌, ◌≤◌, ◌<◌, ◌⊎◌, ℕ, Bool, false, ◌==◌, List, map, length, Some, slice_get}
use Rattle.tac_ir.specs.declared.instruction.Instruction.{Instruction}
use Rattle.tac_ir.specs.declared.instruction.Instruction.TheVariants.{SetPlain, UpdatePlain, Turn}
use Rattle.tac_ir.specs.declared.function.Span.{Span}
use Rattle.tac_ir.specs.declared.function.CountedLoop.{CountedLoop}
use Rattle.tac_ir.specs.declared.function.CodeFunction.{CodeFunction}
use Rattle.tac_ir.specs.declared.function.Tac.{Tac}
use Rattle.tac_ir.specs.Edges.{LeadsTo}
use Rattle.tac_ir.specs.Meaning.{function_in}

abbrev pub IsIn : Span → (node : ℕ) → Type 0
IsIn span n = (span.start ≤ n) × (n < span.end)

abbrev pub no_nodes : Span
no_nodes = record { start = 0; end = 0 }

-- the loop as it is before checks are put in
abbrev pub without_added : CountedLoop → CountedLoop
without_added l = record l { added = no_nodes }

abbrev pub bodies_in : List CountedLoop → List Span
bodies_in = map (λ l. l.body)

-- a node stands in the body
abbrev pub IsInBody : CountedLoop → (node : ℕ) → Type 0
IsInBody l n = IsIn l.body n ⊎ IsIn l.added n

-- the instruction begins a turn of the loop with that number
abbrev pub IsTurnOf : (number : ℕ) → Instruction → Type 0
IsTurnOf number (Turn (Some n) m) = n ≡ number
IsTurnOf number i = ⊥

-- a plain variable is set or updated
abbrev pub assigns_plain : Instruction → (variable : ℕ) → Bool
assigns_plain (SetPlain x a m) y = x == y
assigns_plain (UpdatePlain w k f line d x right m) y = x == y
assigns_plain i y = false

-- The nodes of the body of the loop with that number are nodes of the function, which does not begin in it; what leads
-- into it stands in it, or begins a turn of the loop.
pub record IsClosedBody (function : CodeFunction) (number : ℕ) (counted : CountedLoop) : Type 0 where
  pub within : (n : ℕ) → IsInBody counted n → n < length function.code
  pub begins : IsInBody counted function.entry → ⊥
  pub enters : (n m : ℕ) (i : Instruction) → slice_get function.code n ≡ Some i → LeadsTo i m → IsInBody counted m
      → IsInBody counted n ⊎ IsTurnOf number i

-- no instruction in the body assigns the loop's variable
pub record KeepsVariable (function : CodeFunction) (counted : CountedLoop) : Type 0 where
  pub by : (n : ℕ) (i : Instruction) → slice_get function.code n ≡ Some i → IsInBody counted n
      → assigns_plain i counted.variable ≡ false

-- it begins at a node, and its edges lead to nodes; each counted loop has a closed body, whether a run comes there or
-- not
pub record HasClosedBodies (function : CodeFunction) : Type 0 where
  pub begins : function.entry < length function.code
  pub leads : (n m : ℕ) (i : Instruction) → slice_get function.code n ≡ Some i → LeadsTo i m
      → m < length function.code
  pub bodies : (number : ℕ) (counted : CountedLoop) → slice_get function.loops number ≡ Some counted
      → IsClosedBody function number counted

pub record HaveClosedBodies (code : Tac) : Type 0 where
  pub by : (u : ℕ) (function : CodeFunction) → function_in code u ≡ Some function → HasClosedBodies function

pub record KeepVariables (code : Tac) : Type 0 where
  pub by : (u : ℕ) (function : CodeFunction) → function_in code u ≡ Some function → (number : ℕ)
      (counted : CountedLoop) → slice_get function.loops number ≡ Some counted → KeepsVariable function counted

-- no checks have been put into the bodies
pub record HasNoneAdded (function : CodeFunction) : Type 0 where
  pub by : (number : ℕ) (counted : CountedLoop) → slice_get function.loops number ≡ Some counted
      → counted.added ≡ no_nodes

pub record HaveNoneAdded (code : Tac) : Type 0 where
  pub by : (u : ℕ) (function : CodeFunction) → function_in code u ≡ Some function → HasNoneAdded function
