-- The structures that the temporaries of a function hold: the result of a call, one of zeros, and one that was taken as
-- an argument or a result. All else that has the contents of a structure has them where its operand had. An area for
-- contents belongs to a temporary, and so is as large as the greatest of them.
use Rattle.std.specs.Prelude.{◌≤◌, ℕ, zero, suc, ◌+◌, max, ◌==◌, if◌then◌else◌, List, [], ◌∷◌, Option, Some, None}
use Rattle.std.specs.Prelude.{get_or}
use Rattle.c_tree.specs.declared.expression.Kind.{Kind}
use Rattle.c_tree.specs.declared.expression.Kind.TheVariants.{Void}
use Rattle.c_tree.specs.Room.{structure_bytes}
use Rattle.tac_ir.specs.declared.instruction.Instruction.{Instruction}
use Rattle.tac_ir.specs.declared.instruction.Instruction.TheVariants.{ZeroOf, Take, Call, CallThrough}
use Rattle.tac_ir.specs.declared.function.CodeFunction.{CodeFunction}
use Rattle.tac_ir.specs.declared.function.Tac.{Tac}
use Rattle.tac_ir.specs.Meaning.{code_of, function_in}

-- what functions of a type give
abbrev pub result_of_type : List Kind → (type_number : ℕ) → Kind
result_of_type results n = get_or results n Void

-- what a function gives
abbrev pub result_of : List Kind → Option CodeFunction → Kind
result_of results None = Void
result_of results (Some c) = result_of_type results c.type_number

-- the bytes of a structure, rounded up to 16, where an instruction puts a value of a kind into a temporary, as another
-- temporary has them
abbrev pub bytes_put : (to : ℕ) → Kind → (temporary : ℕ) → ℕ
bytes_put d kind i = if d == i then structure_bytes kind else 0

-- how many bytes the structure has that an instruction puts into a temporary; 0 where it puts none there
abbrev pub structure_put : Tac → Instruction → (temporary : ℕ) → ℕ
structure_put t (ZeroOf kind d m) i = bytes_put d kind i
structure_put t (Take kind line d a m) i = bytes_put d kind i
structure_put t (Call f line d n m) i = bytes_put d (result_of t.results (function_in t f)) i
structure_put t (CallThrough type_number line d n m) i = bytes_put d (result_of_type t.results type_number) i
structure_put t j i = 0

-- the greatest structure that a temporary ever holds
abbrev pub greatest_structure : Tac → List Instruction → (temporary : ℕ) → ℕ
greatest_structure t [] i = 0
greatest_structure t (j ∷ js) i = max (structure_put t j i) (greatest_structure t js i)

-- those of the temporaries below a number together
abbrev pub structures_below : Tac → List Instruction → (number : ℕ) → ℕ
structures_below t js zero = 0
structures_below t js (suc i) = structures_below t js i + greatest_structure t js i

-- Of each function the areas of all its temporaries take no more than so many bytes.
pub record AreasFit (t : Tac) (bytes : (function : ℕ) → ℕ) : Type 0 where
  pub by : (u number : ℕ) → structures_below t (code_of (function_in t u)) number ≤ bytes u
