-- The code of a function with its tables, in which the code of its text stands.
use Rattle.std.specs.Prelude.{◌≡◌, ℕ, Bool, List, Some, slice_get}
use Rattle.c_tree.specs.declared.program.Variable.{Variable}
use Rattle.tac_ir.specs.declared.instruction.Instruction.{Instruction}
use Rattle.tac_ir.specs.declared.key.Key.{Key}
use Rattle.tac_ir.specs.declared.function.CountedLoop.{CountedLoop}

-- the instructions by node, the keys, blocks and counted loops of the function, the texts of the program, which of its
-- static objects are string literals, and all variables of the function
pub record Placed : Type 0 where
  pub code : List Instruction
  pub keys : List Key
  pub blocks : List (List ℕ)
  pub loops : List CountedLoop
  pub texts : List (List ℕ)
  pub literals : List Bool
  pub variables : List Variable

-- the instruction stands at the node
abbrev pub Holds : Placed → (node : ℕ) → Instruction → Type 0
Holds c n i = slice_get c.code n ≡ Some i

-- a table has something at a number
abbrev pub HasAt : {A : Type 0} → List A → (number : ℕ) → A → Type 0
HasAt table n a = slice_get table n ≡ Some a
