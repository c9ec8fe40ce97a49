-- Paths through the graph of a function, and what comes last on them.
use Rattle.std.specs.Prelude.{◌≡◌, ◌⊎◌, ℕ, Some, slice_get}
use Rattle.tac_ir.specs.declared.instruction.Instruction.{Instruction}
use Rattle.tac_ir.specs.declared.function.CodeFunction.{CodeFunction}
use Rattle.tac_ir.specs.Edges.{LeadsTo}

-- a path from where a call begins to a node, along the edges of the text
pub data Path (function : CodeFunction) : (node : ℕ) → Type 0 where
  Start : Path function function.entry
  On : (n m : ℕ) (i : Instruction) → Path function n → slice_get function.code n ≡ Some i → LeadsTo i m
      → Path function m

-- on a path an instruction that makes something known comes behind the last one that ends it
abbrev pub IsKnownOn : (function : CodeFunction) (Makes Ends : Instruction → Type 0) (node : ℕ) → Path function node
    → Type 0
IsKnownOn function Makes Ends _ Start = ⊥
IsKnownOn function Makes Ends _ (On n m i path has to) =
    Makes i ⊎ (IsKnownOn function Makes Ends n path × (Ends i → ⊥))
