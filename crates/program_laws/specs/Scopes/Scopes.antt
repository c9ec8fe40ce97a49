-- Scopes that agree on what they name (C99 6.2.1).
use Rattle.std.specs.Prelude.{◌≡◌, ◌⊎◌, ℕ, List}
use Rattle.c_tree.specs.declared.program.Variable.{Variable}
use Rattle.c_tree.specs.Blocks.{no_variable}
use Rattle.c_tree.specs.Valid.{Scope, at_number}

-- each variable that some let be named is there in others too; an object that cannot be named has no kind
pub record AreAmong (vs ws : List Variable) : Type 0 where
  pub each : (x : ℕ) → (at_number vs x ≡ at_number ws x) ⊎ (at_number vs x ≡ no_variable)

-- two scopes are those of one program
pub record AreOfOneProgram (before after : Scope) : Type 0 where
  pub statics : before.statics ≡ after.statics
  pub functions : before.functions ≡ after.functions
  pub types : before.types ≡ after.types
