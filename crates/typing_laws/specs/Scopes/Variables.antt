-- How many variables are among the names of a scope (C99 6.2.1).
use Rattle.std.specs.Prelude.{ℕ, ◌+◌, [], ◌∷◌}
use Rattle.c_scope.specs.declared.meaning.Designated.TheVariants as what
use Rattle.c_scope.specs.declared.meaning.Meaning.{Meaning}
use Rattle.c_scope.specs.declared.meaning.Meaning.TheVariants as meaning
use Rattle.c_scope.specs.Names.{Names}

abbrev pub variable_count : Meaning → ℕ
variable_count (meaning.Named (what.Variable n) type) = 1
variable_count m = 0

abbrev pub variables_among : Names Meaning → ℕ
variables_among [] = 0
variables_among (e ∷ es) = variable_count e.1 + variables_among es
