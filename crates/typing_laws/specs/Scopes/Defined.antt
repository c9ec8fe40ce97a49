-- Definitions whose declarators have a name and, directly behind it, parameters with names, as well-formed ones have
-- (C99 6.9.1).
use Rattle.std.specs.Prelude.{Bool, true, List}
use Rattle.std.specs.List.{list_all}
use Rattle.c_syntax.specs.Formed.{defines_function}
use Rattle.c_syntax.specs.Statements.{External, declaration, definition}

abbrev pub defines : External → Bool
defines (definition specs d b) = defines_function d
defines (declaration d) = true

abbrev pub define_functions : List External → Bool
define_functions es = list_all defines es
