-- The command that the words ask for. The budgets have no effect on programs without calls and objects, and are only
-- tested.
use Rattle.std.specs.Prelude.{List, Option, map, String, string_bytes}
use Rattle.std.specs.declared.alloc.Global.{Global}
use Rattle.command_line.specs.Asked.{Asked, command_in}

unfoldable pub commanded : List (String Global) → Option Asked
commanded words = command_in (map string_bytes words)
