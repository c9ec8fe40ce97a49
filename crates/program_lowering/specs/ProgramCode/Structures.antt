-- The areas for the structures that temporaries hold: what the room of a function has for them.
use Rattle.std.specs.Prelude.{ℕ, ◌+◌, List, map, get_or, Option, Some, None}
use Rattle.c_tree.specs.declared.expression.Kind.{Kind}
use Rattle.c_tree.specs.declared.expression.Kind.TheVariants.{Void}
use Rattle.c_tree.specs.Blocks.{each_contents}
use Rattle.c_tree.specs.Programs.{Function, Program}
use Rattle.c_tree.specs.Room.{structure_bytes, content_bytes}
use Rattle.c_tree.specs.Walk.{sum_of}
use Rattle.source_meaning.specs.Calls.{function_at}
use Rattle.program_lowering.specs.ProgramCode.Whole.{results_of}

-- the bytes that its room counts five times, for they have tags too: its result, and what is given and taken in each of
-- its calls
abbrev pub structures_room : (result : Kind) → Function → ℕ
structures_room result f = structure_bytes result + sum_of (map content_bytes (each_contents f.body))

abbrev pub structures_room_at : (results : List Kind) → Option Function → ℕ
structures_room_at results None = 0
structures_room_at results (Some f) = structures_room (get_or results f.type_number Void) f

-- of a function by its number
abbrev pub room_for_structures : Program → (function : ℕ) → ℕ
room_for_structures p n = structures_room_at (results_of p.function_types) (function_at p.functions n)
