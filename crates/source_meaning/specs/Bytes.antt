-- The bytes that routines of the library look at and set. A byte is looked at as an unsigned char (C99 7.21.1, 7.21.4).
-- The work of a routine is one for each byte that it looks at, moves, sets or puts out; a refused byte is none. So a
-- byte of a string that is scanned and then written elsewhere counts one for each of both, and one that is moved counts
-- one.
use Rattle.std.specs.Prelude.{ℕ, ◌-◌, ◌^◌, true, nat_lt, if◌then◌else◌, List, length}
use Rattle.obj_memory.specs.declared.int_type.IntType.TheVariants.{UnsignedChar}
use Rattle.obj_memory.specs.declared.value.Value.{Value}
use Rattle.obj_memory.specs.declared.value.Scalar.TheVariants.{Integer}
use Rattle.obj_memory.specs.declared.value.Place.{Place}
use Rattle.obj_memory.specs.Operators.{one_if}
use Rattle.obj_memory.specs.Access.{read_value, write_bytes}
use Rattle.source_meaning.specs.State.{Run, ◌>>=◌, ◌>>◌, done, choose, read_state, change, tally}
use Rattle.source_meaning.specs.Actions.{integer, is_zero, located}

-- what a routine does with some bytes; where there are none it looks at nothing, judges nothing and gives its argument
abbrev pub unless_empty : (size argument : Value) → Run Value → Run Value
unless_empty size argument run = choose (is_zero size) (done argument) run

-- a byte, judged and looked at
abbrev pub look : Value → (line : ℕ) → Run ℕ
look p line = do
  place ← located true 1 p line
  tally 1
  byte ← read_state (λ s. read_value (Integer UnsignedChar) place s.objects)
  done byte.word

-- bytes set at a place; the tags of their words stay
abbrev pub set_bytes : List ℕ → Place → Run (Unit {0})
set_bytes bytes place = do
  tally (length bytes)
  change (λ s. record s { objects = write_bytes bytes place s.objects })

-- how the first of two bytes compares with the second: -1, 0 or 1 (7.21.4 paragraph 1)
abbrev pub order : (x y : ℕ) → Value
order x y = integer (if nat_lt x y then 2 ^ 64 - 1 else one_if (nat_lt y x))
