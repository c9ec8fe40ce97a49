-- The type of a function in the key of a pointer to it (C99 6.5.2.2): a call through a pointer finds there which type the
-- function has, and how much room a call of it takes.
use Rattle.std.specs.Prelude.{◌≡◌, ℕ, suc, ◌+◌, ◌*◌, ◌/◌, ◌^◌, ◌≤◌, min, ◌==◌, if◌then◌else◌, List, [], ◌∷◌}
use Rattle.std.specs.Prelude.{length, Some, slice_get}
use Rattle.obj_memory.specs.Heap.{rounded_up}
use Rattle.lib_wrappers.specs.AllocatingRoutines.Entering.{block_bytes}
use Rattle.source_meaning.specs.Blocks.{has_objects}
use Rattle.source_meaning.specs.Calls.{body_objects}
use Rattle.tac_ir.specs.declared.function.CodeFunction.{CodeFunction}
use Rattle.tac_ir.specs.Meaning.{header_of_code}

-- the number of the first function of a type, and their count where no function has it
abbrev pub first_of_type : List CodeFunction → (type_number : ℕ) → ℕ
first_of_type [] t = 0
first_of_type (c ∷ cs) t = if c.type_number == t then 0 else suc (first_of_type cs t)

-- The bytes of the objects of a function's body, in units of 16; what is more than the object stack ever has is told as
-- just more than that.
abbrev pub object_units : CodeFunction → ℕ
object_units c =
    let vs = body_objects (header_of_code c) in
    if has_objects vs then min (rounded_up 16 (block_bytes vs) / 16) (2 ^ 18 + 1) else 0

-- the bytes that a call takes of its budget, of which the same holds
abbrev pub room_told : CodeFunction → ℕ
room_told c = min c.room (2 ^ 24 + 1)

-- the three numbers in one, 12, 19 and 25 bits wide
abbrev pub type_key_of : (kind units room : ℕ) → ℕ
type_key_of kind units room = kind + 2 ^ 12 * (units + 2 ^ 19 * room)

abbrev pub type_key : List CodeFunction → CodeFunction → ℕ
type_key fs c = type_key_of (first_of_type fs c.type_number) (object_units c) (room_told c)

-- the keys of pointers to functions tell just this; there are no more functions than the number of a type has room for
pub record HaveTypeKeys (functions : List CodeFunction) (types : ℕ → ℕ) : Type 0 where
  pub few : length functions ≤ 2 ^ 12
  pub each : (f : ℕ) (c : CodeFunction) → slice_get functions f ≡ Some c → types f ≡ type_key functions c
