-- The functions of a program, with the bytes that a call of each takes.
use Rattle.std.specs.Prelude.{ℕ, suc, ◌^◌, nat_lt, if◌then◌else◌, List, [], ◌∷◌, ◌++◌, Option, Some, None, option_map}
use Rattle.std.specs.Prelude.{Result, Ok, Err}
use Rattle.c_tree.specs.declared.c_type.TypeWord.{TypeWord}
use Rattle.c_tree.specs.Extents.{TypeExtent}
use Rattle.c_tree.specs.Programs.{Function, StaticObject}
use Rattle.c_tree.specs.Room.{room}
use Rattle.c_room.specs.Numbers.{fitting}
use Rattle.c_unit_typing.specs.Files.{Definition}
use Rattle.c_unit_typing.specs.Programs.{function_of, result_kind}

abbrev pub room_among : List (Option TypeExtent) → (types : List (List TypeWord)) → List StaticObject → (number : ℕ)
    → Definition → ℕ
room_among es types statics n d = room statics n (result_kind es d.type) (function_of types 0 d)

-- those of definitions from a number on
unfoldable pub functions_among : List (Option TypeExtent) → (types : List (List TypeWord)) → List StaticObject
    → (number : ℕ) → List Definition → List Function
functions_among es types statics n [] = []
functions_among es types statics n (d ∷ ds) =
    function_of types (room_among es types statics n d) d ∷ functions_among es types statics (suc n) ds

-- of functions from a number on, the number of the first whose calls take 2^64 bytes or more
abbrev pub first_without_room : (number : ℕ) → List Function → Option ℕ
first_without_room n [] = None
first_without_room n (f ∷ fs) = if nat_lt f.room (2 ^ 64) then first_without_room (suc n) fs else Some n

-- a function with a room that fits
abbrev pub function_in : (types : List (List TypeWord)) → (room : Option ℕ) → Definition → Option Function
function_in types room d = option_map (λ r. function_of types r d) room

-- the functions of definitions from a number on, behind those before, or the number of the first without room

abbrev pub and_then : Option Function → (number : ℕ) → (Function → Result (List Function) ℕ) → Result (List Function) ℕ
and_then None n next = Err n
and_then (Some f) n next = next f

unfoldable pub made : List (Option TypeExtent) → (types : List (List TypeWord)) → List StaticObject → (number : ℕ)
    → List Function → List Definition → Result (List Function) ℕ
made es types statics n before [] = Ok before
made es types statics n before (d ∷ ds) =
    and_then (function_in types (fitting (room_among es types statics n d)) d) n (λ f.
    made es types statics (suc n) (before ++ f ∷ []) ds)
