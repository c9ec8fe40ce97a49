-- Calls of functions: what they take, give and need, and which function an address names.
use Rattle.std.specs.Prelude.{ℕ, ◌+◌, ◌-◌, ◌*◌, ◌/◌, Bool, true, false, ◌&&◌, ◌==◌, nat_le, nat_lt, if◌then◌else◌}
use Rattle.std.specs.Prelude.{List, [], ◌∷◌, Option, Some, None, slice_get}
use Rattle.addr_map.specs.Places.{functions_begin, function_address}
use Rattle.flat_code.specs.declared.function.FlatFunction.{FlatFunction}
use Rattle.flat_code.specs.declared.function.FlatProgram.{FlatProgram}
use Rattle.flat_code.specs.State.{Values, Frame}

abbrev pub function_in : FlatProgram → ℕ → Option FlatFunction
function_in p f = slice_get p.functions f

abbrev pub is_of_program : Option FlatFunction → Bool
is_of_program None = false
is_of_program (Some f) = if f.is_runtime then false else true

-- The bytes of the activation record of a function: of one of the program twice what its call is charged, so that each
-- value of its code has a word of its own, the moved arguments of its calls too.
abbrev pub record_bytes : FlatFunction → ℕ
record_bytes f = if f.is_runtime then f.room else 2 * f.room

-- the bytes that a call of a function is charged, by whose functions are asked for
abbrev pub room_if : (runtime : Bool) → Option FlatFunction → ℕ
room_if runtime None = 0
room_if true (Some f) = if f.is_runtime then f.room else 0
room_if false (Some f) = if f.is_runtime then 0 else f.room

-- the bytes charged for the calls that wait, of functions of the runtime or of the program
unfoldable pub rooms : (runtime : Bool) → FlatProgram → List Frame → ℕ
rooms runtime p [] = 0
rooms runtime p (x ∷ xs) = room_if runtime (function_in p x.function) + rooms runtime p xs

-- the bytes that the calls of functions of the program take while a function runs
abbrev pub charged : FlatProgram → (function : ℕ) → List Frame → ℕ
charged p f frames = room_if false (function_in p f) + rooms false p frames

-- the registers of a call: its arguments are the first, and all others 0
abbrev pub arguments : (first count : ℕ) → Values → Values
arguments first n values = λ y. if nat_lt y n then values (first + y) else 0

-- the registers behind it, where so many results of the callee stand from one register on
abbrev pub with_results : (into count : ℕ) → (results : Values) → (from : ℕ) → Values → Values
with_results into n results from values =
    λ y. if nat_le into y && nat_lt y (into + n) then results (from + (y - into)) else values y

-- the number of the function of the program with this address
unfoldable pub function_at : FlatProgram → (address : ℕ) → Option ℕ
function_at p a =
    let k = (a - functions_begin) / 16 in
    if function_address k == a && is_of_program (function_in p k) then Some k else None
