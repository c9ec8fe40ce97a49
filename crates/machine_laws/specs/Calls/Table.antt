-- Where the entries of the jump table stand, and between them the start and the tails of endings: behind the entries of
-- the functions of the program, before those of the runtime.
use Rattle.std.specs.Prelude.{ℕ, zero, suc, ◌+◌, ◌*◌, nat_lt, if◌then◌else◌, length}
use Rattle.addr_map.specs.Places.{functions_begin, function_address}
use Rattle.flat_code.specs.declared.function.FlatProgram.{FlatProgram}
use Rattle.flat_code.specs.Calls.{function_in, is_of_program}
use Rattle.machine_laws.specs.Blocks.Tails.{tails}

-- one past the last function of the program of those below a number
unfoldable pub program_end : FlatProgram → (number : ℕ) → ℕ
program_end p zero = 0
program_end p (suc k) = if is_of_program (function_in p k) then suc k else program_end p k

-- how many entries stand before the start
abbrev pub source_count : FlatProgram → ℕ
source_count p = program_end p (length p.functions)

-- the start has nine words; behind it stand the tails
abbrev pub start_address : FlatProgram → ℕ
start_address p = functions_begin + 16 * source_count p

abbrev pub tails_address : FlatProgram → ℕ
tails_address p = start_address p + 36

-- the bytes of both
abbrev pub start_bytes : ℕ
start_bytes = 36 + 4 * length tails

-- the entry of a function
unfoldable pub row_address : FlatProgram → (function : ℕ) → ℕ
row_address p f =
    if nat_lt f (source_count p) then function_address f else function_address f + start_bytes

-- where the functions of the runtime begin
abbrev pub runtime_begin : FlatProgram → ℕ
runtime_begin p = functions_begin + 16 * length p.functions + start_bytes
