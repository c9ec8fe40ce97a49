-- Where an entry of the jump table stands, found by how many stand before the start.
use Rattle.std.proofs.Common.{◌≡◌, ℕ, ◌+◌, ◌*◌, ◌<◌, ◌≤◌, sym, arith}
use Rattle.flat_code.specs.declared.function.FlatProgram.{FlatProgram}
use Rattle.machine_laws.specs.Calls.Table.{source_count, row_address}
use Rattle.machine_laws.proofs.Calls.Table.{first_row, last_row, tails_length}

pub row_first : (p : FlatProgram) (sources number : ℕ) → sources ≡ source_count p → number < sources
    → 0x10000 + 16 * number ≡ row_address p number
row_first p sources number e lt = sym (first_row p number (omega arith))

pub row_last : (p : FlatProgram) (sources number : ℕ) → sources ≡ source_count p → sources ≤ number
    → 0x10000 + 16 * number + 2540 ≡ row_address p number
row_last p sources number e le =
    let r = last_row p number (omega arith) in
    let n = tails_length in
    omega arith

pub ruleset row_is = (row_first, row_last)
