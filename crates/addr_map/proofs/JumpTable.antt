-- The jump table of the functions.
use Rattle.std.proofs.Common.{◌≡◌, ℕ, ◌≤◌, arith}
use Rattle.addr_map.specs.Places.{function_address}

pub entry_from : (k : ℕ) → 0x10000 ≤ function_address k
unfolding function_address
entry_from k = omega arith

pub entry_to : (k : ℕ) → k ≤ 4096 → function_address k ≤ 0x20000
unfolding function_address
entry_to k h = omega (arith, h)

pub entries_apart : (j k : ℕ) → function_address j ≡ function_address k → j ≡ k
unfolding function_address
entries_apart j k e = omega (arith, e)
