-- Sets of temporaries.
use Rattle.std.specs.Prelude.{ℕ, ◌*◌, ◌/◌, ◌%◌, Bool, ◌==◌, List, length, slice_index}
use Rattle.std.specs.Int.{bit_at}
use Rattle.metadata_expansion.specs.declared.temporary_set.TemporarySet.{TemporarySet}

-- the bit of a number in words of 64 bits
abbrev pub bit_in : List ℕ → ℕ → ℕ
bit_in words y = bit_at (slice_index words (y / 64)) (y % 64)

-- a temporary is in a set where its bit is 1
abbrev pub is_in : TemporarySet → (temporary : ℕ) → Bool
is_in s y = bit_in s.words.items y == 1

-- how many temporaries have bits
abbrev pub room : TemporarySet → ℕ
room s = 64 * length s.words.items
