-- The lowest bytes of a word.
use Rattle.std.proofs.Common.{◌≡◌, ℕ, zero, suc, ◌≤◌, ◌∷◌, take, refl, ap, arith}
use Rattle.std.specs.Int.{byte_at, bytes_low_first, to_le_bytes, w64}
use Rattle.byteorder.specs.Endian.{little_bytes}

first_bytes : (i k m n : ℕ) → k ≤ m → take k (bytes_low_first i m n) ≡ bytes_low_first i k n
first_bytes i zero m n h = refl
first_bytes i (suc k) zero n h = absurd (omega arith)
first_bytes i (suc k) (suc m) n h = ap (λ bs. byte_at i n ∷ bs) (first_bytes (suc i) k m n (omega arith))

pub lowest_bytes : (k n : ℕ) → k ≤ 8 → take k (to_le_bytes w64 n) ≡ little_bytes k n
lowest_bytes k n h = first_bytes 0 k 8 n h
