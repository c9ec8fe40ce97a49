-- What the code computes with powers of two.
use Rattle.std.proofs.Common.{◌≡◌, ℕ, ◌+◌, ◌-◌, ◌*◌, ◌%◌, ◌^◌, ◌<◌, arith}
use Rattle.std.proofs.lemmas.Nat.{one_shl, pow_pos, pow_below}

pub shifted_one : (k : ℕ) → k < 64 → (1 * 2 ^ k) % 2 ^ 64 ≡ 2 ^ k
shifted_one k h = one_shl k 64 h

pub upper_ones : (k : ℕ) → k < 64 → (0 + (2 ^ 64 - (1 * 2 ^ k) % 2 ^ 64)) % 2 ^ 64 ≡ 2 ^ 64 - 2 ^ k
upper_ones k h =
    let positive : 0 < 2 ^ k = pow_pos k in
    let below : 2 ^ k < 2 ^ 64 = pow_below k 64 h in
    omega (arith, one_shl k 64 h)
