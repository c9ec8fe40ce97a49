-- Little endian numbers.
use Rattle.std.proofs.Common.{◌≡◌, ℕ, zero, suc, ◌*◌, ◌%◌, ◌^◌, ◌<◌, List, [], get_or, refl, ap, ◌∙◌}
use Rattle.std.proofs.Common.{sym, arith}
use Rattle.std.proofs.lemmas.List.{append-nil}
use Rattle.std.proofs.Math.Nat.{div-one}
use Rattle.std.specs.Int.{byte_at, bytes_low_first}
use Rattle.byteorder.specs.Endian.{little_bytes, little_number, little_from}
use Rattle.byteorder.specs.Numbers.{little_from-bytes}
use Rattle.byteorder.proofs.Bytes.{pow256}

pub little_number-bytes : (k n : ℕ) → little_number k (little_bytes k n) ≡ n % 2 ^ (8 * k)
little_number-bytes k n =
    let all = append-nil (little_bytes k n) in
    sym (ap (little_number k) all) ∙ little_from-bytes k 0 n [] ∙ ap (λ i. i % 256 ^ k) (div-one n)
    ∙ ap (λ i. n % i) (pow256 k)

byte_below : (i n : ℕ) → byte_at i n < 256
byte_below zero n = omega arith
byte_below (suc i) n = omega arith

bytes_below : (j k n i : ℕ) → get_or (bytes_low_first j k n) i 0 < 256
bytes_below j zero n i = omega arith
bytes_below j (suc k) n zero = byte_below j n
bytes_below j (suc k) n (suc i) = bytes_below (suc j) k n i

pub little_bytes_below : (k n i : ℕ) → get_or (little_bytes k n) i 0 < 256
little_bytes_below k n i = bytes_below 0 k n i

zeros_from : (i n : ℕ) (bs : List ℕ) → ((k : ℕ) → get_or bs k 0 ≡ 0) → little_from i n bs ≡ 0
zeros_from i zero bs h = refl
zeros_from i (suc n) bs h = omega (arith, h i, zeros_from (suc i) n bs h)

pub zeros_number : (n : ℕ) (bs : List ℕ) → ((k : ℕ) → get_or bs k 0 ≡ 0) → little_number n bs ≡ 0
zeros_number n bs h = zeros_from 0 n bs h
