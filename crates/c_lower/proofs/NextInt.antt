-- The int after one that is below another.
use Rattle.std.proofs.Common.{◌≡◌, ℕ, ◌+◌, ◌%◌, ◌^◌, ◌<◌, ◌≤◌, true, false, arith, ◌⊎◌, inl, inr}
use Rattle.std.proofs.lemmas.Bool.{ltb-true, ltb-false, le-ltb}
use Rattle.obj_memory.specs.declared.int_type.IntType.TheVariants.{Int}
use Rattle.obj_memory.specs.Integers.{fit}
use Rattle.obj_memory.specs.Operators.{is_less}

-- the word of an int is a number of 31 bits, or that of a negative number
int_word : (w : ℕ) → fit Int w ≡ w → (w < 2147483648) ⊎ ((2 ^ 64 ≤ w + 2147483648) × (w < 2 ^ 64))
unfolding fit
int_word w e = grind arith

fits_number : (w : ℕ) → w < 2147483648 → fit Int w ≡ w
unfolding fit
fits_number w h = grind arith

fits_negative : (w : ℕ) → 2 ^ 64 ≤ w + 2147483648 → w < 2 ^ 64 → fit Int w ≡ w
unfolding fit
fits_negative w h l = grind arith

-- a word that stands for no less than another stands for
no_less : (n w a : ℕ) → (w + 2 ^ 63) % 2 ^ 64 ≤ (n + 2 ^ 63) % 2 ^ 64 → is_less true w a ≡ false
    → is_less true n a ≡ false
no_less n w a le e =
    let from = ltb-false ((w + 2 ^ 63) % 2 ^ 64) ((a + 2 ^ 63) % 2 ^ 64) e in
    le-ltb ((n + 2 ^ 63) % 2 ^ 64) ((a + 2 ^ 63) % 2 ^ 64) (omega (arith, from, le))

-- one more than a negative number
negative_next : (w : ℕ) → 2 ^ 64 ≤ w + 2147483648 → w < 2 ^ 64
    → (w + 2 ^ 63) % 2 ^ 64 ≤ (fit Int ((w + 1) % 2 ^ 64) + 2 ^ 63) % 2 ^ 64
unfolding fit
negative_next w h l = grind arith

next_by : (w b : ℕ) → (w < 2147483648) ⊎ ((2 ^ 64 ≤ w + 2147483648) × (w < 2 ^ 64))
    → (b < 2147483648) ⊎ ((2 ^ 64 ≤ b + 2147483648) × (b < 2 ^ 64)) → (w + 2 ^ 63) % 2 ^ 64 < (b + 2 ^ 63) % 2 ^ 64
    → (w + 2 ^ 63) % 2 ^ 64 ≤ (fit Int ((w + 1) % 2 ^ 64) + 2 ^ 63) % 2 ^ 64
next_by w b (inl h) (inl l) lt =
    let same = fits_number ((w + 1) % 2 ^ 64) (omega (arith, h, l, lt)) in omega (arith, h, l, lt, same)
next_by w b (inl h) (inr l) lt = absurd (omega (arith, h, l.0, l.1, lt))
next_by w b (inr h) l lt = negative_next w h.0 h.1

-- one more than an int that is below another stands for no less
pub next_no_less : (w a b : ℕ) → fit Int w ≡ w → fit Int b ≡ b → is_less true w b ≡ true → is_less true w a ≡ false
    → is_less true (fit Int ((w + 1) % 2 ^ 64)) a ≡ false
next_no_less w a b e f below from =
    let lt = ltb-true ((w + 2 ^ 63) % 2 ^ 64) ((b + 2 ^ 63) % 2 ^ 64) below in
    no_less (fit Int ((w + 1) % 2 ^ 64)) w a (next_by w b (int_word w e) (int_word b f) lt) from
