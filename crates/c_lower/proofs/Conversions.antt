-- What a conversion leaves as it is.
use Rattle.std.proofs.Common.{◌≡◌, ◌⊎◌, ℕ, suc, ◌+◌, ◌-◌, ◌*◌, ◌^◌, ◌<◌, ◌≤◌, Bool, true, false, inl}
use Rattle.std.proofs.Common.{refl, sym, ap, ◌∙◌, subst, arith, cond, ◌==◌, ◌&&◌, ◌||◌}
use Rattle.std.specs.Prelude.{nat_le, nat_lt}
use Rattle.std.proofs.lemmas.Bool.{eqb-true, false≢true}
use Rattle.std.proofs.lemmas.Bool.Decides.{nat_tests}
use Rattle.std.proofs.Math.Nat.{pow-le-pow_right, pow-succ'}
use Rattle.obj_memory.specs.declared.int_type.IntType.{IntType}
use Rattle.obj_memory.specs.declared.int_type.IntType.TheVariants.{Char, SignedChar, UnsignedChar, Short}
use Rattle.obj_memory.specs.declared.int_type.IntType.TheVariants.{UnsignedShort, Int, UnsignedInt, Long}
use Rattle.obj_memory.specs.declared.int_type.IntType.TheVariants.{UnsignedLong, LongLong, UnsignedLongLong}
use Rattle.obj_memory.specs.declared.value.Scalar.TheVariants.{Integer, Pointer}
use Rattle.obj_memory.specs.Integers.{fit, size_of, is_signed}
use Rattle.obj_memory.specs.Objects.{Objects}
use Rattle.obj_memory.proofs.Words.{fit_below}
use Rattle.c_tree.specs.declared.expression.Kind.{Kind}
use Rattle.c_tree.specs.declared.expression.Kind.TheVariants.{Void, Scalar as OfScalar, Structure, Array}
use Rattle.source_meaning.specs.State.{Rvalue}
use Rattle.source_meaning.specs.Actions.{converted}
use Rattle.source_meaning.specs.Structures.{rvalue}
use Rattle.source_meaning.specs.Good.{ValueIs}
use Rattle.c_lower.specs.Conversions.{keeps_words, keeps}

-- the words of a type: up to half of those of its bits, and as many at the end, if it has negative values
abbrev IsWordOf : (is_signed : Bool) → (half w : ℕ) → Type 0
IsWordOf true half w = (w < 2 ^ 64) × ((w < half) ⊎ (2 ^ 64 ≤ w + half))
IsWordOf false half w = w < 2 * half

abbrev half_of : IntType → ℕ
half_of t = 2 ^ (8 * size_of t - 1)

word_of : (t : IntType) (w : ℕ) → fit t w ≡ w → IsWordOf (is_signed t) (half_of t) w
unfolding fit size_of is_signed
word_of Char w e = grind arith
word_of SignedChar w e = grind arith
word_of UnsignedChar w e = grind arith
word_of Short w e = grind arith
word_of UnsignedShort w e = grind arith
word_of Int w e = grind arith
word_of UnsignedInt w e = grind arith
word_of Long w e = grind arith
word_of UnsignedLong w e = grind arith
word_of LongLong w e = grind arith
word_of UnsignedLongLong w e = grind arith

fits_of : (t : IntType) (w : ℕ) → IsWordOf (is_signed t) (half_of t) w → fit t w ≡ w
unfolding fit size_of is_signed
fits_of Char w h = grind arith
fits_of SignedChar w h = grind arith
fits_of UnsignedChar w h = grind arith
fits_of Short w h = grind arith
fits_of UnsignedShort w h = grind arith
fits_of Int w h = grind arith
fits_of UnsignedInt w h = grind arith
fits_of Long w h = grind arith
fits_of UnsignedLong w h = grind arith
fits_of LongLong w h = grind arith
fits_of UnsignedLongLong w h = grind arith

-- a word of a type is one of each that has as many words, and negative ones if that type has
grown : (b c : Bool) (half more w : ℕ) → IsWordOf b half w → half ≤ more → 2 * more ≤ 2 ^ 64
    → cond b (c ≡ true) ((c ≡ true → 2 * half ≤ more) × (c ≡ false → half ≤ more)) → IsWordOf c more w
grown true true half more w h le fits k = grind arith
grown true false half more w h le fits k = absurd (cc k)
grown false true half more w h le fits k =
    let twice = k.0 refl in
    (omega (arith, h, twice, fits), inl (omega (arith, h, twice)))
grown false false half more w h le fits k = omega (arith, h, le)

-- ---- the sizes of types

some_size : (t : IntType) → 1 ≤ size_of t
unfolding size_of
some_size Char = omega arith
some_size SignedChar = omega arith
some_size UnsignedChar = omega arith
some_size Short = omega arith
some_size UnsignedShort = omega arith
some_size Int = omega arith
some_size UnsignedInt = omega arith
some_size Long = omega arith
some_size UnsignedLong = omega arith
some_size LongLong = omega arith
some_size UnsignedLongLong = omega arith

most_size : (t : IntType) → size_of t ≤ 8
unfolding size_of
most_size Char = omega arith
most_size SignedChar = omega arith
most_size UnsignedChar = omega arith
most_size Short = omega arith
most_size UnsignedShort = omega arith
most_size Int = omega arith
most_size UnsignedInt = omega arith
most_size Long = omega arith
most_size UnsignedLong = omega arith
most_size LongLong = omega arith
most_size UnsignedLongLong = omega arith

le_is : (a b : ℕ) → nat_le a b ≡ true → a ≤ b
le_is a b h = grind (arith, nat_tests)

lt_is : (a b : ℕ) → nat_lt a b ≡ true → a < b
lt_is a b h = grind (arith, nat_tests)

half_grows : (a b : ℕ) → a ≤ b → 2 ^ (8 * a - 1) ≤ 2 ^ (8 * b - 1)
half_grows a b le = pow-le-pow_right {n = 2} (omega arith) {i = 8 * a - 1} {j = 8 * b - 1} (omega (arith, le))

twice_half : (a : ℕ) → 1 ≤ a → 2 * 2 ^ (8 * a - 1) ≡ 2 ^ (8 * a)
twice_half a some =
    let e : suc (8 * a - 1) ≡ 8 * a = omega (arith, some) in
    sym (pow-succ' 2 (8 * a - 1)) ∙ ap (λ n. 2 ^ n) e

half_fits : (t : IntType) → 2 * half_of t ≤ 2 ^ 64
half_fits t =
    let most = most_size t in
    let le : 2 ^ (8 * size_of t) ≤ 2 ^ 64 = pow-le-pow_right {n = 2} (omega arith) {i = 8 * size_of t} {j = 64} (omega (arith, most)) in
    let e = twice_half (size_of t) (some_size t) in
    omega (arith, le, e)

half_twice : (a b : ℕ) → 1 ≤ a → a < b → 2 * 2 ^ (8 * a - 1) ≤ 2 ^ (8 * b - 1)
half_twice a b some lt =
    let le : 2 ^ (8 * a) ≤ 2 ^ (8 * b - 1) = pow-le-pow_right {n = 2} (omega arith) {i = 8 * a} {j = 8 * b - 1} (omega (arith, lt)) in
    let e = twice_half a some in
    omega (arith, le, e)

-- each word is one of 64 bits
widest : (t : IntType) (w : ℕ) → size_of t ≡ 8 → w < 2 ^ 64 → fit t w ≡ w
unfolding fit size_of
widest Char w e h = cc e
widest SignedChar w e h = cc e
widest UnsignedChar w e h = cc e
widest Short w e h = cc e
widest UnsignedShort w e h = cc e
widest Int w e h = cc e
widest UnsignedInt w e h = cc e
widest Long w e h = grind arith
widest UnsignedLong w e h = grind arith
widest LongLong w e h = grind arith
widest UnsignedLongLong w e h = grind arith

kept_by_signs : (s t : IntType) (w : ℕ) (b c : Bool) → is_signed s ≡ b → is_signed t ≡ c
    → cond b (c && nat_le (size_of s) (size_of t))
    (cond c (nat_lt (size_of s) (size_of t)) (nat_le (size_of s) (size_of t))) ≡ true
    → IsWordOf b (half_of s) w → IsWordOf c (half_of t) w
kept_by_signs s t w true true sb tb h is =
    grown true true (half_of s) (half_of t) w is (half_grows (size_of s) (size_of t) (le_is _ _ h)) (half_fits t) refl
kept_by_signs s t w true false sb tb h is = absurd (cc h)
kept_by_signs s t w false true sb tb h is =
    let lt : size_of s < size_of t = lt_is _ _ h in
    grown false true (half_of s) (half_of t) w is (half_grows (size_of s) (size_of t) (omega (arith, lt))) (half_fits t)
    (λ e. half_twice (size_of s) (size_of t) (some_size s) lt, λ e. absurd (cc e))
kept_by_signs s t w false false sb tb h is =
    let le = le_is _ _ h in
    grown false false (half_of s) (half_of t) w is (half_grows (size_of s) (size_of t) le) (half_fits t)
    (λ e. absurd (cc e), λ e. half_grows (size_of s) (size_of t) le)

-- a word of a type is one of a type that keeps its words
word_kept : (s t : IntType) (w : ℕ) → keeps_words s t ≡ true → fit s w ≡ w → fit t w ≡ w
unfolding keeps_words
word_kept s t w h e = by (size_of t == 8) refl h
  where
    by : (q : Bool) → (size_of t == 8) ≡ q
        → (q || cond (is_signed s) (is_signed t && nat_le (size_of s) (size_of t))
        (cond (is_signed t) (nat_lt (size_of s) (size_of t)) (nat_le (size_of s) (size_of t)))) ≡ true → fit t w ≡ w
    by true is h =
        let below : w < 2 ^ 64 = subst (λ z. z < 2 ^ 64) e (fit_below s w) in
        widest t w (eqb-true _ _ is) below
    by false is h = fits_of t w (kept_by_signs s t w (is_signed s) (is_signed t) refl refl h (word_of s w e))

-- ---- values

-- a conversion that keeps each value of a kind gives the value
pub value_kept : (functions : ℕ) (from to : Kind) (v : Rvalue) (objects : Objects) → keeps from to ≡ true
    → ValueIs functions from v objects → v ≡ rvalue (converted to v.value)
value_kept functions (OfScalar (Integer s)) (OfScalar (Integer t)) v o h is =
    let none = is.structure in
    let tag = is.word.0 in
    let word = word_kept s t v.value.word h is.word.1 in
    λ i. record { value = record { word = sym word i; tag = tag i }; contents = none i }
value_kept functions (OfScalar Pointer) (OfScalar Pointer) v o h is =
    let none = is.structure in
    λ i. record { value = v.value; contents = none i }
value_kept functions (OfScalar (Integer s)) (OfScalar Pointer) v o h is = absurd (false≢true h)
value_kept functions (OfScalar Pointer) (OfScalar (Integer t)) v o h is = absurd (false≢true h)
value_kept functions (OfScalar (Integer s)) Void v o h is = absurd (false≢true h)
value_kept functions (OfScalar Pointer) Void v o h is = absurd (false≢true h)
value_kept functions (OfScalar (Integer s)) (Structure n) v o h is = absurd (false≢true h)
value_kept functions (OfScalar Pointer) (Structure n) v o h is = absurd (false≢true h)
value_kept functions (OfScalar (Integer s)) (Array n) v o h is = absurd (false≢true h)
value_kept functions (OfScalar Pointer) (Array n) v o h is = absurd (false≢true h)
value_kept functions Void to v o h is = absurd (false≢true h)
value_kept functions (Structure n) to v o h is = absurd (false≢true h)
value_kept functions (Array n) to v o h is = absurd (false≢true h)
