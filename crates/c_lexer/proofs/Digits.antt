-- The number that digits spell.
use Rattle.std.proofs.Common.{◌≡◌, ℕ, zero, suc, ◌+◌, ◌*◌, ◌^◌, ◌<◌, ◌≤◌, List, [], ◌∷◌, None, drop, length, get_or}
use Rattle.std.proofs.Common.{refl, arith, drop-cons, add-one}
use Rattle.std.proofs.lemmas.Bool.{lt-leb}
use Rattle.std.specs.Prelude.{nat_le}
use Rattle.std.specs.List.{find}
use Rattle.c_lexer.specs.declared.integer.IntegerType.{IntegerType}
use Rattle.c_lexer.specs.declared.integer.IntegerType.TheVariants as type
use Rattle.c_lexer.specs.Characters.{digit_value}
use Rattle.c_lexer.specs.Constants.{number_from, greatest_of, typed}

times_one : (base v : ℕ) → 1 ≤ base → v ≤ base * v
times_one zero v h = absurd (omega arith)
times_one (suc n) v h = let e : suc n * v ≡ v + n * v = omega arith in omega arith

-- further digits make a number no less
pub number_grows : (base v : ℕ) (z : List ℕ) → 1 ≤ base → v ≤ number_from base v z
number_grows base v [] h = omega arith
number_grows base v (b ∷ z) h = omega (arith, times_one base v h, number_grows base (base * v + digit_value b) z h)

-- at one more digit
pub number_at : (base v i : ℕ) (z : List ℕ) → i < length z
    → number_from base v (drop i z) ≡ number_from base (base * v + digit_value (get_or z i 0)) (drop (i + 1) z)
number_at base v i z h = rw (add-one, drop-cons z i 0)

greatest_below : (t : IntegerType) → greatest_of t < 2 ^ 64
unfolding greatest_of
greatest_below type.Int = omega arith
greatest_below type.UnsignedInt = omega arith
greatest_below type.Long = omega arith
greatest_below type.UnsignedLong = omega arith
greatest_below type.LongLong = omega arith
greatest_below type.UnsignedLongLong = omega arith

none_holds : (v : ℕ) (types : List IntegerType) → 2 ^ 64 ≤ v → find (λ t. nat_le v (greatest_of t)) types ≡ None
none_holds v [] h = refl
none_holds v (t ∷ types) h = rw (lt-leb v (greatest_of t) (omega (arith, greatest_below t))) (none_holds v types h)

-- no type holds a number of more than 64 bits
pub none_typed : (v : ℕ) (types : List IntegerType) → 2 ^ 64 ≤ v → typed types v ≡ None
unfolding typed
none_typed v types h = rw (none_holds v types h)
