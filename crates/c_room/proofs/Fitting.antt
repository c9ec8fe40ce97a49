-- Sums, products and the greatest of numbers that are there where they are below 2^64.
use Rattle.std.proofs.Common.{◌≡◌, ℕ, ◌+◌, ◌*◌, ◌/◌, ◌^◌, ◌<◌, ◌≤◌, Bool, true, false, nat_lt, if◌then◌else◌}
use Rattle.std.proofs.Common.{refl, sym, ap, ◌∙◌, Option, Some, None, List, [], ◌∷◌, subst, arith}
use Rattle.std.specs.Prelude.{max, map, SomeIff}
use Rattle.std.proofs.lemmas.Bool.{ltb-true, ltb-false, lt-ltb, le-ltb}
use Rattle.obj_memory.specs.Heap.{rounded_up}
use Rattle.c_tree.specs.declared.expression.Kind.{Kind}
use Rattle.c_tree.specs.Room.{structure_bytes}
use Rattle.c_tree.specs.Walk.{sum_of}
use Rattle.c_room.specs.Numbers.{fitting, plus, times, greater, with_structures}

there : (n : ℕ) → nat_lt n (2 ^ 64) ≡ true → fitting n ≡ Some n
unfolding fitting
there n p = ap (λ b. if b then Some n else None) p

gone : (n : ℕ) → nat_lt n (2 ^ 64) ≡ false → fitting n ≡ None
unfolding fitting
gone n p = ap (λ b. if b then Some n else None) p

pub below : (n : ℕ) → n < 2 ^ 64 → fitting n ≡ Some n
below n low = there n (lt-ltb n (2 ^ 64) low)

pub known_fits : (n : ℕ) → n < 2 ^ 64 → Some n ≡ fitting n
known_fits n low = sym (below n low)

pub above : (n : ℕ) → 2 ^ 64 ≤ n → fitting n ≡ None
above n high = gone n (le-ltb n (2 ^ 64) high)

-- what a checked operation gives
pub checked : (r : Option ℕ) (n : ℕ) → SomeIff r (n < 2 ^ 64) n → r ≡ fitting n
checked None n high = sym (above n (omega (arith, high)))
checked (Some k) n both = ap Some both.1 ∙ sym (below n both.0)

plus_by : (m n : ℕ) (a b : Bool) → nat_lt m (2 ^ 64) ≡ a → nat_lt n (2 ^ 64) ≡ b
    → plus (fitting m) (fitting n) ≡ fitting (m + n)
unfolding plus
plus_by m n true true p q = ap (λ z. plus z (fitting n)) (there m p) ∙ ap (plus (Some m)) (there n q)
plus_by m n true false p q =
    ap (λ z. plus z (fitting n)) (there m p) ∙ ap (plus (Some m)) (gone n q)
    ∙ sym (above (m + n) (omega (arith, ltb-false n (2 ^ 64) q)))
plus_by m n false b p q =
    ap (λ z. plus z (fitting n)) (gone m p) ∙ sym (above (m + n) (omega (arith, ltb-false m (2 ^ 64) p)))

pub plus_fits : (m n : ℕ) → plus (fitting m) (fitting n) ≡ fitting (m + n)
plus_fits m n = plus_by m n (nat_lt m (2 ^ 64)) (nat_lt n (2 ^ 64)) refl refl

greater_by : (m n : ℕ) (a b : Bool) → nat_lt m (2 ^ 64) ≡ a → nat_lt n (2 ^ 64) ≡ b
    → greater (fitting m) (fitting n) ≡ fitting (max m n)
unfolding greater
greater_by m n true true p q =
    ap (λ z. greater z (fitting n)) (there m p) ∙ ap (greater (Some m)) (there n q)
    ∙ sym (below (max m n) (omega (arith, ltb-true m (2 ^ 64) p, ltb-true n (2 ^ 64) q)))
greater_by m n true false p q =
    ap (λ z. greater z (fitting n)) (there m p) ∙ ap (greater (Some m)) (gone n q)
    ∙ sym (above (max m n) (omega (arith, ltb-false n (2 ^ 64) q)))
greater_by m n false b p q =
    ap (λ z. greater z (fitting n)) (gone m p) ∙ sym (above (max m n) (omega (arith, ltb-false m (2 ^ 64) p)))

pub greater_fits : (m n : ℕ) → greater (fitting m) (fitting n) ≡ fitting (max m n)
greater_fits m n = greater_by m n (nat_lt m (2 ^ 64)) (nat_lt n (2 ^ 64)) refl refl

times_by : (k n : ℕ) → n ≤ k * n → (a : Bool) → nat_lt n (2 ^ 64) ≡ a → times k (fitting n) ≡ fitting (k * n)
unfolding times
times_by k n most true p = ap (times k) (there n p)
times_by k n most false p =
    ap (times k) (gone n p) ∙ sym (above (k * n) (omega (arith, most, ltb-false n (2 ^ 64) p)))

pub times_fits : (k n : ℕ) → n ≤ k * n → times k (fitting n) ≡ fitting (k * n)
times_fits k n most = times_by k n most (nat_lt n (2 ^ 64)) refl

-- the bytes of structures of some kinds beside others
pub structures_fit : (b : ℕ) (ks : List Kind)
    → with_structures (fitting b) ks ≡ fitting (b + sum_of (map structure_bytes ks))
structures_fit b [] = let e : b ≡ b + 0 = omega arith in ap fitting e
structures_fit b (k ∷ ks) =
    let e : (b + structure_bytes k) + sum_of (map structure_bytes ks)
    ≡ b + (structure_bytes k + sum_of (map structure_bytes ks)) = omega arith in
    ap (λ z. with_structures z ks) (plus_fits b (structure_bytes k)) ∙ structures_fit (b + structure_bytes k) ks
    ∙ ap fitting e

-- the next multiple of 16
pub not_rounded : (r : Option ℕ) (n : ℕ) → SomeIff r (n + 15 < 2 ^ 64) (n + 15) → r ≡ None
    → None ≡ fitting (rounded_up 16 n)
not_rounded r n h is =
    let high = subst (λ z. SomeIff z (n + 15 < 2 ^ 64) (n + 15)) is h in
    sym (above (rounded_up 16 n) (omega (arith, high)))

pub rounded_to : (r : Option ℕ) (n e : ℕ) → SomeIff r (n + 15 < 2 ^ 64) (n + 15) → r ≡ Some e
    → Some (e / 16 * 16) ≡ fitting (rounded_up 16 n)
rounded_to r n e h is =
    let both = subst (λ z. SomeIff z (n + 15 < 2 ^ 64) (n + 15)) is h in
    ap (λ z. Some (z / 16 * 16)) both.1 ∙ sym (below (rounded_up 16 n) (omega (arith, both.0)))
