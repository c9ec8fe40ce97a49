-- Texts that lack a byte, and where a text is cut.
use Rattle.std.proofs.Common.{rules, ◌≡◌, ℕ, ◌<◌, ◌≤◌, Bool, true, false, not, ◌&&◌, ◌==◌, List, [], ◌∷◌}
use Rattle.std.proofs.Common.{◌++◌, refl, ap, ◌∙◌}
use Rattle.std.proofs.Common.{arith, Some, None}
use Rattle.std.specs.Prelude.{if◌then◌else◌, option_map, nat_le}
use Rattle.rv_listing.specs.Fields.{cut, is_digit, are_digits}
use Rattle.rv_listing.proofs.Digits.{and_true, and_left, and_right}
use Rattle.rv_listing.proofs.Names.{are_letters}

abbrev pub lacks : ℕ → List ℕ → Bool
lacks b [] = true
lacks b (c ∷ cs) = not (c == b) && lacks b cs

unlike : (b : Bool) → not b ≡ true → b ≡ false
unlike true e = absurd cc
unlike false e = refl

pub cut_none : (b : ℕ) (cs : List ℕ) → lacks b cs ≡ true → cut b cs ≡ None
unfolding cut
cut_none b [] e = refl
cut_none b (c ∷ cs) e =
    ap (λ x. if x then Some ([], cs) else option_map (λ p. (c ∷ p.0, p.1)) (cut b cs))
    (unlike (c == b) (and_left (not (c == b)) (lacks b cs) e))
    ∙ ap (option_map (λ p. (c ∷ p.0, p.1))) (cut_none b cs (and_right (not (c == b)) (lacks b cs) e))

pub cut_found : (b : ℕ) (cs ds : List ℕ) → (b == b) ≡ true → lacks b cs ≡ true
    → cut b (cs ++ (b ∷ ds)) ≡ Some (cs, ds)
unfolding cut
cut_found b [] ds r e = ap (λ x. if x then Some ([], ds) else option_map (λ p. (b ∷ p.0, p.1)) (cut b ds)) r
cut_found b (c ∷ cs) ds r e =
    ap (λ x. if x then Some ([], cs ++ (b ∷ ds)) else option_map (λ p. (c ∷ p.0, p.1)) (cut b (cs ++ (b ∷ ds))))
    (unlike (c == b) (and_left (not (c == b)) (lacks b cs) e))
    ∙ ap (option_map (λ p. (c ∷ p.0, p.1))) (cut_found b cs ds r (and_right (not (c == b)) (lacks b cs) e))

pub lacks_both : (b : ℕ) (cs ds : List ℕ) → lacks b cs ≡ true → lacks b ds ≡ true → lacks b (cs ++ ds) ≡ true
lacks_both b [] ds e f = f
lacks_both b (c ∷ cs) ds e f =
    and_true (not (c == b)) (lacks b (cs ++ ds)) (and_left (not (c == b)) (lacks b cs) e)
    (lacks_both b cs ds (and_right (not (c == b)) (lacks b cs) e) f)

pub is_other : (c b : ℕ) → b < c → not (c == b) ≡ true
is_other c b lt = search (rules, lt)

digit_above : (c : ℕ) → is_digit c ≡ true → 48 ≤ c
digit_above c e = search (rules, e)

letter_above : (c : ℕ) → nat_le 97 c ≡ true → 97 ≤ c
letter_above c e = search (rules, e)

pub digits_lack : (b : ℕ) (cs : List ℕ) → b < 48 → are_digits cs ≡ true → lacks b cs ≡ true
unfolding are_digits
digits_lack b [] lt e = refl
digits_lack b (c ∷ cs) lt e =
    and_true (not (c == b)) (lacks b cs)
    (is_other c b (omega (arith, lt, digit_above c (and_left (is_digit c) (are_digits cs) e))))
    (digits_lack b cs lt (and_right (is_digit c) (are_digits cs) e))

pub letters_lack : (b : ℕ) (cs : List ℕ) → b < 97 → are_letters cs ≡ true → lacks b cs ≡ true
letters_lack b [] lt e = refl
letters_lack b (c ∷ cs) lt e =
    and_true (not (c == b)) (lacks b cs)
    (is_other c b (omega (arith, lt, letter_above c (and_left (nat_le 97 c) (are_letters cs) e))))
    (letters_lack b cs lt (and_right (nat_le 97 c) (are_letters cs) e))
