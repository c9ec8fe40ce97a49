-- White space and comments leave an end of the text, and are passed one after another.
use Rattle.std.proofs.Common.{◌≡◌, ℕ, zero, suc, ◌≤◌, Bool, true, false, not, cond, ◌&&◌, ◌||◌, ◌==◌, List, [], ◌∷◌}
use Rattle.std.proofs.Common.{drop, length, Option, Some, None, refl, subst, arith}
use Rattle.std.proofs.lemmas.Bool.{cond_both}
use Rattle.c_lexer.specs.Characters.{begins}
use Rattle.c_lexer.specs.Separators.{Separator, passed, passed_if_some, joins, line_comment_rest, block_comment_rest}
use Rattle.c_lexer.specs.Separators.{is_white_space, comment, joined_line, separator, gap_by, gap_to, gap}
use Rattle.c_lexer.proofs.Ends.{Ends, ends_within, ends_drop, ends_shorter}
use Rattle.c_lexer.proofs.Ends.Ends.{here, there}

abbrev EndsIfSome : Option (List ℕ) → List ℕ → Type 0
EndsIfSome None z = Unit {0}
EndsIfSome (Some r) z = Ends r z

abbrev Leaves : Option Separator → List ℕ → Type 0
Leaves None z = Unit {0}
Leaves (Some s) z = Ends s.rest z

line_ends : (a b : ℕ) (z : List ℕ) → Ends (line_comment_rest a b z) z
line_ends a b [] = here
line_ends a b (c ∷ z) =
    cond_both (c == 10 && not (joins a b)) (c ∷ z) (line_comment_rest b c z) (λ r. Ends r (c ∷ z)) (λ e. here)
    (λ e. there c z (line_ends b c z))

more_some : (b : ℕ) (z : List ℕ) (o : Option (List ℕ)) → EndsIfSome o z → EndsIfSome o (b ∷ z)
more_some b z None e = tt
more_some b z (Some r) e = there b z e

block_ends : (z : List ℕ) → EndsIfSome (block_comment_rest z) z
block_ends [] = tt
block_ends (b ∷ z) =
    cond_both (b == 42 && begins 47 z) (Some (drop 1 z)) (block_comment_rest z) (λ o. EndsIfSome o (b ∷ z))
    (λ e. there b z (ends_drop 1 z)) (λ e. more_some b z (block_comment_rest z) (block_ends z))

passed_ends : (o : Option (List ℕ)) (s z : List ℕ) → EndsIfSome o s → Ends s z → Leaves (passed_if_some o) z
passed_ends None s z e f = tt
passed_ends (Some r) s z e f = ends_within r s z e f

comment_ends : (z : List ℕ) → Leaves (comment z) z
unfolding comment
comment_ends z =
    cond_both (begins 47 z) (passed (line_comment_rest 47 47 (drop 1 z)))
    (cond (begins 42 z) (passed_if_some (block_comment_rest (drop 1 z))) None) (λ o. Leaves o z)
    (λ e. ends_within (line_comment_rest 47 47 (drop 1 z)) (drop 1 z) z (line_ends 47 47 (drop 1 z)) (ends_drop 1 z))
    (λ e. cond_both (begins 42 z) (passed_if_some (block_comment_rest (drop 1 z))) None (λ o. Leaves o z)
    (λ e. passed_ends (block_comment_rest (drop 1 z)) (drop 1 z) z (block_ends (drop 1 z)) (ends_drop 1 z)) (λ e. tt))

joined_ends : (z : List ℕ) → Leaves (joined_line z) z
unfolding joined_line
joined_ends z =
    cond_both (begins 10 z) (passed (drop 1 z)) (cond (begins 13 z && begins 10 (drop 1 z)) (passed (drop 2 z)) None)
    (λ o. Leaves o z)
    (λ e. ends_drop 1 z)
    (λ e. cond_both (begins 13 z && begins 10 (drop 1 z)) (passed (drop 2 z)) None (λ o. Leaves o z)
    (λ e. ends_drop 2 z) (λ e. tt))

separator_ends : (b : ℕ) (z : List ℕ) → Leaves (separator (b ∷ z)) z
unfolding separator
separator_ends b z =
    cond_both (is_white_space b) (Some (record { rest = z; is_newline = b == 10 }))
    (cond (b == 47) (comment z) (cond (b == 92) (joined_line z) None)) (λ o. Leaves o z)
    (λ e. here)
    (λ e. cond_both (b == 47) (comment z) (cond (b == 92) (joined_line z) None) (λ o. Leaves o z) (λ e. comment_ends z)
    (λ e. cond_both (b == 92) (joined_line z) None (λ o. Leaves o z) (λ e. joined_ends z) (λ e. tt)))

gap_to_ends : (n : ℕ) (found : Bool) (z : List ℕ) → Ends (gap_to n found z).rest z
gap_to_ends zero found z = here
gap_to_ends (suc n) found [] = unfold separator in here
gap_to_ends (suc n) found (b ∷ z) = by (separator (b ∷ z)) (separator_ends b z) (gap_to_ends n)
  where
    by : (o : Option Separator) → Leaves o z → ((found : Bool) (z : List ℕ) → Ends (gap_to n found z).rest z)
        → Ends (gap_by found (b ∷ z) o (gap_to n)).rest (b ∷ z)
    by None e more = here
    by (Some s) e more = ends_within (gap_to n (found || s.is_newline) s.rest).rest s.rest (b ∷ z)
        (more (found || s.is_newline) s.rest) (there b z e)

pub gap_ends : (found : Bool) (z : List ℕ) → Ends (gap found z).rest z
unfolding gap
gap_ends found z = gap_to_ends (length z) found z

-- a number that is large enough changes nothing
gap_same : (n m : ℕ) (found : Bool) (z : List ℕ) → length z ≤ n → length z ≤ m → gap_to n found z ≡ gap_to m found z
gap_same zero zero found z h k = refl
gap_same zero (suc m) found [] h k = unfold separator in refl
gap_same (suc n) zero found [] h k = unfold separator in refl
gap_same zero (suc m) found (b ∷ z) h k = absurd (omega arith)
gap_same (suc n) zero found (b ∷ z) h k = absurd (omega arith)
gap_same (suc n) (suc m) found [] h k = unfold separator in refl
gap_same (suc n) (suc m) found (b ∷ z) h k = by (separator (b ∷ z)) (separator_ends b z) (gap_same n m)
  where
    by : (o : Option Separator) → Leaves o z → ((found : Bool) (z : List ℕ) → length z ≤ n → length z ≤ m
        → gap_to n found z ≡ gap_to m found z)
        → gap_by found (b ∷ z) o (gap_to n) ≡ gap_by found (b ∷ z) o (gap_to m)
    by None e same = refl
    by (Some s) e same = let l = ends_shorter s.rest z e in same (found || s.is_newline) s.rest (omega arith)
        (omega arith)

-- behind one more separator
pub gap_turn : (found : Bool) (z : List ℕ) (s : Separator) → separator z ≡ Some s
    → gap_to (length z) found z ≡ gap_to (length s.rest) (found || s.is_newline) s.rest
gap_turn found [] s h = unfold separator in absurd cc
gap_turn found (b ∷ z) s h =
    let l = ends_shorter s.rest z (subst (λ o. Leaves o z) h (separator_ends b z)) in
    rw h (gap_same (length z) (length s.rest) (found || s.is_newline) s.rest (omega arith) (omega arith))

-- where a newline was found before, or not
pub gap_turn_found : (found : Bool) (z : List ℕ) (s : Separator) → found ≡ true → separator z ≡ Some s
    → gap_to (length z) found z ≡ gap_to (length s.rest) found s.rest
gap_turn_found true z s f h = gap_turn true z s h
gap_turn_found false z s f h = absurd cc

pub gap_turn_open : (found : Bool) (z : List ℕ) (s : Separator) → found ≡ false → separator z ≡ Some s
    → gap_to (length z) found z ≡ gap_to (length s.rest) s.is_newline s.rest
gap_turn_open false z s f h = gap_turn false z s h
gap_turn_open true z s f h = absurd cc
