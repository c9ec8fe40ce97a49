-- The token that is found from left to right is the longest one.
use Rattle.std.proofs.Common.{◌≡◌, ℕ, zero, suc, ◌+◌, ◌<◌, ◌≤◌, Bool, true, false, not, cond, ◌&&◌, ◌||◌, ◌==◌, leb}
use Rattle.std.proofs.Common.{⊎_elim, List, [], ◌∷◌, take, length, Option, Some, None, refl, sym, ap, subst, ◌∙◌, arith}
use Rattle.std.specs.Prelude.{IfSome}
use Rattle.std.specs.List.{prefix_len, list_all}
use Rattle.std.proofs.lemmas.Bool.{false≢true, false_from_ne_true, leb-true, lt-leb, eqb-true, ne_eqb, and_parts}
use Rattle.std.proofs.lemmas.Bool.{and_left, and_right, or_cases}
use Rattle.c_lexer.specs.declared.punctuator.Punctuator.{Punctuator}
use Rattle.c_lexer.specs.declared.punctuator.TheConstants.{PUNCTUATORS}
use Rattle.c_lexer.specs.declared.token.TokenKind.{TokenKind}
use Rattle.c_lexer.specs.declared.token.TokenKind.TheVariants as kinds
use Rattle.c_lexer.specs.Characters.{is_between, is_digit, is_nondigit, continues_identifier}
use Rattle.c_lexer.specs.Literals.{character_value, bytes_of_literal, characters_of}
use Rattle.c_lexer.specs.Longest.{longest, longest_to, or_shorter, is_valid, valid, begins_comment, front_token}
use Rattle.c_lexer.specs.Scan.{scan, scan_name, scan_identifier, scan_number, scan_punctuator, wide_or_identifier}
use Rattle.c_lexer.specs.Scan.{number_length, literal_length, cut, punctuator_found}
use Rattle.c_lexer.specs.Spellings.{keyword_of, punctuator_of, punctuator_spelling}
use Rattle.c_lexer.specs.Words.{word_of, named, punctuated, is_character, is_string, is_literal, begins_digit}
use Rattle.c_lexer.specs.Words.{begins_number, continues_number, all_continue_number}
use Rattle.c_lexer.proofs.LongestWord.{split, longest_none, longest_at}
use Rattle.c_lexer.proofs.Runs.{run_within, run_beyond, run_fits, number_within, number_beyond, number_fits}
use Rattle.c_lexer.proofs.Closing.{IsLiteral, literal_only, literal_at, no_literal}
use Rattle.c_lexer.proofs.TableFound.{is_apart, no_punctuator, found_in, spelled_in, found_front, found_at, found_some}
use Rattle.c_lexer.proofs.TableFound.{none_found, none_beyond, table_falls}

-- ---- bytes

nondigit_high : (b : ℕ) → is_nondigit b ≡ true → 65 ≤ b
nondigit_high b h =
    ⊎_elim
    (λ (e : is_between 97 122 b ≡ true). let g : 97 ≤ b = leb-true 97 b (and_parts (leb 97 b) (leb b 122) e).0 in
    omega arith)
    (λ (e : (is_between 65 90 b || b == 95) ≡ true).
    ⊎_elim
    (λ (f : is_between 65 90 b ≡ true). leb-true 65 b (and_parts (leb 65 b) (leb b 90) f).0)
    (λ (f : (b == 95) ≡ true). let g : b ≡ 95 = eqb-true b 95 f in omega arith)
    (or_cases (is_between 65 90 b) (b == 95) e))
    (or_cases (is_between 97 122 b) (is_between 65 90 b || b == 95) h)

nondigit_no_digit : (b : ℕ) → is_nondigit b ≡ true → is_digit b ≡ false
nondigit_no_digit b h = and_right (leb 48 b) _ (lt-leb b 57 (let l = nondigit_high b h in omega arith))

nondigit_other : (b n : ℕ) → is_nondigit b ≡ true → n < 65 → (b == n) ≡ false
nondigit_other b n h l = ne_eqb b n (λ e. let g = nondigit_high b h in omega arith)

digit_between : (b : ℕ) → is_digit b ≡ true → (48 ≤ b) × (b ≤ 57)
digit_between b h = let p = and_parts (leb 48 b) (leb b 57) h in (leb-true 48 b p.0, leb-true b 57 p.1)

nondigit_apart : (b : ℕ) → is_nondigit b ≡ true → is_apart b ≡ false
nondigit_apart b h = rw h

digit_apart : (b : ℕ) → is_digit b ≡ true → is_apart b ≡ false
digit_apart b h = by (is_nondigit b) (is_digit b) (b == 34 || b == 39) h
  where
    by : (x y w : Bool) → y ≡ true → not ((x || y) || w) ≡ false
    by true y w e = refl
    by false true w e = refl
    by false false w e = absurd (false≢true e)

digit_continues : (b c : ℕ) → is_digit c ≡ true → continues_number b c ≡ true
digit_continues b c h = by (is_nondigit c) (is_digit c) _ h
  where
    by : (x y w : Bool) → y ≡ true → ((x || y) || w) ≡ true
    by true y w e = refl
    by false true w e = refl
    by false false w e = absurd (false≢true e)

not_nondigit : (b n : ℕ) → is_nondigit b ≡ false → is_nondigit n ≡ true → (b == n) ≡ false
not_nondigit b n h g = ne_eqb b n (λ e. false≢true (sym h ∙ ap is_nondigit e ∙ g))

begins_between : (b : ℕ) (y : List ℕ) → begins_number b y ≡ true → (46 ≤ b) × (b ≤ 57)
begins_between b y h =
    ⊎_elim
    (λ (e : is_digit b ≡ true). let p = digit_between b e in (omega (arith, p.0), p.1))
    (λ (e : (b == 46 && begins_digit y) ≡ true). let g : b ≡ 46 =
    eqb-true b 46 (and_parts (b == 46) (begins_digit y) e).0 in (omega arith, omega arith))
    (or_cases (is_digit b) (b == 46 && begins_digit y) h)

-- ---- what a word is, by its first byte

no_character : (b : ℕ) (y : List ℕ) → (b == 39) ≡ false → is_character (b ∷ y) ≡ false
unfolding character_value characters_of
no_character b y h = rw h

no_string : (b : ℕ) (y : List ℕ) → (b == 34) ≡ false → is_string (b ∷ y) ≡ false
unfolding bytes_of_literal characters_of
no_string b y h = rw h

word_of_nondigit : (b : ℕ) (y : List ℕ) → is_nondigit b ≡ true
    → word_of (b ∷ y) ≡ cond (list_all continues_identifier y) (Some (named (b ∷ y) (keyword_of (b ∷ y))))
    (cond (b == 76 && is_literal y) (Some (kinds.Wide (b ∷ y))) None)
unfolding word_of
word_of_nondigit b y h =
    rw (
      h,
      nondigit_no_digit b h,
      nondigit_other b 46 h (omega arith),
      no_character b y (nondigit_other b 39 h (omega arith)),
      no_string b y (nondigit_other b 34 h (omega arith)),
      no_punctuator (b ∷ y) (and_left (is_apart b) (list_all is_apart y) (nondigit_apart b h)),
    )

number_apart : (b : ℕ) (y : List ℕ) → begins_number b y ≡ true → list_all is_apart (b ∷ y) ≡ false
number_apart b y h =
    ⊎_elim
    (λ (e : is_digit b ≡ true). and_left (is_apart b) (list_all is_apart y) (digit_apart b e))
    (λ (e : (b == 46 && begins_digit y) ≡ true). and_right (is_apart b) (list_all is_apart y)
    (second y (and_parts (b == 46) (begins_digit y) e).1))
    (or_cases (is_digit b) (b == 46 && begins_digit y) h)
  where
    second : (y : List ℕ) → begins_digit y ≡ true → list_all is_apart y ≡ false
    second [] e = absurd (false≢true e)
    second (c ∷ y) e = and_left (is_apart c) (list_all is_apart y) (digit_apart c e)

word_of_number : (b : ℕ) (y : List ℕ) → is_nondigit b ≡ false → begins_number b y ≡ true
    → word_of (b ∷ y) ≡ cond (all_continue_number b y) (Some (kinds.Integer (b ∷ y))) None
unfolding word_of
word_of_number b y h n =
    let p = begins_between b y n in
    rw (
      h,
      n,
      no_character b y (ne_eqb b 39 (λ e. omega arith)),
      no_string b y (ne_eqb b 34 (λ e. omega arith)),
      not_nondigit b 76 h refl,
      no_punctuator (b ∷ y) (number_apart b y n),
    )

word_of_double_quote : (y : List ℕ) → word_of (34 ∷ y) ≡ cond (is_literal (34 ∷ y))
    (Some (kinds.StringLiteral (34 ∷ y))) None
unfolding word_of
word_of_double_quote y = rw (no_character 34 y refl, no_punctuator (34 ∷ y) refl)

word_of_quote : (y : List ℕ) → word_of (39 ∷ y) ≡ cond (is_literal (39 ∷ y)) (Some (kinds.Character (39 ∷ y))) None
unfolding word_of
word_of_quote y = rw (no_string 39 y refl, no_punctuator (39 ∷ y) refl) (by (is_character (39 ∷ y)))
  where
    by : (v : Bool) → cond v (Some (kinds.Character (39 ∷ y))) None
        ≡ cond (v || false) (Some (kinds.Character (39 ∷ y))) None
    by true = refl
    by false = refl

word_of_other : (b : ℕ) (y : List ℕ) → is_nondigit b ≡ false → begins_number b y ≡ false → (b == 34) ≡ false
    → (b == 39) ≡ false
    → word_of (b ∷ y) ≡ punctuated (punctuator_of (b ∷ y))
unfolding word_of
word_of_other b y h n d s = rw (h, n, no_character b y s, no_string b y d, not_nondigit b 76 h refl)

-- ---- names and wide literals

identifier_longest : (b : ℕ) (z : List ℕ) → is_nondigit b ≡ true
    → ((m : ℕ) → m ≤ length z → (b == 76 && is_literal (take m z)) ≡ false)
    → longest (b ∷ z) ≡ Some (scan_identifier (b ∷ z))
unfolding longest scan_identifier
identifier_longest b z h narrow =
    let n = prefix_len continues_identifier z in
    let w = named (b ∷ take n z) (keyword_of (b ∷ take n z)) in
    let e : cond (continues_identifier b) (1 + n) 0 ≡ suc n = rw h (omega arith) in
    let at : word_of (b ∷ take n z) ≡ Some w = word_of_nondigit b (take n z) h
    ∙ rw (run_within continues_identifier z n (omega arith)) in
    rw e (longest_at (suc (length z)) (suc n) (b ∷ z) w (omega arith) (omega (arith, run_fits continues_identifier z))
    at beyond)
  where
    beyond : (m : ℕ) → suc (prefix_len continues_identifier z) < m → m ≤ suc (length z)
        → word_of (take m (b ∷ z)) ≡ None
    beyond zero a r = absurd (omega arith)
    beyond (suc m) a r = word_of_nondigit b (take m z) h
        ∙ rw (run_beyond continues_identifier z m (omega arith) (omega arith), narrow m (omega arith))

-- a literal begins with a quote, with which no identifier goes on
quote_front : (n : ℕ) (z : List ℕ) → IsLiteral n z → prefix_len continues_identifier z ≡ 0
quote_front zero z l = let g = l.some in absurd (omega arith)
quote_front (suc n) [] l = let g = l.room in absurd (omega arith)
quote_front (suc n) (c ∷ z) l =
    split (c == 34)
    (λ d. let q : c ≡ 34 = eqb-true c 34 d in ap (λ c. prefix_len continues_identifier (c ∷ z)) q)
    (λ d. split (c == 39)
    (λ s. let q : c ≡ 39 = eqb-true c 39 s in ap (λ c. prefix_len continues_identifier (c ∷ z)) q)
    (λ s. absurd (false≢true (sym (no_literal c (take n z) d s) ∙ l.is))))

not_literal : (z : List ℕ) (m : ℕ) → m ≤ length z → (literal_length z ≡ Some m → ⊥) → is_literal (take m z) ≡ false
not_literal z m r none = false_from_ne_true (is_literal (take m z)) (λ e. none (literal_only z m r e))

wide_longest : (z : List ℕ) (n : ℕ) → literal_length z ≡ Some n
    → longest (76 ∷ z) ≡ Some (kinds.Wide (76 ∷ take n z), suc n)
unfolding longest
wide_longest z n h =
    let at : word_of (76 ∷ take n z) ≡ Some (kinds.Wide (76 ∷ take n z)) =
    word_of_nondigit 76 (take n z) refl ∙ rw (
      other n (literal_at z n h).some (literal_at z n h).room,
      (literal_at z n h).is,
    ) in
    longest_at (suc (length z)) (suc n) (76 ∷ z) (kinds.Wide (76 ∷ take n z)) (omega arith)
    (omega (arith, (literal_at z n h).room)) at beyond
  where
    other : (m : ℕ) → 1 ≤ m → m ≤ length z → list_all continues_identifier (take m z) ≡ false
    other m a r = run_beyond continues_identifier z m (let e = quote_front n z (literal_at z n h) in omega arith) r

    beyond : (m : ℕ) → suc n < m → m ≤ suc (length z) → word_of (take m (76 ∷ z)) ≡ None
    beyond zero a r = absurd (omega arith)
    beyond (suc m) a r =
        word_of_nondigit 76 (take m z) refl ∙ rw (
          other m (omega arith) (omega arith),
          not_literal z m (omega arith) (λ e. let g : n ≡ m = cc in omega arith),
        )

wide_or_identifier_longest : (z : List ℕ) (o : Option ℕ) → literal_length z ≡ o
    → longest (76 ∷ z) ≡ Some (wide_or_identifier (76 ∷ z) o)
wide_or_identifier_longest z None e = identifier_longest 76 z refl (λ m r. not_literal z m r (λ f. cc))
wide_or_identifier_longest z (Some n) e = wide_longest z n e

name_longest : (b : ℕ) (z : List ℕ) → is_nondigit b ≡ true → longest (b ∷ z) ≡ Some (scan_name (b ∷ z))
unfolding scan_name
name_longest b z h =
    split (b == 76)
    (λ e. let q : b ≡ 76 = eqb-true b 76 e in
    rw e (subst (λ b. longest (b ∷ z) ≡ Some (wide_or_identifier (b ∷ z) (literal_length z))) (sym q)
    (wide_or_identifier_longest z (literal_length z) refl)))
    (λ e. rw e (identifier_longest b z h (λ m r. and_left (b == 76) (is_literal (take m z)) e)))

-- ---- numbers

-- enough of the text shows how a number begins
begins_taken : (b : ℕ) (z : List ℕ) (m : ℕ) → begins_number b z ≡ true → number_length b z ≤ m
    → begins_number b (take m z) ≡ true
begins_taken b [] zero h r = h
begins_taken b [] (suc m) h r = h
begins_taken b (c ∷ z) (suc m) h r = h
begins_taken b (c ∷ z) zero h r =
    ⊎_elim
    (λ (e : is_digit b ≡ true). rw e)
    (λ (e : (b == 46 && is_digit c) ≡ true).
    let w = digit_continues b c (and_parts (b == 46) (is_digit c) e).1 in
    let g : suc (number_length c z) ≤ 0 = rw w at r in absurd (omega arith))
    (or_cases (is_digit b) (b == 46 && is_digit c) h)

number_longest : (b : ℕ) (z : List ℕ) → is_nondigit b ≡ false → begins_number b z ≡ true
    → longest (b ∷ z) ≡ Some (scan_number b z)
unfolding longest scan_number
number_longest b z h n =
    let k = number_length b z in
    let at : word_of (b ∷ take k z) ≡ Some (kinds.Integer (b ∷ take k z)) =
    word_of_number b (take k z) h (begins_taken b z k n (omega arith)) ∙ rw (number_within b z k (omega arith)) in
    longest_at (suc (length z)) (suc k) (b ∷ z) (kinds.Integer (b ∷ take k z)) (omega arith)
    (omega (arith, number_fits b z)) at beyond
  where
    beyond : (m : ℕ) → suc (number_length b z) < m → m ≤ suc (length z) → word_of (take m (b ∷ z)) ≡ None
    beyond zero a r = absurd (omega arith)
    beyond (suc m) a r = word_of_number b (take m z) h (begins_taken b z m n (omega arith))
        ∙ rw (number_beyond b z m (omega arith) (omega arith))

-- ---- literals

literal_longest : (make : List ℕ → TokenKind) (b : ℕ) (z : List ℕ) (o : Option ℕ)
    → ((y : List ℕ) → word_of (b ∷ y) ≡ cond (is_literal (b ∷ y)) (Some (make (b ∷ y))) None)
    → literal_length (b ∷ z) ≡ o → longest (b ∷ z) ≡ cut make (b ∷ z) o
unfolding longest
literal_longest make b z None of e = longest_none (suc (length z)) (b ∷ z) dead
  where
    dead : (m : ℕ) → 1 ≤ m → m ≤ suc (length z) → word_of (take m (b ∷ z)) ≡ None
    dead zero a r = absurd (omega arith)
    dead (suc m) a r = of (take m z) ∙ rw (not_literal (b ∷ z) (suc m) r (λ f. cc))
literal_longest make b z (Some zero) of e = let g = (literal_at (b ∷ z) zero e).some in absurd (omega arith)
literal_longest make b z (Some (suc n)) of e =
    let at : word_of (b ∷ take n z) ≡ Some (make (b ∷ take n z)) =
    of (take n z) ∙ rw (literal_at (b ∷ z) (suc n) e).is in
    longest_at (suc (length z)) (suc n) (b ∷ z) (make (b ∷ take n z)) (omega arith) (literal_at (b ∷ z) (suc n) e).room
    at beyond
  where
    beyond : (m : ℕ) → suc n < m → m ≤ suc (length z) → word_of (take m (b ∷ z)) ≡ None
    beyond zero a r = absurd (omega arith)
    beyond (suc m) a r = of (take m z) ∙ rw (not_literal (b ∷ z) (suc m) r
        (λ f. let g : suc n ≡ suc m = cc in omega arith))

-- ---- punctuators

still_other : (b m : ℕ) (z : List ℕ) → begins_number b z ≡ false → begins_number b (take m z) ≡ false
still_other b zero z h = by (is_digit b) (b == 46) (begins_digit z) h
  where
    by : (x y w : Bool) → (x || (y && w)) ≡ false → (x || (y && false)) ≡ false
    by true y w e = e
    by false true w e = refl
    by false false w e = refl
still_other b (suc m) [] h = h
still_other b (suc m) (c ∷ z) h = h

spelled : (y : List ℕ) → punctuator_of y ≡ spelled_in PUNCTUATORS y
unfolding punctuator_of
spelled y = refl

punctuator_longest : (b : ℕ) (z : List ℕ) (o : Option Punctuator) → is_nondigit b ≡ false → begins_number b z ≡ false
    → (b == 34) ≡ false → (b == 39) ≡ false
    → found_in PUNCTUATORS (b ∷ z) ≡ o → longest (b ∷ z) ≡ punctuator_found o
unfolding longest
punctuator_longest b z o h n d s e = by o e
  where
    word_at : (m : ℕ) (o : Option Punctuator) → 1 ≤ m → spelled_in PUNCTUATORS (take m (b ∷ z)) ≡ o
        → word_of (take m (b ∷ z)) ≡ punctuated o
    word_at zero o a f = absurd (omega arith)
    word_at (suc m) o a f = word_of_other b (take m z) h (still_other b m z n) d s
        ∙ ap punctuated (spelled (b ∷ take m z) ∙ f)

    by : (o : Option Punctuator) → found_in PUNCTUATORS (b ∷ z) ≡ o
        → longest_to (suc (length z)) (b ∷ z) ≡ punctuator_found o
    by None e = longest_none (suc (length z)) (b ∷ z) (λ m a r. word_at m None a (none_found PUNCTUATORS (b ∷ z) m r e))
    by (Some p) e =
        longest_at (suc (length z)) (length (punctuator_spelling p)) (b ∷ z) (kinds.Punctuator p)
        (found_some (b ∷ z) p e) (found_front PUNCTUATORS (b ∷ z) p e).room
        (word_at (length (punctuator_spelling p)) (Some p) (found_some (b ∷ z) p e) (found_at PUNCTUATORS (b ∷ z) p e))
        (λ m a r. word_at m None (omega arith) (none_beyond PUNCTUATORS (b ∷ z) p m table_falls e a r))

pub scan_longest : (z : List ℕ) → longest z ≡ scan z
unfolding scan
scan_longest [] = unfold longest in refl
scan_longest (b ∷ z) =
    split (is_nondigit b)
    (λ h. rw h (name_longest b z h))
    (λ h. split (begins_number b z)
    (λ n. rw (h, n) (number_longest b z h n))
    (λ n. split (b == 34)
    (λ d. let q : b ≡ 34 = eqb-true b 34 d in
    rw (h, n, d) (literal_longest kinds.StringLiteral b z (literal_length (b ∷ z))
    (subst (λ b. (y : List ℕ) → word_of (b ∷ y) ≡ cond (is_literal (b ∷ y)) (Some (kinds.StringLiteral (b ∷ y)))
    None) (sym q) word_of_double_quote) refl))
    (λ d. split (b == 39)
    (λ s. let q : b ≡ 39 = eqb-true b 39 s in
    rw (h, n, d, s) (literal_longest kinds.Character b z (literal_length (b ∷ z))
    (subst (λ b. (y : List ℕ) → word_of (b ∷ y) ≡ cond (is_literal (b ∷ y)) (Some (kinds.Character (b ∷ y))) None)
    (sym q) word_of_quote) refl))
    (λ s. rw (h, n, d, s) (unfold scan_punctuator in punctuator_longest b z (found_in PUNCTUATORS (b ∷ z)) h n d s
    refl)))))

longest_within : (k : ℕ) (z : List ℕ) (w : TokenKind) (n : ℕ) → longest_to k z ≡ Some (w, n) → (1 ≤ n) × (n ≤ k)
longest_within zero z w n h = absurd cc
longest_within (suc k) z w n h = by (word_of (take (suc k) z)) h (longest_within k z w n)
  where
    by : (o : Option TokenKind) → or_shorter (suc k) o (longest_to k z) ≡ Some (w, n)
        → (longest_to k z ≡ Some (w, n) → (1 ≤ n) × (n ≤ k)) → (1 ≤ n) × (n ≤ suc k)
    by None h less = let g = less h in (g.0, omega (arith, g.1))
    by (Some v) h less = let a : TokenKind × ℕ = (v, suc k) in let b : TokenKind × ℕ = (w, n) in
        let same : a ≡ b = cc in let e : suc k ≡ n = ap (λ t. t.1) same in (omega arith, omega arith)

valid_same : (o : Option (TokenKind × ℕ)) (t : TokenKind × ℕ) → valid o ≡ Some t → o ≡ Some t
valid_same None t h = absurd cc
valid_same (Some s) t h =
    split (is_valid s.0)
    (λ e. rw e at h)
    (λ e. let g : None ≡ Some t = rw e at h in absurd cc)

-- a token has some bytes of the text
pub front_within : (z : List ℕ) (w : TokenKind) (n : ℕ) → front_token z ≡ Some (w, n) → (1 ≤ n) × (n ≤ length z)
unfolding front_token longest
front_within z w n h =
    split (begins_comment z)
    (λ e. let g : None ≡ Some (w, n) = rw e at h in absurd cc)
    (λ e. longest_within (length z) z w n (valid_same (longest_to (length z) z) (w, n) (rw e at h)))

pub front_fits : (z : List ℕ) (o : Option (TokenKind × ℕ)) → o ≡ front_token z
    → IfSome o (λ t. (1 ≤ t.1) × (t.1 ≤ length z))
front_fits z None h = tt
front_fits z (Some t) h = front_within z t.0 t.1 (sym h)
