-- The table of punctuators, whose bytes begin no other word, and in which the longer ones stand first.
use Rattle.std.proofs.Common.{◌≡◌, ℕ, zero, suc, ◌<◌, ◌≤◌, Bool, true, false, not, ◌&&◌, ◌||◌, ◌==◌, leb, List, [], ◌∷◌}
use Rattle.std.proofs.Common.{take, length, Option, Some, None, refl, sym, ap, subst, ◌∙◌, arith}
use Rattle.std.specs.Prelude.{nat_eq}
use Rattle.std.specs.List.{find, list_all, starts_with}
use Rattle.std.specs.Str.{bytes_eq}
use Rattle.std.specs.Cmp.Lexicographic.{bytes_decides}
use Rattle.std.proofs.lemmas.Bool.{false≢true, leb-true, and_parts, false_from_ne_true}
use Rattle.c_lexer.specs.declared.punctuator.Punctuator.{Punctuator}
use Rattle.c_lexer.specs.declared.punctuator.TheConstants.{PUNCTUATORS}
use Rattle.c_lexer.specs.Characters.{continues_identifier}
use Rattle.c_lexer.specs.Spellings.{punctuator_spelling, punctuator_of}
use Rattle.c_lexer.proofs.LongestWord.{split}

-- ---- no byte of a punctuator begins another word

abbrev pub is_apart : ℕ → Bool
is_apart b = not (continues_identifier b || (b == 34 || b == 39))

none_spelled : (table : List Punctuator) (z : List ℕ) → list_all (λ p. list_all is_apart (punctuator_spelling p)) table
    ≡ true → list_all is_apart z ≡ false
    → find (λ p. bytes_eq (punctuator_spelling p) z) table ≡ None
none_spelled [] z a h = refl
none_spelled (p ∷ table) z a h =
    let parts = and_parts _ _ a in
    split (bytes_eq (punctuator_spelling p) z)
    (λ e. let same : punctuator_spelling p ≡ z = (bytes_decides (punctuator_spelling p) z).0 e in
    absurd (false≢true (sym h ∙ subst (λ z. list_all is_apart z ≡ true) same parts.0)))
    (λ e. rw e (none_spelled table z parts.1 h))

pub no_punctuator : (z : List ℕ) → list_all is_apart z ≡ false → punctuator_of z ≡ None
unfolding punctuator_of punctuator_spelling
no_punctuator z h = none_spelled PUNCTUATORS z refl h

-- ---- the first one that the text begins with is the longest

abbrev pub found_in : List Punctuator → List ℕ → Option Punctuator
found_in table z = find (λ p. starts_with nat_eq z (punctuator_spelling p)) table

abbrev pub spelled_in : List Punctuator → List ℕ → Option Punctuator
spelled_in table z = find (λ p. bytes_eq (punctuator_spelling p) z) table

pub take_length : (m : ℕ) (z : List ℕ) → m ≤ length z → length (take m z) ≡ m
take_length zero z h = refl
take_length (suc m) [] h = absurd (omega arith)
take_length (suc m) (b ∷ z) h = ap suc (take_length m z (omega arith))

take_short : (m : ℕ) (z : List ℕ) → length (take m z) ≤ length z
take_short zero z = omega arith
take_short (suc m) [] = omega arith
take_short (suc m) (b ∷ z) = omega (arith, take_short m z)

not_spelled : (s z : List ℕ) (m : ℕ) → m ≤ length z → starts_with nat_eq z s ≡ false → bytes_eq s (take m z) ≡ false
not_spelled s z m r h =
    false_from_ne_true (bytes_eq s (take m z)) (λ e.
    let same : s ≡ take m z = (bytes_decides s (take m z)).0 e in
    let n : length s ≡ m = ap length same ∙ take_length m z r in
    let front : s ≡ take (length s) z = same ∙ ap (λ k. take k z) (sym n) in
    false≢true (sym h ∙ (bytes_decides s (take (length s) z)).1 front))

other_length : (s z : List ℕ) (m : ℕ) → m ≤ length z → length s < m → bytes_eq s (take m z) ≡ false
other_length s z m r l =
    false_from_ne_true (bytes_eq s (take m z)) (λ e.
    let same : s ≡ take m z = (bytes_decides s (take m z)).0 e in
    let n : length s ≡ m = ap length same ∙ take_length m z r in omega arith)

pub none_found : (table : List Punctuator) (z : List ℕ) (m : ℕ) → m ≤ length z → found_in table z ≡ None
    → spelled_in table (take m z) ≡ None
none_found [] z m r h = refl
none_found (p ∷ table) z m r h =
    split (starts_with nat_eq z (punctuator_spelling p))
    (λ e. let g : Some p ≡ None = rw e at h in absurd cc)
    (λ e. let g : found_in table z ≡ None = rw e at h in
    rw (not_spelled (punctuator_spelling p) z m r e) (none_found table z m r g))

-- the front of the text that is found
pub record IsFront (p : Punctuator) (z : List ℕ) : Type 0 where
  pub starts : starts_with nat_eq z (punctuator_spelling p) ≡ true
  pub room : length (punctuator_spelling p) ≤ length z

front_of : (p : Punctuator) (z : List ℕ) → starts_with nat_eq z (punctuator_spelling p) ≡ true → IsFront p z
front_of p z e =
    let s = punctuator_spelling p in
    let same : s ≡ take (length s) z = (bytes_decides s (take (length s) z)).0 e in
    let n : length s ≡ length (take (length s) z) = ap length same in
    record { starts = e; room = omega (arith, n, take_short (length s) z) }

pub found_front : (table : List Punctuator) (z : List ℕ) (p : Punctuator) → found_in table z ≡ Some p → IsFront p z
found_front [] z p h = absurd cc
found_front (q ∷ table) z p h =
    split (starts_with nat_eq z (punctuator_spelling q))
    (λ e. let g : Some q ≡ Some p = rw e at h in let same : q ≡ p = cc in
    subst (λ p. IsFront p z) same (front_of q z e))
    (λ e. found_front table z p (rw e at h))

pub found_at : (table : List Punctuator) (z : List ℕ) (p : Punctuator) → found_in table z ≡ Some p
    → spelled_in table (take (length (punctuator_spelling p)) z) ≡ Some p
found_at [] z p h = absurd cc
found_at (q ∷ table) z p h =
    split (starts_with nat_eq z (punctuator_spelling q))
    (λ e. let g : Some q ≡ Some p = rw e at h in let same : q ≡ p = cc in
    subst (λ p. spelled_in (q ∷ table) (take (length (punctuator_spelling p)) z) ≡ Some p) same (rw e))
    (λ e. let g : found_in table z ≡ Some p = rw e at h in
    rw (not_spelled (punctuator_spelling q) z (length (punctuator_spelling p)) (found_front table z p g).room e)
    (found_at table z p g))

abbrev none_longer : ℕ → List Punctuator → Bool
none_longer n table = list_all (λ q. leb (length (punctuator_spelling q)) n) table

abbrev falls : List Punctuator → Bool
falls [] = true
falls (p ∷ table) = none_longer (length (punctuator_spelling p)) table && falls table

beyond_all : (table : List Punctuator) (z : List ℕ) (n m : ℕ) → none_longer n table ≡ true → n < m → m ≤ length z
    → spelled_in table (take m z) ≡ None
beyond_all [] z n m f l r = refl
beyond_all (q ∷ table) z n m f l r =
    let parts = and_parts (leb (length (punctuator_spelling q)) n) (none_longer n table) f in
    let k : length (punctuator_spelling q) ≤ n = leb-true (length (punctuator_spelling q)) n parts.0 in
    rw (other_length (punctuator_spelling q) z m r (omega arith)) (beyond_all table z n m parts.1 l r)

pub none_beyond : (table : List Punctuator) (z : List ℕ) (p : Punctuator) (m : ℕ) → falls table ≡ true
    → found_in table z ≡ Some p → length (punctuator_spelling p) < m → m ≤ length z
    → spelled_in table (take m z) ≡ None
none_beyond [] z p m f h l r = refl
none_beyond (q ∷ table) z p m f h l r =
    let parts = and_parts (none_longer (length (punctuator_spelling q)) table) (falls table) f in
    split (starts_with nat_eq z (punctuator_spelling q))
    (λ e. let g : Some q ≡ Some p = rw e at h in
    let same : q ≡ p = cc in
    let k : length (punctuator_spelling q) < m = subst (λ p. length (punctuator_spelling p) < m) (sym same) l in
    rw (other_length (punctuator_spelling q) z m r k) (beyond_all table z (length (punctuator_spelling q)) m parts.0 k
    r))
    (λ e. let g : found_in table z ≡ Some p = rw e at h in
    rw (not_spelled (punctuator_spelling q) z m r e) (none_beyond table z p m parts.1 g l r))

pub table_falls : falls PUNCTUATORS ≡ true
unfolding punctuator_spelling
table_falls = refl

abbrev some_bytes : List Punctuator → Bool
some_bytes = list_all (λ p. leb 1 (length (punctuator_spelling p)))

table_some : some_bytes PUNCTUATORS ≡ true
unfolding punctuator_spelling
table_some = refl

found_passes : (test : Punctuator → Bool) (table : List Punctuator) (z : List ℕ) (p : Punctuator)
    → list_all test table ≡ true → found_in table z ≡ Some p → test p ≡ true
found_passes test [] z p a h = absurd cc
found_passes test (q ∷ table) z p a h =
    let parts = and_parts (test q) (list_all test table) a in
    split (starts_with nat_eq z (punctuator_spelling q))
    (λ e. let g : Some q ≡ Some p = rw e at h in let same : q ≡ p = cc in subst (λ p. test p ≡ true) same parts.0)
    (λ e. found_passes test table z p parts.1 (rw e at h))

pub found_some : (z : List ℕ) (p : Punctuator) → found_in PUNCTUATORS z ≡ Some p → 1 ≤ length (punctuator_spelling p)
found_some z p h = leb-true 1 (length (punctuator_spelling p))
    (found_passes (λ p. leb 1 (length (punctuator_spelling p))) PUNCTUATORS z p table_some h)
