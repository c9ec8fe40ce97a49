-- A literal closes at one place alone.
use Rattle.std.proofs.Common.{◌≡◌, ℕ, zero, suc, ◌≤◌, Bool, true, false, ◌||◌, ◌==◌, List, [], ◌∷◌, take, length}
use Rattle.std.proofs.Common.{Option, Some, None, refl, sym, ap, subst, ◌∙◌, arith}
use Rattle.std.specs.Prelude.{is_some}
use Rattle.std.proofs.lemmas.Bool.{false≢true, eqb-true}
use Rattle.c_lexer.specs.declared.literal.LiteralState.{LiteralState}
use Rattle.c_lexer.specs.declared.literal.LiteralState.TheVariants.{Start}
use Rattle.c_lexer.specs.declared.literal.LiteralStep.{LiteralStep}
use Rattle.c_lexer.specs.declared.literal.LiteralStep.TheVariants.{Refused, Closes, Begins, Continues}
use Rattle.c_lexer.specs.Literals.{literal_step, characters_by, characters_from, characters_of, character_value}
use Rattle.c_lexer.specs.Literals.{bytes_of_literal, behind, ended, at_end, only_one}
use Rattle.c_lexer.specs.Scan.{closing_by, closing_length, longer, literal_length, if_character}
use Rattle.c_lexer.specs.Words.{is_character, is_literal}
use Rattle.c_lexer.proofs.LongestWord.{split}

behind_some : (front : List ℕ) (o : Option (List ℕ)) → is_some (behind front o) ≡ is_some o
behind_some front None = refl
behind_some front (Some z) = refl

end_alone : (last : List ℕ) (m : ℕ) (z : List ℕ) → m ≤ length z → is_some (at_end last (take m z)) ≡ true → m ≡ 0
end_alone last zero z r h = refl
end_alone last (suc m) [] r h = absurd (omega arith)
end_alone last (suc m) (b ∷ z) r h = absurd (false≢true h)

-- a front that is the rest of a literal ends where the quote closes
pub closes_only : (q : ℕ) (s : LiteralState) (z : List ℕ) (m : ℕ) → m ≤ length z
    → is_some (characters_from q s (take m z)) ≡ true → closing_length q s z ≡ Some m
closes_only q s z zero r h = absurd (false≢true h)
closes_only q s [] (suc m) r h = absurd (omega arith)
closes_only q s (b ∷ z) (suc m) r h = by (literal_step q s b) h (λ t. closes_only q t z m (omega arith))
  where
    by : (n : LiteralStep) → is_some (characters_by n s (λ t. characters_from q t (take m z)) (take m z)) ≡ true
        → ((t : LiteralState) → is_some (characters_from q t (take m z)) ≡ true → closing_length q t z ≡ Some m)
        → closing_by n (λ t. closing_length q t z) ≡ Some (suc m)
    by Refused h more = absurd (false≢true h)
    by Closes h more = let e : m ≡ 0 = end_alone (ended s) m z (omega arith) h in ap (λ m. Some (suc m)) (sym e)
    by (Begins t) h more = rw (more t (sym (behind_some (ended s) (characters_from q t (take m z))) ∙ h))
    by (Continues t) h more = rw (more t h)

longer_some : (o : Option ℕ) (m : ℕ) → longer o ≡ Some (suc m) → o ≡ Some m
longer_some None m h = absurd cc
longer_some (Some n) m h = cc

longer_zero : (o : Option ℕ) → longer o ≡ Some 0 → ⊥
longer_zero None h = cc
longer_zero (Some n) h = let e : suc n ≡ 0 = cc in omega arith

-- a front of a text that is the rest of a literal
pub record IsRest (q : ℕ) (s : LiteralState) (m : ℕ) (z : List ℕ) : Type 0 where
  pub is : is_some (characters_from q s (take m z)) ≡ true
  pub room : m ≤ length z

pub closes_at : (q : ℕ) (s : LiteralState) (z : List ℕ) (m : ℕ) → closing_length q s z ≡ Some m → IsRest q s m z
closes_at q s [] m h = absurd cc
closes_at q s (b ∷ z) zero h = absurd (by (literal_step q s b) h)
  where
    by : (n : LiteralStep) → closing_by n (λ t. closing_length q t z) ≡ Some 0 → ⊥
    by Refused h = cc
    by Closes h = cc
    by (Begins t) h = longer_zero (closing_length q t z) h
    by (Continues t) h = longer_zero (closing_length q t z) h
closes_at q s (b ∷ z) (suc m) h =
    let e = by (literal_step q s b) h (λ t. closes_at q t z m) in
    record { is = e.0; room = e.1 }
  where
    by : (n : LiteralStep) → closing_by n (λ t. closing_length q t z) ≡ Some (suc m)
        → ((t : LiteralState) → closing_length q t z ≡ Some m → IsRest q t m z)
        → (is_some (characters_by n s (λ t. characters_from q t (take m z)) (take m z)) ≡ true)
        × (suc m ≤ suc (length z))
    by Refused h more = absurd cc
    by Closes h more = let e : m ≡ 0 = cc in (ap (λ m. is_some (at_end (ended s) (take m z))) e, omega arith)
    by (Begins t) h more =
        let g = more t (longer_some (closing_length q t z) m h) in
        (behind_some (ended s) (characters_from q t (take m z)) ∙ g.is, omega (arith, g.room))
    by (Continues t) h more = let g = more t (longer_some (closing_length q t z) m h) in (g.is, omega (arith, g.room))

-- ---- with the opening quote

pub string_of_quote : (y : List ℕ) → is_literal (34 ∷ y) ≡ is_some (characters_from 34 Start y)
unfolding character_value bytes_of_literal characters_of
string_of_quote y = refl

pub character_of_quote : (y : List ℕ) → is_literal (39 ∷ y) ≡ is_some (only_one (characters_from 39 Start y))
unfolding character_value bytes_of_literal characters_of
character_of_quote y = by (is_some (only_one (characters_from 39 Start y)))
  where
    by : (v : Bool) → (v || false) ≡ v
    by true = refl
    by false = refl

pub no_literal : (b : ℕ) (y : List ℕ) → (b == 34) ≡ false → (b == 39) ≡ false → is_literal (b ∷ y) ≡ false
unfolding character_value bytes_of_literal characters_of
no_literal b y d s = rw (d, s)

one_some : (o : Option (List ℕ)) → is_some (only_one o) ≡ true → is_some o ≡ true
one_some None h = h
one_some (Some z) h = refl

-- a front of a text that is a character constant or a string literal
pub record IsLiteral (n : ℕ) (z : List ℕ) : Type 0 where
  pub is : is_literal (take n z) ≡ true
  pub some : 1 ≤ n
  pub room : n ≤ length z

character_here : (b m : ℕ) (z : List ℕ) → (b == 39) ≡ true → is_some (only_one (characters_from 39 Start (take m z)))
    ≡ true → if_character (b ∷ z) (Some (suc m)) ≡ Some (suc m)
unfolding character_value characters_of
character_here b m z s g = rw (s, g)

pub literal_only : (z : List ℕ) (m : ℕ) → m ≤ length z → is_literal (take m z) ≡ true → literal_length z ≡ Some m
unfolding literal_length
literal_only z zero r h = unfold character_value in unfold bytes_of_literal in unfold characters_of in
    absurd (false≢true h)
literal_only [] (suc m) r h = absurd (omega arith)
literal_only (b ∷ z) (suc m) r h =
    split (b == 34)
    (λ d. let q : b ≡ 34 = eqb-true b 34 d in
    let g = sym (string_of_quote (take m z)) ∙ ap (λ b. is_literal (b ∷ take m z)) (sym q) ∙ h in
    rw (d, closes_only 34 Start z m (omega arith) g))
    (λ d. split (b == 39)
    (λ s. let q : b ≡ 39 = eqb-true b 39 s in
    let g = sym (character_of_quote (take m z)) ∙ ap (λ b. is_literal (b ∷ take m z)) (sym q) ∙ h in
    rw (d, s, closes_only 39 Start z m (omega arith) (one_some (characters_from 39 Start (take m z)) g))
    (character_here b m z s g))
    (λ s. absurd (false≢true (sym (no_literal b (take m z) d s) ∙ h))))

found_character : (z : List ℕ) (o : Option ℕ) (n : ℕ) → if_character z o ≡ Some n
    → (o ≡ Some n) × (is_character (take n z) ≡ true)
found_character z None n h = absurd cc
found_character z (Some m) n h =
    split (is_character (take m z))
    (λ e. let g : Some m ≡ Some n = rw e at h in let k : m ≡ n = cc in
    (g, subst (λ n. is_character (take n z) ≡ true) k e))
    (λ e. let g : None ≡ Some n = rw e at h in absurd cc)

pub literal_at : (z : List ℕ) (n : ℕ) → literal_length z ≡ Some n → IsLiteral n z
unfolding literal_length
literal_at [] n h = absurd cc
literal_at (b ∷ z) zero h =
    absurd (split (b == 34)
    (λ d. longer_zero (closing_length 34 Start z) (rw d at h))
    (λ d. split (b == 39)
    (λ s. let g : if_character (b ∷ z) (longer (closing_length 39 Start z)) ≡ Some 0 = rw (d, s) at h in
    longer_zero (closing_length 39 Start z) (found_character (b ∷ z) (longer (closing_length 39 Start z)) 0 g).0)
    (λ s. let g : None ≡ Some 0 = rw (d, s) at h in cc)))
literal_at (b ∷ z) (suc n) h =
    split (b == 34)
    (λ d. let q : b ≡ 34 = eqb-true b 34 d in
    let r = closes_at 34 Start z n (longer_some (closing_length 34 Start z) n (rw d at h)) in
    record {
      is = ap (λ b. is_literal (b ∷ take n z)) q ∙ string_of_quote (take n z) ∙ r.is;
      some = omega arith;
      room =
          omega (arith, r.room);
    })
    (λ d. split (b == 39)
    (λ s. let q : b ≡ 39 = eqb-true b 39 s in
    let g : if_character (b ∷ z) (longer (closing_length 39 Start z)) ≡ Some (suc n) = rw (d, s) at h in
    let f = found_character (b ∷ z) (longer (closing_length 39 Start z)) (suc n) g in
    let r = closes_at 39 Start z n (longer_some (closing_length 39 Start z) n f.0) in
    record { is = rw f.1; some = omega arith; room = omega (arith, r.room) })
    (λ s. let g : None ≡ Some (suc n) = rw (d, s) at h in absurd cc))
