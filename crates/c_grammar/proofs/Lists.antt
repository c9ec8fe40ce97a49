-- Reading lists: one more element, and the end.
use Rattle.std.proofs.Common.{◌≡◌, ℕ, zero, suc, true, false, List, [], ◌∷◌, Ok, Option, Some, None, refl}
use Rattle.c_lexer.specs.declared.punctuator.Punctuator.TheVariants as p
use Rattle.c_syntax.specs.declared.position.Position.{Position}
use Rattle.c_syntax.specs.Words.{Words, punctuator}
use Rattle.c_grammar.specs.Reader.{Reader, next_is_punctuator, behind_commas, behind_commas_to_brace, up_to_brace}
use Rattle.c_grammar.proofs.Facts.{same}

module _ {A : Type 0} (element : Reader A) where
  -- an element behind a comma, and what is read behind it
  pub comma_turn : (n : ℕ) (at : Position) (i j r : Words) (x : A) (z : List (Position × A))
      → element i ≡ Ok (x, j) → behind_commas element n j ≡ Ok (z, r)
      → behind_commas element (suc n) (punctuator p.Comma at ∷ i) ≡ Ok ((at, x) ∷ z, r)
  unfolding behind_commas
  comma_turn n at i j r x z one others = rw (same p.Comma, one, others) refl

  pub comma_end : (n : ℕ) (r : Words) → next_is_punctuator p.Comma r ≡ false → behind_commas element n r ≡ Ok ([], r)
  unfolding behind_commas
  comma_end zero r h = refl
  comma_end (suc n) [] h = refl
  comma_end (suc n) (first ∷ r) h = rw h refl

  -- the same before `}`
  pub comma_to_brace_turn : (n : ℕ) (at : Position) (i j r : Words) (x : A) (z : List (Position × A))
      (c : Option Position)
      → next_is_punctuator p.RightBrace i ≡ false → element i ≡ Ok (x, j)
      → behind_commas_to_brace element n j ≡ Ok ((z, c), r)
      → behind_commas_to_brace element (suc n) (punctuator p.Comma at ∷ i) ≡ Ok (((at, x) ∷ z, c), r)
  unfolding behind_commas_to_brace
  comma_to_brace_turn n at i j r x z c more one others = rw (same p.Comma, more, one, others) refl

  -- a last comma
  pub comma_to_brace_last : (n : ℕ) (at : Position) (i : Words) → next_is_punctuator p.RightBrace i ≡ true
      → behind_commas_to_brace element (suc n) (punctuator p.Comma at ∷ i) ≡ Ok (([], Some at), i)
  unfolding behind_commas_to_brace
  comma_to_brace_last n at i h = rw (same p.Comma, h) refl

  -- no last comma
  pub comma_to_brace_end : (n : ℕ) (r : Words) → next_is_punctuator p.Comma r ≡ false
      → behind_commas_to_brace element n r ≡ Ok (([], None), r)
  unfolding behind_commas_to_brace
  comma_to_brace_end zero r h = refl
  comma_to_brace_end (suc n) [] h = refl
  comma_to_brace_end (suc n) (first ∷ r) h = rw h refl

  -- an element that does not begin with `}`, and what is read behind it
  pub to_brace_turn : (n : ℕ) (i j r : Words) (x : A) (z : List A)
      → next_is_punctuator p.RightBrace i ≡ false → element i ≡ Ok (x, j) → up_to_brace element n j ≡ Ok (z, r)
      → up_to_brace element (suc n) i ≡ Ok (x ∷ z, r)
  unfolding up_to_brace
  to_brace_turn n i j r x z more one others = rw (more, one, others) refl

  pub to_brace_end : (n : ℕ) (i : Words) → next_is_punctuator p.RightBrace i ≡ true
      → up_to_brace element (suc n) i ≡ Ok ([], i)
  unfolding up_to_brace
  to_brace_end n i h = rw h refl
