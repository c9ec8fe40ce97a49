-- One more specifier, and the end.
use Rattle.std.proofs.Common.{◌≡◌, ℕ, zero, suc, Bool, true, false, List, [], ◌∷◌, ◌++◌, length, get_or, take, drop}
use Rattle.std.proofs.Common.{◌-◌, ◌≤◌, Ok, Err, refl, sym, ap, ◌∙◌}
use Rattle.std.proofs.lemmas.Bool.{false≢true}
use Rattle.c_lexer.specs.declared.token.TokenKind.TheVariants as kinds
use Rattle.c_syntax.specs.declared.position.Positioned.{Positioned}
use Rattle.c_syntax.specs.declared.position.Spelled.{Spelled}
use Rattle.c_syntax.specs.declared.specifiers.TypeWords.{TypeWords}
use Rattle.c_syntax.specs.declared.tree.Specifier as rs
use Rattle.c_syntax.specs.Tree.{Specifiers, Specifier}
use Rattle.c_syntax.specs.Tree as t
use Rattle.c_syntax.specs.View.{specifier_of, specifiers_in}
use Rattle.c_syntax.specs.Words.{Words}
use Rattle.c_grammar.specs.Reader.{Outcome, ◌>>=◌, next_is}
use Rattle.c_grammar.specs.Readers.{Readers}
use Rattle.c_grammar.specs.SpecifierReader.{goes_on_with, words_with, ended, specifier_by, specifiers_behind}
use Rattle.c_grammar.specs.Reads.{Fails}
use Rattle.c_expressions.specs.Steps.{specifier_next, specifiers_before, specifiers_extending}
use Rattle.c_grammar.proofs.Taking.{first_word, spelled_at}
use Rattle.c_grammar.specs.declared.cursor.Fault.{Fault}
use Rattle.c_grammar.specs.declared.cursor.Fault.TheVariants.{Memory, Refused}

before_one : (xs : List rs.Specifier) (x : rs.Specifier) (z : Specifiers)
    → specifiers_before (xs ++ x ∷ []) z ≡ specifiers_before xs (t.specifiers (specifier_of x) z)
before_one [] x z = refl
before_one (y ∷ xs) x z = ap (λ z. t.specifiers (specifier_of y) z) (before_one xs x z)

-- no specifier has come
pub specifiers_start : (o : Outcome Specifiers) → specifiers_extending [] o ≡ o
specifiers_start (Ok z) = refl
specifiers_start (Err e) = refl

extending_one : (xs : List rs.Specifier) (x : rs.Specifier) (o : Outcome Specifiers)
    → specifiers_extending xs (o >>= λ z i. Ok (t.specifiers (specifier_of x) z, i))
    ≡ specifiers_extending (xs ++ x ∷ []) o
extending_one xs x (Ok z) = ap (λ y. Ok (y, z.1)) (sym (before_one xs x z.0))
extending_one xs x (Err e) = refl

-- no specifier follows
pub before_none : (xs : List rs.Specifier) → specifiers_before xs t.no_specifiers ≡ specifiers_in xs
before_none [] = refl
before_none (x ∷ xs) = ap (λ z. t.specifiers (specifier_of x) z) (before_none xs)

-- a typedef name
pub specifier_name : (names : List (List ℕ)) (deeper : Readers) (levels : ℕ) (i : Words) (first : Positioned)
    (s : List ℕ) (x : Spelled) → 1 ≤ length i → first ≡ get_or i 0 first
    → first.kind ≡ kinds.Identifier s → x.spelling ≡ s → x.position ≡ first.position
    → specifier_next names deeper levels i ≡ Ok (t.typedef_name x, take (length i - 1) (drop 1 i))
specifier_name names deeper levels i first s x some is named spelled positioned =
    let j = take (length i - 1) (drop 1 i) in
    ap (λ i. specifier_next names deeper levels i) (first_word i first some is)
    ∙ ap (λ w. specifier_by names deeper levels w first.position j) named
    ∙ ap (λ s. Ok (t.typedef_name (spelled_at s first.position), j)) (sym spelled)
    ∙ ap (λ at. Ok (t.typedef_name (spelled_at x.spelling at), j)) (sym positioned)

module _ (names : List (List ℕ)) (deeper : Readers) (levels : ℕ) (allowed : Bool) where
  pub specifier_turn : (n : ℕ) (w : TypeWords) (xs : List rs.Specifier) (x : rs.Specifier) (i new : Words)
      → next_is (goes_on_with names deeper levels allowed w) i ≡ true
      → specifier_next names deeper levels i ≡ Ok (specifier_of x, new)
      → specifiers_extending xs (specifiers_behind names deeper levels allowed (suc n) w i)
      ≡ specifiers_extending (xs ++ x ∷ []) (specifiers_behind names deeper levels allowed n
      (words_with (specifier_of x) w) new)
  unfolding specifiers_behind
  specifier_turn n w xs x [] new test one = absurd (false≢true test)
  specifier_turn n w xs x (first ∷ i) new test one =
      rw (test, one) (extending_one xs x (specifiers_behind names deeper levels allowed n
      (words_with (specifier_of x) w) new))

  -- the specifier is refused
  pub specifier_fails : (n : ℕ) (w : TypeWords) (xs : List rs.Specifier) (i new : Words) (o : Outcome Specifiers)
      (f : Fault)
      → o ≡ specifiers_extending xs (specifiers_behind names deeper levels allowed (suc n) w i)
      → next_is (goes_on_with names deeper levels allowed w) i ≡ true
      → Fails (specifier_next names deeper levels i) f new → Fails o f new
  unfolding specifiers_behind
  specifier_fails n w xs i new o Memory read test one = tt
  specifier_fails n w xs [] new o Refused read test one = absurd (false≢true test)
  specifier_fails n w xs (first ∷ i) new o Refused read test one = read ∙ rw (test, one) refl

  -- there is no more specifier
  pub specifier_end : (n : ℕ) (w : TypeWords) (i : Words) → next_is (goes_on_with names deeper levels allowed w) i
      ≡ false
      → specifiers_behind names deeper levels allowed n w i ≡ ended names deeper levels w i
  unfolding specifiers_behind
  specifier_end zero w i test = refl
  specifier_end (suc n) w [] test = refl
  specifier_end (suc n) w (first ∷ i) test = rw test refl

  -- the count has ended
  pub specifier_done : (w : TypeWords) (i : Words) → specifiers_behind names deeper levels allowed 0 w i
      ≡ ended names deeper levels w i
  unfolding specifiers_behind
  specifier_done w i = refl
