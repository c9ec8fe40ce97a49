-- The tables of keywords and punctuators.
use Rattle.std.proofs.Common.{◌≡◌, ℕ, Bool, true, List, [], ◌∷◌, Some, refl, subst}
use Rattle.std.specs.List.{find}
use Rattle.std.specs.Str.{bytes_eq}
use Rattle.std.specs.Cmp.Lexicographic.{bytes_decides}
use Rattle.c_lexer.specs.declared.keyword.Keyword.{Keyword}
use Rattle.c_lexer.specs.declared.keyword.Keyword.TheVariants.{Auto}
use Rattle.c_lexer.specs.declared.keyword.TheConstants.{KEYWORDS}
use Rattle.c_lexer.specs.declared.punctuator.Punctuator.{Punctuator}
use Rattle.c_lexer.specs.declared.punctuator.Punctuator.TheVariants.{LeftBracket}
use Rattle.c_lexer.specs.declared.punctuator.TheConstants.{PUNCTUATORS}
use Rattle.c_lexer.specs.Spellings.{keyword_of, keyword_spelling, punctuator_of, punctuator_spelling}
use Rattle.c_lexer.proofs.LongestWord.{split}

pub found_true : {X : Type 0} (p : X → Bool) (table : List X) (x : X) → find p table ≡ Some x → p x ≡ true
found_true p [] x h = absurd cc
found_true p (y ∷ table) x h =
    split (p y)
    (λ e. let g : Some y ≡ Some x = rw e at h in let same : y ≡ x = cc in subst (λ x. p x ≡ true) same e)
    (λ e. found_true p table x (rw e at h))

pub keyword_spelled : (z : List ℕ) (k : Keyword) → keyword_of z ≡ Some k → keyword_spelling k ≡ z
unfolding keyword_of
keyword_spelled z k h = (bytes_decides (keyword_spelling k) z).0
    (found_true (λ k. bytes_eq (keyword_spelling k) z) KEYWORDS k h)

pub punctuator_spelled : (z : List ℕ) (p : Punctuator) → punctuator_of z ≡ Some p → punctuator_spelling p ≡ z
unfolding punctuator_of
punctuator_spelled z p h = (bytes_decides (punctuator_spelling p) z).0
    (found_true (λ p. bytes_eq (punctuator_spelling p) z) PUNCTUATORS p h)

pub keyword_read : (k : Keyword) → keyword_of (keyword_spelling k) ≡ Some k
unfolding keyword_of keyword_spelling
keyword_read Auto = refl
keyword_read _ = refl

pub punctuator_read : (p : Punctuator) → punctuator_of (punctuator_spelling p) ≡ Some p
unfolding punctuator_of punctuator_spelling
punctuator_read LeftBracket = refl
punctuator_read _ = refl
