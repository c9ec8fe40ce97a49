-- Taking one word from a list of words.
use Rattle.std.proofs.Common.{◌≡◌, ℕ, suc, ◌-◌, ◌≤◌, true, List, [], ◌∷◌, length, get_or, take, drop, take_all, sym, ap}
use Rattle.std.proofs.Common.{◌∙◌, arith}
use Rattle.c_lexer.specs.declared.punctuator.Punctuator.{Punctuator}
use Rattle.c_syntax.specs.declared.position.Position.{Position}
use Rattle.c_syntax.specs.declared.position.Positioned.{Positioned}
use Rattle.c_syntax.specs.declared.position.Spelled.{Spelled}
use Rattle.c_syntax.specs.Words.{Words, word_at, punctuator}
use Rattle.c_grammar.specs.Reader.{is_punctuator}
use Rattle.c_grammar.proofs.Inversion.{same_positioned}

abbrev pub spelled_at : List ℕ → Position → Spelled
spelled_at s at = record { spelling = s; position = at }

all_others : (i : Words) → take (suc (length i) - 1) i ≡ i
all_others i = take_all (suc (length i) - 1) i (omega arith)

-- the words by the first of them
pub first_word : (i : Words) (first : Positioned) → 1 ≤ length i → first ≡ get_or i 0 first
    → i ≡ word_at first.kind first.position ∷ take (length i - 1) (drop 1 i)
first_word [] first some is = absurd (omega arith)
first_word (x ∷ i) first some is = ap (λ z. z ∷ i) (sym is) ∙ ap (λ z. word_at first.kind first.position ∷ z)
    (sym (all_others i))

-- the first word is this punctuator
pub taken : (i : Words) (first : Positioned) (a : Punctuator) → 1 ≤ length i → first ≡ get_or i 0 first
    → is_punctuator a first.kind ≡ true
    → i ≡ punctuator a first.position ∷ take (length i - 1) (drop 1 i)
taken i first a some is h = first_word i first some is ∙ same_positioned a first.kind first.position
    (take (length i - 1) (drop 1 i)) h
