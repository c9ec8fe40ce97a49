-- What a reader that gives a value has done. `Gives o P`: what the outcome o gives, and the words behind it, are so. A
-- law of this form goes through a reader as it is written: by `gives_bind` where one reader follows another, by
-- `gives_if` at a test.
use Rattle.std.proofs.Common.{◌≡◌, ℕ, zero, suc, Bool, true, false, if◌then◌else◌, List, [], ◌∷◌, Ok, Err, Option, Some}
use Rattle.std.proofs.Common.{None, refl, sym, ap, subst, ◌∙◌}
use Rattle.std.specs.Cmp.Lexicographic.{bytes_decides}
use Rattle.std.proofs.lemmas.Bool.{false≢true}
use Rattle.c_lexer.specs.declared.keyword.Keyword.TheVariants as k
use Rattle.c_lexer.specs.declared.punctuator.Punctuator.{Punctuator}
use Rattle.c_lexer.specs.declared.punctuator.Punctuator.TheVariants as p
use Rattle.c_lexer.specs.declared.token.TokenKind.{TokenKind}
use Rattle.c_lexer.specs.declared.token.TokenKind.TheVariants as kinds
use Rattle.c_lexer.specs.Spellings.{punctuator_spelling, punctuator_of}
use Rattle.c_lexer.proofs.Tables.{punctuator_read}
use Rattle.c_syntax.specs.declared.position.Position.{Position}
use Rattle.c_syntax.specs.declared.position.Spelled.{Spelled}
use Rattle.c_syntax.specs.Words.{Words, word_at, punctuator, identifier, strings_words, const_words, comma_words}
use Rattle.c_syntax.specs.Formed.{is_among}
use Rattle.c_grammar.specs.Reader.{Outcome, Reader, ◌>>=◌, is_same, is_punctuator, expect, identifier_from}
use Rattle.c_grammar.specs.Reader.{identifier_by, ordinary_from, ordinary_by, strings_from, string_step, consts_from}
use Rattle.c_grammar.specs.Reader.{const_step, behind_commas, behind_commas_to_brace, up_to_brace}

-- ---- outcomes

abbrev pub given : {A : Type 0} → A × Words → Outcome A
given z = Ok z

abbrev pub refusal : {A : Type 0} → Words → Outcome A
refusal e = Err e

pub same_ok : {A : Type 0} (x y : A × Words) → given x ≡ given y → x ≡ y
same_ok x y e = cc

-- a refusal gives nothing
pub no_err : {A C : Type 0} (e : Words) (y : A × Words) → refusal e ≡ given y → C
no_err e y h = absurd cc

-- two readers, one behind the other, have each given something
pub bind_ok : {A B : Type 0} (o : Outcome A) (f : A → Words → Outcome B) (z : B × Words) → (o >>= f) ≡ Ok z
    → (x : A) × (r : Words) × (o ≡ Ok (x, r)) × (f x r ≡ Ok z)
bind_ok (Ok x) f z h = (x.0, x.1, refl, h)
bind_ok (Err e) f z h = no_err e z h

-- what an outcome gives, and the words behind it, are so
pub record Gives {A : Type 0} (o : Outcome A) (P : A → Words → Type 0) : Type 0 where
  pub given : (x : A) (r : Words) → o ≡ Ok (x, r) → P x r

pub gives_ok : {A : Type 0} {P : A → Words → Type 0} (x : A) (r : Words) → P x r → Gives (Ok (x, r)) P
gives_ok {P = P} x r h = record { given = λ y s e. subst (λ z. P z.0 z.1) (same_ok (x, r) (y, s) e) h }

pub gives_err : {A : Type 0} {P : A → Words → Type 0} (e : Words) → Gives (Err e) P
gives_err e = record { given = λ x r h. no_err e (x, r) h }

pub gives_bind : {A B : Type 0} {o : Outcome A} {f : A → Words → Outcome B} {P : A → Words → Type 0}
    {Q : B → Words → Type 0}
    → Gives o P → ((x : A) (r : Words) → P x r → Gives (f x r) Q) → Gives (o >>= f) Q
gives_bind {o = o} {f = f} h go = record {
  given = λ y s e.
      let b = bind_ok o f (y, s) e in
      (go b.0 b.1 (h.given b.0 b.1 b.2)).given y s b.3;
}

pub gives_map : {A : Type 0} {o : Outcome A} {P Q : A → Words → Type 0} → Gives o P
    → ((x : A) (r : Words) → P x r → Q x r) → Gives o Q
gives_map h f = record { given = λ x r e. f x r (h.given x r e) }

-- what holds of both alternatives of a test holds of the one that is taken
pub by_test : {A : Type 0} (P : A → Type 0) (b : Bool) (x y : A) → (b ≡ true → P x) → (b ≡ false → P y)
    → P (if b then x else y)
by_test P true x y f g = f refl
by_test P false x y f g = g refl

pub gives_if : {A : Type 0} {b : Bool} {x y : Outcome A} {P : A → Words → Type 0} → (b ≡ true → Gives x P)
    → (b ≡ false → Gives y P)
    → Gives (if b then x else y) P
gives_if {b = b} {x = x} {y = y} {P = P} f g = by_test (λ o. Gives o P) b x y f g

-- ---- single words

-- punctuators that are spelled alike are one
pub same_punctuator : (a b : Punctuator) → is_same a b ≡ true → a ≡ b
unfolding is_same
same_punctuator a b h =
    let spelled : punctuator_spelling a ≡ punctuator_spelling b =
    (bytes_decides (punctuator_spelling a) (punctuator_spelling b)).0 h in
    let read : Some a ≡ Some b = sym (punctuator_read a) ∙ ap punctuator_of spelled ∙ punctuator_read b in
    cc

-- a punctuator is spelled as it is
pub is_itself : (a : Punctuator) → is_same a a ≡ true
unfolding is_same
is_itself a = (bytes_decides (punctuator_spelling a) (punctuator_spelling a)).1 refl

pub same_word : (a : Punctuator) (w : TokenKind) → is_punctuator a w ≡ true → w ≡ kinds.Punctuator a
same_word a (kinds.Punctuator b) h = ap (λ x. kinds.Punctuator x) (sym (same_punctuator a b h))
same_word a _ h = absurd (false≢true h)

-- a word that is this punctuator, with its position
pub same_positioned : (a : Punctuator) (w : TokenKind) (at : Position) (i : Words) → is_punctuator a w ≡ true
    → word_at w at ∷ i ≡ punctuator a at ∷ i
same_positioned a w at i h = ap (λ w. word_at w at ∷ i) (same_word a w h)

pub expect_gives : (a : Punctuator) (i : Words) → Gives (expect a i) (λ at r. i ≡ punctuator a at ∷ r)
unfolding expect
expect_gives a [] = gives_err []
expect_gives a (first ∷ i) = gives_if (λ h. gives_ok first.position i (same_positioned a first.kind first.position i h))
    (λ _. gives_err (first ∷ i))

pub identifier_gives : (i : Words) → Gives (identifier_from i) (λ x r. i ≡ identifier x ∷ r)
unfolding identifier_from
identifier_gives [] = gives_err []
identifier_gives (first ∷ i) = by_word first.kind first.position i
  where
    by_word : (w : TokenKind) (at : Position) (i : Words) → Gives (identifier_by w at i)
        (λ x r. word_at w at ∷ i ≡ identifier x ∷ r)
    by_word (kinds.Identifier s) at i = gives_ok (record { spelling = s; position = at }) i refl
    by_word w at i = gives_err (word_at w at ∷ i)

-- an identifier that is no typedef name
abbrev pub FoundOrdinary : List (List ℕ) → Words → Spelled → Words → Type 0
FoundOrdinary names i x r = (is_among x.spelling names ≡ false) × (i ≡ identifier x ∷ r)

pub ordinary_by_gives : (names : List (List ℕ)) (w : TokenKind) (at : Position) (i : Words)
    → Gives (ordinary_by names w at i) (FoundOrdinary names (word_at w at ∷ i))
ordinary_by_gives names (kinds.Identifier s) at i = gives_if (λ _. gives_err (word_at (kinds.Identifier s) at ∷ i))
    (λ h. gives_ok (record { spelling = s; position = at }) i (h, refl))
ordinary_by_gives names w at i = gives_err (word_at w at ∷ i)

pub ordinary_gives : (names : List (List ℕ)) (i : Words) → Gives (ordinary_from names i) (FoundOrdinary names i)
unfolding ordinary_from
ordinary_gives names [] = gives_err []
ordinary_gives names (first ∷ i) = ordinary_by_gives names first.kind first.position i

pub strings_gives : (i : Words) → Gives (strings_from i) (λ z r. i ≡ strings_words z r)
unfolding strings_from
strings_gives [] = gives_ok [] [] refl
strings_gives (first ∷ i) = by_word first.kind first.position i (strings_gives i)
  where
    by_word : (w : TokenKind) (at : Position) (i : Words) → Gives (strings_from i) (λ z r. i ≡ strings_words z r)
        → Gives (string_step w at i (strings_from i)) (λ z r. word_at w at ∷ i ≡ strings_words z r)
    by_word (kinds.StringLiteral s) at i others = gives_bind others λ z r h.
        gives_ok (record { spelling = s; position = at } ∷ z) r (ap (λ i. word_at (kinds.StringLiteral s) at ∷ i) h)
    by_word w at i others = gives_ok [] (word_at w at ∷ i) refl

pub consts_gives : (i : Words) → Gives (consts_from i) (λ z r. i ≡ const_words z r)
unfolding consts_from
consts_gives [] = gives_ok [] [] refl
consts_gives (first ∷ i) = by_word first.kind first.position i (consts_gives i)
  where
    by_word : (w : TokenKind) (at : Position) (i : Words) → Gives (consts_from i) (λ z r. i ≡ const_words z r)
        → Gives (const_step w at i (consts_from i)) (λ z r. word_at w at ∷ i ≡ const_words z r)
    by_word (kinds.Keyword k.Const) at i others = gives_bind others λ z r h.
        gives_ok (at ∷ z) r (ap (λ i. word_at (kinds.Keyword k.Const) at ∷ i) h)
    by_word w at i others = gives_ok [] (word_at w at ∷ i) refl

-- ---- lists

-- elements that are found one behind the other
abbrev pub FoundEach : {A : Type 0} → (Words → A → Words → Type 0) → Words → List A → Words → Type 0
FoundEach Found i [] r = i ≡ r
FoundEach Found i (x ∷ z) r = (j : Words) × Found i x j × FoundEach Found j z r

-- an element behind a comma
abbrev pub BehindComma : {A : Type 0} → (Words → A → Words → Type 0) → Words → Position × A → Words → Type 0
BehindComma Found i x r = (j : Words) × (i ≡ punctuator p.Comma x.0 ∷ j) × Found j x.1 r

-- elements behind commas, and then a last comma or none
abbrev pub FoundToBrace : {A : Type 0} → (Words → A → Words → Type 0) → Words → List (Position × A) × Option Position
    → Words → Type 0
FoundToBrace Found i z r = (j : Words) × FoundEach (BehindComma Found) i z.0 j × (j ≡ comma_words z.1 r)

module _ {A : Type 0} (Found : Words → A → Words → Type 0) (element : Reader A)
    (known : (i : Words) → Gives (element i) (Found i)) where
  pub behind_commas_gives : (n : ℕ) (i : Words) → Gives (behind_commas element n i) (FoundEach (BehindComma Found) i)
  unfolding behind_commas
  behind_commas_gives zero i = gives_ok [] i refl
  behind_commas_gives (suc n) [] = gives_ok [] [] refl
  behind_commas_gives (suc n) (first ∷ i) = gives_if
      (λ c. gives_bind (known i) λ x j f. gives_bind (behind_commas_gives n j) λ z r g.
      gives_ok ((first.position, x) ∷ z) r (j, (i, same_positioned p.Comma first.kind first.position i c, f), g))
      (λ _. gives_ok [] (first ∷ i) refl)

  pub to_brace_gives : (n : ℕ) (i : Words) → Gives (behind_commas_to_brace element n i) (FoundToBrace Found i)
  unfolding behind_commas_to_brace
  to_brace_gives zero i = gives_ok ([], None) i (i, refl, refl)
  to_brace_gives (suc n) [] = gives_ok ([], None) [] ([], refl, refl)
  to_brace_gives (suc n) (first ∷ i) = gives_if
      (λ c. gives_if
      (λ _. gives_ok ([], Some first.position) i (
        first ∷ i,
        refl,
        same_positioned p.Comma first.kind first.position i c,
      ))
      (λ _. gives_bind (known i) λ x j f. gives_bind (to_brace_gives n j) λ z r g.
      gives_ok ((first.position, x) ∷ z.0, z.1) r
      (g.0, (j, (i, same_positioned p.Comma first.kind first.position i c, f), g.1), g.2)))
      (λ _. gives_ok ([], None) (first ∷ i) (first ∷ i, refl, refl))

  pub up_to_brace_gives : (n : ℕ) (i : Words) → Gives (up_to_brace element n i) (FoundEach Found i)
  unfolding up_to_brace
  up_to_brace_gives zero i = gives_err i
  up_to_brace_gives (suc n) i = gives_if
      (λ _. gives_ok [] i refl)
      (λ _. gives_bind (known i) λ x j f. gives_bind (up_to_brace_gives n j) λ z r g. gives_ok (x ∷ z) r (j, f, g))
