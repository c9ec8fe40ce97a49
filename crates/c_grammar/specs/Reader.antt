-- Readers of words: what one gives is a value and the words behind it, or the words from the refused one on. A reader
-- looks at the next word alone, takes it, or refuses there.
use Rattle.std.specs.Prelude.{ℕ, zero, suc, Bool, true, false, bytes_eq, if◌then◌else◌, List, [], ◌∷◌, Result, Ok, Err}
use Rattle.std.specs.Prelude.{Option, Some, None}
use Rattle.c_lexer.specs.Spellings.{punctuator_spelling}
use Rattle.c_lexer.specs.declared.keyword.Keyword.TheVariants as k
use Rattle.c_lexer.specs.declared.punctuator.Punctuator.{Punctuator}
use Rattle.c_lexer.specs.declared.punctuator.Punctuator.TheVariants as p
use Rattle.c_lexer.specs.declared.token.TokenKind.{TokenKind}
use Rattle.c_lexer.specs.declared.token.TokenKind.TheVariants as kinds
use Rattle.c_syntax.specs.declared.position.Position.{Position}
use Rattle.c_syntax.specs.declared.position.Spelled.{Spelled}
use Rattle.c_syntax.specs.Words.{Words, word_at}
use Rattle.c_syntax.specs.Formed.{is_among}

-- what a reader gives
abbrev pub Outcome : Type 0 → Type 0
Outcome A = Result (A × Words) Words

abbrev pub Reader : Type 0 → Type 0
Reader A = Words → Outcome A

-- one reader, and then another
infixl 10 ◌>>=◌
abbrev pub ◌>>=◌ : {A B : Type 0} → Outcome A → (A → Words → Outcome B) → Outcome B
(Ok x) >>= f = f x.0 x.1
(Err e) >>= f = Err e

-- spelled alike
unfoldable pub is_same : Punctuator → Punctuator → Bool
is_same a b = bytes_eq (punctuator_spelling a) (punctuator_spelling b)

-- the word is this punctuator
abbrev pub is_punctuator : Punctuator → TokenKind → Bool
is_punctuator a (kinds.Punctuator b) = is_same a b
is_punctuator a _ = false

-- the word is `else`
abbrev pub is_else : TokenKind → Bool
is_else (kinds.Keyword k.Else) = true
is_else _ = false

-- the word is `while`
abbrev pub is_while : TokenKind → Bool
is_while (kinds.Keyword k.While) = true
is_while _ = false

-- the next word is one of these
abbrev pub next_is : (TokenKind → Bool) → Words → Bool
next_is is [] = false
next_is is (first ∷ i) = is first.kind

-- the next word is this punctuator
abbrev pub next_is_punctuator : Punctuator → Words → Bool
next_is_punctuator a i = next_is (is_punctuator a) i

-- takes a word of these
abbrev pub take_word : (TokenKind → Bool) → Words → Outcome Position
take_word is [] = Err []
take_word is (first ∷ i) = if is first.kind then Ok (first.position, i) else Err (first ∷ i)

-- takes this punctuator
unfoldable pub expect : Punctuator → Words → Outcome Position
expect a i = take_word (is_punctuator a) i

-- an identifier, which may be a typedef name
abbrev pub identifier_by : TokenKind → Position → Words → Outcome Spelled
identifier_by (kinds.Identifier s) at i = Ok (record { spelling = s; position = at }, i)
identifier_by w at i = Err (word_at w at ∷ i)

-- takes an identifier, which may be a typedef name
unfoldable pub identifier_from : Words → Outcome Spelled
identifier_from [] = Err []
identifier_from (first ∷ i) = identifier_by first.kind first.position i

-- an identifier that is no typedef name
abbrev pub ordinary_by : List (List ℕ) → TokenKind → Position → Words → Outcome Spelled
ordinary_by names (kinds.Identifier s) at i = if is_among s names then Err (word_at (kinds.Identifier s) at ∷ i) else Ok
    (record { spelling = s; position = at }, i)
ordinary_by names w at i = Err (word_at w at ∷ i)

-- takes an identifier that is no typedef name
unfoldable pub ordinary_from : List (List ℕ) → Words → Outcome Spelled
ordinary_from names [] = Err []
ordinary_from names (first ∷ i) = ordinary_by names first.kind first.position i

-- the string literals that stand next
abbrev pub string_step : TokenKind → Position → Words → Outcome (List Spelled) → Outcome (List Spelled)
string_step (kinds.StringLiteral s) at i others = others >>= λ z i. Ok (record { spelling = s; position = at } ∷ z, i)
string_step w at i others = Ok ([], word_at w at ∷ i)

-- takes the string literals that stand next
unfoldable pub strings_from : Words → Outcome (List Spelled)
strings_from [] = Ok ([], [])
strings_from (first ∷ i) = string_step first.kind first.position i (strings_from i)

-- the words `const` that stand next
abbrev pub const_step : TokenKind → Position → Words → Outcome (List Position) → Outcome (List Position)
const_step (kinds.Keyword k.Const) at i others = others >>= λ z i. Ok (at ∷ z, i)
const_step w at i others = Ok ([], word_at w at ∷ i)

-- takes the words `const` that stand next
unfoldable pub consts_from : Words → Outcome (List Position)
consts_from [] = Ok ([], [])
consts_from (first ∷ i) = const_step first.kind first.position i (consts_from i)

-- elements, each behind a comma; the number bounds how many
unfoldable pub behind_commas : {A : Type 0} → Reader A → ℕ → Words → Outcome (List (Position × A))
behind_commas element zero i = Ok ([], i)
behind_commas element (suc n) [] = Ok ([], [])
behind_commas element (suc n) (first ∷ i) =
    if is_punctuator p.Comma first.kind
    then (element i >>= λ x i. behind_commas element n i >>= λ z i. Ok ((first.position, x) ∷ z, i))
    else Ok ([], first ∷ i)

-- the same, where a last comma may stand before `}`
unfoldable pub behind_commas_to_brace : {A : Type 0} → Reader A → ℕ → Words
    → Outcome (List (Position × A) × Option Position)
behind_commas_to_brace element zero i = Ok (([], None), i)
behind_commas_to_brace element (suc n) [] = Ok (([], None), [])
behind_commas_to_brace element (suc n) (first ∷ i) =
    if is_punctuator p.Comma first.kind
    then (
    if next_is_punctuator p.RightBrace i
    then Ok (([], Some first.position), i)
    else (element i >>= λ x i. behind_commas_to_brace element n i >>= λ z i. Ok (((first.position, x) ∷ z.0, z.1), i)))
    else Ok (([], None), first ∷ i)

-- elements up to `}`; the number bounds how many
unfoldable pub up_to_brace : {A : Type 0} → Reader A → ℕ → Words → Outcome (List A)
up_to_brace element zero i = Err i
up_to_brace element (suc n) i =
    if next_is_punctuator p.RightBrace i
    then Ok ([], i)
    else (element i >>= λ x i. up_to_brace element n i >>= λ z i. Ok (x ∷ z, i))
