-- The token at the front of a text, as it is found from left to right. `longest` (Longest.antt) is what is meant.
use Rattle.std.specs.Prelude.{ℕ, suc, ◌+◌, if◌then◌else◌, ◌==◌, List, [], ◌∷◌, take, length, Option, Some, None}
use Rattle.std.specs.List.{prefix_len, find, starts_with}
use Rattle.std.specs.Prelude.{nat_eq}
use Rattle.c_lexer.specs.declared.token.TokenKind.{TokenKind}
use Rattle.c_lexer.specs.declared.token.TokenKind.TheVariants as kinds
use Rattle.c_lexer.specs.declared.punctuator.Punctuator.{Punctuator}
use Rattle.c_lexer.specs.declared.punctuator.TheConstants.{PUNCTUATORS}
use Rattle.c_lexer.specs.declared.literal.LiteralState.{LiteralState}
use Rattle.c_lexer.specs.declared.literal.LiteralState.TheVariants.{Start}
use Rattle.c_lexer.specs.declared.literal.LiteralStep.{LiteralStep}
use Rattle.c_lexer.specs.declared.literal.LiteralStep.TheVariants.{Refused, Closes, Begins, Continues}
use Rattle.c_lexer.specs.Characters.{is_nondigit, continues_identifier}
use Rattle.c_lexer.specs.Literals.{literal_step}
use Rattle.c_lexer.specs.Spellings.{keyword_of, punctuator_spelling}
use Rattle.c_lexer.specs.Words.{continues_number, begins_number, is_character, named}

-- how many bytes go on with a number
abbrev pub number_length : ℕ → List ℕ → ℕ
number_length before [] = 0
number_length before (b ∷ z) = if continues_number before b then suc (number_length b z) else 0

abbrev pub longer : Option ℕ → Option ℕ
longer None = None
longer (Some n) = Some (suc n)

abbrev pub closing_by : LiteralStep → (LiteralState → Option ℕ) → Option ℕ
closing_by Refused more = None
closing_by Closes more = Some 1
closing_by (Begins s) more = longer (more s)
closing_by (Continues s) more = longer (more s)

-- how many bytes there are to the closing quote, with it
abbrev pub closing_length : ℕ → LiteralState → List ℕ → Option ℕ
closing_length quote s [] = None
closing_length quote s (b ∷ z) = closing_by (literal_step quote s b) (λ t. closing_length quote t z)

-- by n bytes
abbrev pub longer_by : ℕ → Option ℕ → Option ℕ
longer_by n None = None
longer_by n (Some m) = Some (n + m)

abbrev pub if_character : List ℕ → Option ℕ → Option ℕ
if_character z None = None
if_character z (Some n) = if is_character (take n z) then Some n else None

-- the length of the character constant or string literal at the front
unfoldable pub literal_length : List ℕ → Option ℕ
literal_length [] = None
literal_length (b ∷ z) =
    if b == 34 then longer (closing_length 34 Start z)
    else (if b == 39 then if_character (b ∷ z) (longer (closing_length 39 Start z)) else None)

abbrev pub cut : (List ℕ → TokenKind) → List ℕ → Option ℕ → Option (TokenKind × ℕ)
cut make z None = None
cut make z (Some n) = Some (make (take n z), n)

-- the first punctuator of the table, in which the longer ones stand first, that the text begins with
abbrev pub punctuator_found : Option Punctuator → Option (TokenKind × ℕ)
punctuator_found None = None
punctuator_found (Some p) = Some (kinds.Punctuator p, length (punctuator_spelling p))

unfoldable pub scan_punctuator : List ℕ → Option (TokenKind × ℕ)
scan_punctuator z = punctuator_found (find (λ p. starts_with nat_eq z (punctuator_spelling p)) PUNCTUATORS)

-- of a text that begins with a nondigit
unfoldable pub scan_identifier : List ℕ → TokenKind × ℕ
scan_identifier z =
    let n = prefix_len continues_identifier z in
    (named (take n z) (keyword_of (take n z)), n)

abbrev pub wide_or_identifier : List ℕ → Option ℕ → TokenKind × ℕ
wide_or_identifier z None = scan_identifier z
wide_or_identifier z (Some n) = (kinds.Wide (take (suc n) z), suc n)

unfoldable pub scan_name : List ℕ → TokenKind × ℕ
scan_name [] = scan_identifier []
scan_name (b ∷ z) = if b == 76 then wide_or_identifier (b ∷ z) (literal_length z) else scan_identifier (b ∷ z)

-- of a text that begins with a number
unfoldable pub scan_number : ℕ → List ℕ → TokenKind × ℕ
scan_number b z =
    let n = suc (number_length b z) in
    (kinds.Integer (take n (b ∷ z)), n)

unfoldable pub scan : List ℕ → Option (TokenKind × ℕ)
scan [] = None
scan (b ∷ z) =
    if is_nondigit b then Some (scan_name (b ∷ z))
    else (if begins_number b z then Some (scan_number b z)
    else (if b == 34 then cut kinds.StringLiteral (b ∷ z) (literal_length (b ∷ z))
    else (if b == 39 then cut kinds.Character (b ∷ z) (literal_length (b ∷ z))
    else scan_punctuator (b ∷ z))))
