-- The token that is all of some bytes (C99 6.4).
-- Left out: a backslash and a newline inside a token other than a comment, so that the backslash ends the token, and
-- begins none; `##`, which is two `#`; digraphs, trigraphs, universal character names, and letters outside ASCII.
-- A wide literal that is no token leaves its `L`, an identifier, and its quote, which begins none.
use Rattle.std.specs.Prelude.{ℕ, Bool, true, false, ◌&&◌, ◌||◌, if◌then◌else◌, ◌==◌, List, [], ◌∷◌, Option, Some, None}
use Rattle.std.specs.Prelude.{is_some}
use Rattle.std.specs.List.{list_all}
use Rattle.c_lexer.specs.declared.keyword.Keyword.{Keyword}
use Rattle.c_lexer.specs.declared.punctuator.Punctuator.{Punctuator}
use Rattle.c_lexer.specs.declared.token.TokenKind.{TokenKind}
use Rattle.c_lexer.specs.declared.token.TokenKind.TheVariants as kinds
use Rattle.c_lexer.specs.Characters.{is_digit, is_nondigit, continues_identifier}
use Rattle.c_lexer.specs.Literals.{character_value, bytes_of_literal}
use Rattle.c_lexer.specs.Spellings.{keyword_spelling, keyword_of, punctuator_spelling, punctuator_of}

-- C99 6.4.2.1, a keyword or not
abbrev pub is_identifier : List ℕ → Bool
is_identifier [] = false
is_identifier (b ∷ z) = is_nondigit b && list_all continues_identifier z

abbrev pub is_exponent : ℕ → Bool
is_exponent b = b == 101 || (b == 69 || (b == 112 || b == 80))

-- what a number goes on with behind a byte
abbrev pub continues_number : ℕ → ℕ → Bool
continues_number before b = continues_identifier b || (b == 46 || ((b == 43 || b == 45) && is_exponent before))

abbrev pub all_continue_number : ℕ → List ℕ → Bool
all_continue_number before [] = true
all_continue_number before (b ∷ z) = continues_number before b && all_continue_number b z

abbrev pub begins_digit : List ℕ → Bool
begins_digit [] = false
begins_digit (b ∷ z) = is_digit b

-- a digit, or `.` and a digit
abbrev pub begins_number : ℕ → List ℕ → Bool
begins_number b z = is_digit b || (b == 46 && begins_digit z)

-- a preprocessing number (C99 6.4.8)
abbrev pub is_number : List ℕ → Bool
is_number [] = false
is_number (b ∷ z) = begins_number b z && all_continue_number b z

-- a character constant of one character
abbrev pub is_character : List ℕ → Bool
is_character z = is_some (character_value z)

abbrev pub is_string : List ℕ → Bool
is_string z = is_some (bytes_of_literal z)

abbrev pub is_literal : List ℕ → Bool
is_literal z = is_character z || is_string z

-- an `L` directly before a character constant or a string literal
abbrev pub is_wide : List ℕ → Bool
is_wide [] = false
is_wide (b ∷ z) = b == 76 && is_literal z

abbrev pub named : List ℕ → Option Keyword → TokenKind
named z None = kinds.Identifier z
named z (Some k) = kinds.Keyword k

abbrev pub punctuated : Option Punctuator → Option TokenKind
punctuated None = None
punctuated (Some p) = Some (kinds.Punctuator p)

-- the word that all of these bytes spell; a number is judged later
unfoldable pub word_of : List ℕ → Option TokenKind
word_of z =
    if is_identifier z then Some (named z (keyword_of z))
    else (if is_number z then Some (kinds.Integer z)
    else (if is_character z then Some (kinds.Character z)
    else (if is_string z then Some (kinds.StringLiteral z)
    else (if is_wide z then Some (kinds.Wide z)
    else punctuated (punctuator_of z)))))

-- the bytes of a word
abbrev pub spelling_of : TokenKind → List ℕ
spelling_of (kinds.Identifier z) = z
spelling_of (kinds.Keyword k) = keyword_spelling k
spelling_of (kinds.Integer z) = z
spelling_of (kinds.Character z) = z
spelling_of (kinds.StringLiteral z) = z
spelling_of (kinds.Wide z) = z
spelling_of (kinds.Punctuator p) = punctuator_spelling p
