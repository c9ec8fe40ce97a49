-- Character constants and string literals, read byte by byte (C99 6.4.4.4, 6.4.5). Any byte but a newline, the closing
-- quote and a backslash stands for itself.
use Rattle.std.specs.Prelude.{ℕ, ◌+◌, ◌*◌, ◌&&◌, if◌then◌else◌, ◌==◌, nat_le, nat_lt, List, [], ◌∷◌, ◌++◌, Option, Some}
use Rattle.std.specs.Prelude.{None}
use Rattle.c_lexer.specs.declared.literal.LiteralState.{LiteralState}
use Rattle.c_lexer.specs.declared.literal.LiteralState.TheVariants.{Start, Character, Escape, Octal, HexadecimalStart}
use Rattle.c_lexer.specs.declared.literal.LiteralState.TheVariants.{Hexadecimal}
use Rattle.c_lexer.specs.declared.literal.LiteralStep.{LiteralStep}
use Rattle.c_lexer.specs.declared.literal.LiteralStep.TheVariants.{Refused, Closes, Begins, Continues}
use Rattle.c_lexer.specs.Characters.{is_octal_digit, is_hexadecimal_digit, digit_value}

-- the value of a simple escape sequence, by the byte behind its backslash
unfoldable pub simple_escape : ℕ → Option ℕ
simple_escape b =
    if b == 39 then Some 39  -- \'
    else (if b == 34 then Some 34  -- \"
    else (if b == 63 then Some 63  -- \?
    else (if b == 92 then Some 92  -- \\
    else (if b == 97 then Some 7  -- \a
    else (if b == 98 then Some 8  -- \b
    else (if b == 102 then Some 12  -- \f
    else (if b == 110 then Some 10  -- \n
    else (if b == 114 then Some 13  -- \r
    else (if b == 116 then Some 9  -- \t
    else (if b == 118 then Some 11  -- \v
    else None))))))))))

-- where a character may begin
unfoldable pub next_character : ℕ → ℕ → LiteralStep
next_character quote b =
    if b == quote then Closes
    else (if b == 10 then Refused else (if b == 92 then Begins Escape else Begins (Character b)))

abbrev pub simple : Option ℕ → LiteralStep
simple None = Refused
simple (Some v) = Continues (Character v)

-- behind a backslash
unfoldable pub escaped : ℕ → LiteralStep
escaped b =
    if is_octal_digit b then Continues (Octal 1 (digit_value b))
    else (if b == 120 then Continues HexadecimalStart else simple (simple_escape b))

-- an escape sequence has at most the value 255
abbrev pub within_byte : ℕ → LiteralState → LiteralStep
within_byte v state = if nat_le v 255 then Continues state else Refused

unfoldable pub octal : ℕ → ℕ → ℕ → ℕ → LiteralStep
octal quote digits v b =
    if nat_lt digits 3 && is_octal_digit b then within_byte (8 * v + digit_value b)
    (Octal (digits + 1) (8 * v + digit_value b))
    else next_character quote b

unfoldable pub hexadecimal : ℕ → ℕ → ℕ → LiteralStep
hexadecimal quote v b =
    if is_hexadecimal_digit b then within_byte (16 * v + digit_value b) (Hexadecimal (16 * v + digit_value b))
    else next_character quote b

-- what a byte is, behind bytes that left this state
unfoldable pub literal_step : ℕ → LiteralState → ℕ → LiteralStep
literal_step quote Start b = next_character quote b
literal_step quote (Character v) b = next_character quote b
literal_step quote Escape b = escaped b
literal_step quote (Octal digits v) b = octal quote digits v b
literal_step quote HexadecimalStart b = if is_hexadecimal_digit b then Continues (Hexadecimal (digit_value b)) else
    Refused
literal_step quote (Hexadecimal v) b = hexadecimal quote v b

-- the character that ends where the next one begins, or the literal closes
abbrev pub ended : LiteralState → List ℕ
ended Start = []
ended (Character v) = v ∷ []
ended Escape = []
ended (Octal digits v) = v ∷ []
ended HexadecimalStart = []
ended (Hexadecimal v) = v ∷ []

abbrev pub listed : Option ℕ → List ℕ
listed None = []
listed (Some v) = v ∷ []

abbrev pub behind : List ℕ → Option (List ℕ) → Option (List ℕ)
behind front None = None
behind front (Some more) = Some (front ++ more)

abbrev pub at_end : List ℕ → List ℕ → Option (List ℕ)
at_end last [] = Some last
at_end last (b ∷ z) = None

abbrev pub characters_by : LiteralStep → LiteralState → (LiteralState → Option (List ℕ)) → List ℕ → Option (List ℕ)
characters_by Refused s more z = None
characters_by Closes s more z = at_end (ended s) z
characters_by (Begins t) s more z = behind (ended s) (more t)
characters_by (Continues t) s more z = more t

-- the values of the characters of a literal, where these bytes are its rest with the closing quote
abbrev pub characters_from : ℕ → LiteralState → List ℕ → Option (List ℕ)
characters_from quote s [] = None
characters_from quote s (b ∷ z) = characters_by (literal_step quote s b) s (λ t. characters_from quote t z) z

-- the values of the characters between two such quotes, where these bytes are a literal
unfoldable pub characters_of : ℕ → List ℕ → Option (List ℕ)
characters_of quote [] = None
characters_of quote (b ∷ z) = if b == quote then characters_from quote Start z else None

abbrev pub only : List ℕ → Option ℕ
only [] = None
only (v ∷ []) = Some v
only (v ∷ w ∷ z) = None

abbrev pub only_one : Option (List ℕ) → Option ℕ
only_one None = None
only_one (Some z) = only z

-- the value of a character constant of one character that is all of these bytes
unfoldable pub character_value : List ℕ → Option ℕ
character_value z = only_one (characters_of 39 z)

-- the bytes, without the final 0, of a string literal that is all of these bytes
unfoldable pub bytes_of_literal : List ℕ → Option (List ℕ)
bytes_of_literal z = characters_of 34 z
