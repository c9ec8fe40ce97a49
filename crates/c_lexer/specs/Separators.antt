-- White space and comments between tokens (C99 5.1.1.2, 6.4.9).
use Rattle.std.specs.Prelude.{ℕ, zero, suc, Bool, false, not, ◌&&◌, ◌||◌, if◌then◌else◌, ◌==◌, List, [], ◌∷◌, drop}
use Rattle.std.specs.Prelude.{length, Option, Some, None}
use Rattle.c_lexer.specs.Characters.{is_between, begins}

-- White space or a comment at the front of a text: what stands behind it, and whether it is a newline. Newlines inside
-- a comment, or behind a backslash, are passed with it and are no such newline.
pub record Separator : Type 0 where
  pub rest : List ℕ
  pub is_newline : Bool

abbrev pub passed : List ℕ → Option Separator
passed z = Some (record { rest = z; is_newline = false })

abbrev pub passed_if_some : Option (List ℕ) → Option Separator
passed_if_some None = None
passed_if_some (Some z) = passed z

-- a backslash ends the bytes a, b, or stands before a carriage return that does
abbrev pub joins : ℕ → ℕ → Bool
joins a b = b == 92 || (a == 92 && b == 13)

-- From the newline on that ends a `//` comment, a and b being the two bytes before. A newline behind a backslash joins
-- the next line to the comment.
abbrev pub line_comment_rest : ℕ → ℕ → List ℕ → List ℕ
line_comment_rest a b [] = []
line_comment_rest a b (c ∷ z) = if c == 10 && not (joins a b) then c ∷ z else line_comment_rest b c z

-- behind the first `*/`
abbrev pub block_comment_rest : List ℕ → Option (List ℕ)
block_comment_rest [] = None
block_comment_rest (b ∷ z) = if b == 42 && begins 47 z then Some (drop 1 z) else block_comment_rest z

-- space, horizontal tab, newline, vertical tab, form feed, carriage return
abbrev pub is_white_space : ℕ → Bool
is_white_space b = b == 32 || is_between 9 13 b

unfoldable pub comment : List ℕ → Option Separator
comment z =
    if begins 47 z then passed (line_comment_rest 47 47 (drop 1 z))
    else (if begins 42 z then passed_if_some (block_comment_rest (drop 1 z)) else None)

-- a newline, or a carriage return and a newline, behind a backslash
unfoldable pub joined_line : List ℕ → Option Separator
joined_line z =
    if begins 10 z then passed (drop 1 z)
    else (if begins 13 z && begins 10 (drop 1 z) then passed (drop 2 z) else None)

-- one byte of white space, one joined line or one comment
unfoldable pub separator : List ℕ → Option Separator
separator [] = None
separator (b ∷ z) =
    if is_white_space b then Some (record { rest = z; is_newline = b == 10 })
    else (if b == 47 then comment z else (if b == 92 then joined_line z else None))

-- what stands behind the separators at the front, and whether one of them is a newline
pub record Gap : Type 0 where
  pub rest : List ℕ
  pub has_newline : Bool

abbrev pub gap_by : Bool → List ℕ → Option Separator → (Bool → List ℕ → Gap) → Gap
gap_by found z None more = record { rest = z; has_newline = found }
gap_by found z (Some s) more = more (found || s.is_newline) s.rest

-- the number bounds the separators; found: a newline was already found
abbrev pub gap_to : ℕ → Bool → List ℕ → Gap
gap_to zero found z = record { rest = z; has_newline = found }
gap_to (suc n) found z = gap_by found z (separator z) (gap_to n)

-- each separator has at least one byte
unfoldable pub gap : Bool → List ℕ → Gap
gap found z = gap_to (length z) found z
