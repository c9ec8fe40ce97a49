-- Listings: the text of a file with ranges of code, and the bytes of a text.
use Rattle.std.specs.Prelude.{◌≡◌, ℕ, ◌+◌, ◌-◌, Bool, ◌&&◌, ◌==◌, nat_le, if◌then◌else◌, List, []}
use Rattle.std.specs.Prelude.{◌∷◌, ◌++◌}
use Rattle.std.specs.Prelude.{length, map, flat_map, Option, Some, None, Result, Ok, Err}
use Rattle.std.specs.List.{list_any}
use Rattle.byteorder.specs.Endian.{little_number}
use Rattle.rv_isa.specs.Decoding.{decoded}
use Rattle.rv_isa.specs.declared.instruction.Instr.{Instr}
use Rattle.rv_listing.specs.declared.fault.ListFault.{ListFault}
use Rattle.rv_listing.specs.declared.fault.ListFault.TheVariants as fault
use Rattle.rv_listing.specs.declared.fault.ListRefusal.{ListRefusal}
use Rattle.rv_listing.specs.declared.fault.ListRefusal.TheVariants as refusal
use Rattle.rv_listing.specs.Lines.{Piece, image, instruction, zeros, group, line_text, image_in, read_line}

-- The pieces of a file: its words of four bytes, counted from its start, and what is left of it.

-- A range of code is its first place in the file and how many bytes it has. A word is code where it lies wholly in one.
abbrev pub holds_word : (place : ℕ) → ℕ × ℕ → Bool
holds_word place range = nat_le range.0 place && nat_le (place + 4) (range.0 + range.1)

unfoldable pub is_code : List (ℕ × ℕ) → (place : ℕ) → Bool
is_code ranges place = list_any (holds_word place) ranges

abbrev pub by_instruction : List ℕ → Option Instr → Piece
by_instruction word (Some i) = instruction i
by_instruction word None = if little_number 4 word == 0 then zeros 4 else group word

unfoldable pub word_piece : (is_code : Bool) → List ℕ → Piece
word_piece is_code word = by_instruction word (if is_code then decoded (little_number 4 word) else None)

unfoldable pub words : List (ℕ × ℕ) → (place : ℕ) → List ℕ → List Piece
words ranges place [] = []
words ranges place (a ∷ []) = group (a ∷ []) ∷ []
words ranges place (a ∷ b ∷ []) = group (a ∷ b ∷ []) ∷ []
words ranges place (a ∷ b ∷ c ∷ []) = group (a ∷ b ∷ c ∷ []) ∷ []
words ranges place (a ∷ b ∷ c ∷ d ∷ bs) =
    word_piece (is_code ranges place) (a ∷ b ∷ c ∷ d ∷ []) ∷ words ranges (place + 4) bs

-- zeros that stand beside zeros are one run with them
unfoldable pub with_piece : Piece → List Piece → List Piece
with_piece (zeros n) (zeros m ∷ ps) = zeros (n + m) ∷ ps
with_piece p ps = p ∷ ps

unfoldable pub merged : List Piece → List Piece
merged [] = []
merged (p ∷ ps) = with_piece p (merged ps)

-- with a run of zeros before it
abbrev pub with_zeros : ℕ → List Piece → List Piece
with_zeros n ps = if n == 0 then ps else with_piece (zeros n) ps

-- The listing of a file.
unfoldable pub listing : (bytes : List ℕ) → (ranges : List (ℕ × ℕ)) → List Piece
listing bytes ranges = image (length bytes) ∷ merged (words ranges 0 bytes)

unfoldable pub text_of : List Piece → List ℕ
text_of ps = flat_map line_text ps

-- the line of a run of zeros, where there are some
abbrev pub zeros_text : ℕ → List ℕ
zeros_text n = if n == 0 then [] else line_text (zeros n)

unfoldable pub listing_text : (bytes : List ℕ) → (ranges : List (ℕ × ℕ)) → List ℕ
listing_text bytes ranges = text_of (listing bytes ranges)

-- The way back.

-- the lines of a text that end with a newline, without it, and what stands behind the last of them
abbrev pub before_lines : ℕ → List (List ℕ) × List ℕ → List (List ℕ) × List ℕ
before_lines c ([], rest) = ([], c ∷ rest)
before_lines c (l ∷ ls, rest) = ((c ∷ l) ∷ ls, rest)

unfoldable pub lines_of : List ℕ → List (List ℕ) × List ℕ
lines_of [] = ([], [])
lines_of (c ∷ cs) = if c == 10 then ([] ∷ (lines_of cs).0, (lines_of cs).1) else before_lines c (lines_of cs)

-- the bytes of a text, or the first line at fault and what is wrong with it
abbrev pub Reading : Type 0
Reading = Result (List ℕ) (ListFault × ℕ)

unfoldable pub behind : List ℕ → Reading → Reading
behind bs (Ok cs) = Ok (bs ++ cs)
behind bs (Err e) = Err e

-- after the last line there is no room left, and nothing stands there
unfoldable pub at_end : (number room : ℕ) → List ℕ → Reading
at_end number room [] = if room == 0 then Ok [] else Err (fault.Length, number)
at_end number room (c ∷ cs) = Err (fault.Form, number)

-- the bytes of a line where there is room for them, and what is read of the others
unfoldable pub if_line : (number room : ℕ) → Result (List ℕ) ListFault → ((room : ℕ) → Reading) → Reading
if_line number room (Err e) next = Err (e, number)
if_line number room (Ok bs) next =
    if nat_le (length bs) room then behind bs (next (room - length bs)) else Err (fault.Length, number)

unfoldable pub read_lines : (number room : ℕ) → List (List ℕ) → List ℕ → Reading
read_lines number room [] rest = at_end number room rest
read_lines number room (l ∷ ls) rest = if_line number room (read_line l) (λ left. read_lines (number + 1) left ls rest)

abbrev pub if_image : Result ℕ ListFault → List (List ℕ) → List ℕ → Reading
if_image (Ok size) ls rest = read_lines 2 size ls rest
if_image (Err e) ls rest = Err (e, 1)

unfoldable pub read_all : List (List ℕ) × List ℕ → Reading
read_all ([], rest) = Err (fault.Form, 1)
read_all (l ∷ ls, rest) = if_image (image_in l) ls rest

-- What a text is read as.
unfoldable pub read_listing : List ℕ → Reading
read_listing text = read_all (lines_of text)

-- a refusal is want of memory, or what the reading tells
abbrev pub Refuses : Reading → ListRefusal → Type 0
Refuses reading (refusal.Fault kind line) = reading ≡ Err (kind, line)
Refuses reading refusal.Memory = Unit {0}

abbrev pub Reads : {X : Type 0} → (X → List ℕ) → Reading → Result X ListRefusal → Type 0
Reads view reading (Ok x) = reading ≡ Ok (view x)
Reads view reading (Err e) = Refuses reading e

-- What is accepted: its first line tells how many bytes there are, each other line is read as some of them, and these
-- are all of them, one after the other.
pub record Accepts (text bytes : List ℕ) : Type 0 where
  pub first : List ℕ
  pub others : List (List ℕ)
  pub parts : List (List ℕ)
  pub lines : lines_of text ≡ (first ∷ others, [])
  pub size : image_in first ≡ Ok (length bytes)
  pub read : map read_line others ≡ map Ok parts
  pub concatenated : bytes ≡ flat_map (λ part. part) parts
