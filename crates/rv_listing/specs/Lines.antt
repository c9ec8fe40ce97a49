-- Lines of a listing: what each piece of a file is written as, and which bytes a line has.
use Rattle.std.specs.Prelude.{◌≡◌, ℕ, ◌+◌, ◌-◌, ◌*◌, ◌/◌, ◌%◌, ◌≤◌, Bool, not, ◌&&◌, ◌||◌}
use Rattle.std.specs.Prelude.{◌==◌, nat_eq, nat_le}
use Rattle.std.specs.Prelude.{nat_lt, if◌then◌else◌, List, [], ◌∷◌, ◌++◌, length, take, drop, replicate, flat_map, codes}
use Rattle.std.specs.Prelude.{Option, Some, None, option_map, Result, Ok, Err, decimal}
use Rattle.std.specs.List.{starts_with}
use Rattle.byteorder.specs.Endian.{little_bytes}
use Rattle.rv_isa.specs.Table.{word_of}
use Rattle.rv_isa.specs.declared.instruction.Instr.{Instr}
use Rattle.rv_listing.specs.declared.fault.ListFault.{ListFault}
use Rattle.rv_listing.specs.declared.fault.ListFault.TheVariants as fault
use Rattle.rv_listing.specs.declared.line.Line.{Line}
use Rattle.rv_listing.specs.declared.line.Line.TheVariants as line
use Rattle.rv_listing.specs.declared.mnemonic.Mnemonic.{Mnemonic}
use Rattle.rv_listing.specs.declared.operands.Shape.{Shape}
use Rattle.rv_listing.specs.declared.operands.Shape.TheVariants.{Empty, Pair, Triple, Based}
use Rattle.rv_listing.specs.Fields.{cut, operands_text, read_operands, signed_in}
use Rattle.rv_listing.specs.Names.{name_of, shape_of, named}
use Rattle.rv_listing.specs.Operands.{operands, mnemonic_of, operands_of, instruction_of}

-- A piece of a listing: how many bytes the whole file has, an instruction, a run of zeros, and one to four bytes.
pub data Piece : Type 0 where
  image : ℕ → Piece
  instruction : Instr → Piece
  zeros : ℕ → Piece
  group : List ℕ → Piece

unfoldable pub instruction_bytes : Instr → List ℕ
instruction_bytes i = little_bytes 4 (word_of i)

unfoldable pub piece_bytes : Piece → List ℕ
piece_bytes (image n) = []
piece_bytes (instruction i) = instruction_bytes i
piece_bytes (zeros n) = replicate n 0
piece_bytes (group bs) = bs

-- the text

unfoldable pub instruction_text : Instr → List ℕ
instruction_text i = name_of (mnemonic_of i) ++ operands_text (shape_of (mnemonic_of i)) (operands_of i)

abbrev pub hexadecimal_digit : ℕ → ℕ
hexadecimal_digit n = if nat_lt n 10 then 48 + n else 87 + n

-- a space and two digits
unfoldable pub byte_text : ℕ → List ℕ
byte_text b = 32 ∷ hexadecimal_digit (b / 16) ∷ hexadecimal_digit (b % 16) ∷ []

unfoldable pub piece_text : Piece → List ℕ
piece_text (image n) = codes ".image " ++ decimal n
piece_text (instruction i) = instruction_text i
piece_text (zeros n) = codes ".zero " ++ decimal n
piece_text (group bs) = codes ".byte" ++ flat_map byte_text bs

-- with its newline
abbrev pub line_text : Piece → List ℕ
line_text p = piece_text p ++ (10 ∷ [])

-- the way back, of a line without its newline

-- the count of `.image` and `.zero`, 1 to 64 MiB
abbrev pub size_of : Option (Bool × ℕ) → Result ℕ ListFault
size_of None = Err fault.Form
size_of (Some (sign, n)) = if not sign && (nat_le 1 n && nat_le n 67108864) then Ok n else Err fault.Range

unfoldable pub size_in : List ℕ → Result ℕ ListFault
size_in cs = size_of (signed_in cs)

-- the first line
unfoldable pub image_in : List ℕ → Result ℕ ListFault
image_in cs = if starts_with nat_eq cs (codes ".image ") then size_in (drop 7 cs) else Err fault.Form

abbrev pub is_hexadecimal : ℕ → Bool
is_hexadecimal c = (nat_le 48 c && nat_le c 57) || (nat_le 97 c && nat_le c 102)

abbrev pub hexadecimal_value : ℕ → ℕ
hexadecimal_value c = if nat_le c 57 then c - 48 else c - 87

-- a byte is a space and two digits
abbrev pub byte_in : (space high low : ℕ) → Option ℕ
byte_in space high low =
    if (space == 32) && (is_hexadecimal high && is_hexadecimal low)
    then Some (hexadecimal_value high * 16 + hexadecimal_value low) else None

abbrev pub with_byte : Option ℕ → Option (List ℕ) → Option (List ℕ)
with_byte None bs = None
with_byte (Some b) bs = option_map (λ cs. b ∷ cs) bs

unfoldable pub bytes_in : List ℕ → Option (List ℕ)
bytes_in [] = Some []
bytes_in (a ∷ []) = None
bytes_in (a ∷ b ∷ []) = None
bytes_in (a ∷ b ∷ c ∷ cs) = with_byte (byte_in a b c) (bytes_in cs)

abbrev pub unless_form : Option (List ℕ) → Result (List ℕ) ListFault
unless_form None = Err fault.Form
unless_form (Some bs) = Ok bs

-- one to four bytes, each of three characters
unfoldable pub group_in : List ℕ → Result (List ℕ) ListFault
group_in cs = if nat_le 1 (length cs) && nat_le (length cs) 12 then unless_form (bytes_in cs) else Err fault.Form

abbrev pub if_ok : {A B : Type 0} → (A → Result B ListFault) → Result A ListFault → Result B ListFault
if_ok f (Ok x) = f x
if_ok f (Err e) = Err e

-- a name alone, and one with operands

abbrev pub alone : Mnemonic → Shape → Result Instr ListFault
alone m Empty = Ok (instruction_of m (operands 0 0 0))
alone m (Pair f) = Err fault.Form
alone m (Triple f) = Err fault.Form
alone m Based = Err fault.Form

abbrev pub named_alone : Option Mnemonic → Result Instr ListFault
named_alone None = Err fault.Form
named_alone (Some m) = alone m (shape_of m)

abbrev pub named_with : Option Mnemonic → List ℕ → Result Instr ListFault
named_with None cs = Err fault.Form
named_with (Some m) cs = if_ok (λ o. Ok (instruction_of m o)) (read_operands (shape_of m) cs)

abbrev pub in_parts : List ℕ → Option (List ℕ × List ℕ) → Result Instr ListFault
in_parts cs None = named_alone (named cs)
in_parts cs (Some p) = named_with (named p.0) p.1

unfoldable pub read_instruction : List ℕ → Result Instr ListFault
read_instruction cs = in_parts cs (cut 32 cs)

-- the bytes of a line behind the first
unfoldable pub read_line : List ℕ → Result (List ℕ) ListFault
read_line cs =
    if starts_with nat_eq cs (codes ".zero ") then if_ok (λ n. Ok (replicate n 0)) (size_in (drop 6 cs)) else
    (if starts_with nat_eq cs (codes ".byte") then group_in (drop 5 cs) else
    if_ok (λ i. Ok (instruction_bytes i)) (read_instruction cs))

-- the bytes of a line that was read
abbrev pub line_bytes : Line → List ℕ
line_bytes (line.Zeros n) = replicate n 0
line_bytes (line.Group bytes count) = take count bytes

abbrev pub LineFits : Line → Type 0
LineFits (line.Zeros n) = n ≤ 67108864
LineFits (line.Group bytes count) = count ≤ 4

abbrev pub IsLine : Result (List ℕ) ListFault → Result Line ListFault → Type 0
IsLine reading (Ok l) = reading ≡ Ok (line_bytes l)
IsLine reading (Err e) = reading ≡ Err e
