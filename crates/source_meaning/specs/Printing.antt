-- `puts` and `printf` (C99 7.19.6.3, 7.19.7.10). All strings are scanned before anything is put. Each byte that is
-- scanned counts one, and each that is put one.
use Rattle.std.specs.Prelude.{ℕ, pos, false, List, [], ◌∷◌, ◌++◌, Option, Some, None, length, get_or, drop}
use Rattle.std.specs.Fmt.{digits, decimal, signed_decimal}
use Rattle.std.specs.Int.{w64, int_wrap}
use Rattle.obj_memory.specs.declared.int_type.IntType.TheVariants.{Int, UnsignedInt, UnsignedLong, UnsignedChar}
use Rattle.obj_memory.specs.declared.value.Value.{Value}
use Rattle.obj_memory.specs.Integers.{fit}
use Rattle.c_tree.specs.declared.format.Directive.{Directive}
use Rattle.c_tree.specs.declared.format.Directive.TheVariants as directive
use Rattle.c_tree.specs.declared.format.Piece.{Piece}
use Rattle.c_tree.specs.declared.format.Piece.TheVariants as piece
use Rattle.c_tree.specs.Format.{pieces}
use Rattle.source_meaning.specs.State.{Run, ◌>>=◌, ◌>>◌, done}
use Rattle.source_meaning.specs.Actions.{integer, int_of, put_bytes}
use Rattle.source_meaning.specs.Strings.{scan}

-- a string and a newline
abbrev pub puts : Value → (line : ℕ) → Run Value
puts s line = do
  bytes ← scan s line
  put_bytes (bytes ++ (10 ∷ []))
  done (integer 0)

-- the bytes of an argument by its directive (7.19.6.1 paragraph 8)
abbrev pub argument_bytes : Directive → Value → (line : ℕ) → Run (List ℕ)
argument_bytes directive.Int v line = done (signed_decimal (int_of v.word))
argument_bytes directive.UnsignedInt v line = done (decimal (fit UnsignedInt v.word))
argument_bytes directive.Hexadecimal v line = done (digits 16 false (fit UnsignedInt v.word))
argument_bytes directive.Character v line = done (fit UnsignedChar v.word ∷ [])
argument_bytes directive.Long v line = done (signed_decimal (int_wrap w64 (pos v.word)))
argument_bytes directive.UnsignedLong v line = done (decimal (fit UnsignedLong v.word))
argument_bytes directive.String v line = scan v line

-- the bytes of pieces with the arguments of their directives, strings scanned in order
abbrev pub formatted : List Piece → List Value → (line : ℕ) → Run (List ℕ)
formatted [] vs line = done []
formatted (piece.Byte b ∷ ps) vs line = do
  others ← formatted ps vs line
  done (b ∷ others)
formatted (piece.Directive d ∷ ps) vs line = do
  bytes ← argument_bytes d (get_or vs 0 (integer 0)) line
  others ← formatted ps (drop 1 vs) line
  done (bytes ++ others)

-- no program that types has a format of none
abbrev pub pieces_or_none : Option (List Piece) → List Piece
pieces_or_none None = []
pieces_or_none (Some ps) = ps

-- what `printf` does with a format and the arguments behind it, at the line of the call: the number of bytes put is
-- given, converted to int
abbrev pub print_formatted : (format : List ℕ) → List Value → (line : ℕ) → Run Value
print_formatted format arguments line = do
  bytes ← formatted (pieces_or_none (pieces format)) arguments line
  put_bytes bytes
  done (integer (fit Int (length bytes)))
