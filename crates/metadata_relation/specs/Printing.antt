-- `printf` with a format known at compile time (C99 7.19.6.1), put together in the function of the program: all strings
-- are scanned, in order, and then the pieces of the format are put out and counted. Bytes of the format stand inline;
-- a string is scanned and put out, and another argument is put out, by a call of a function of the runtime.
use Rattle.std.specs.Prelude.{ℕ, ◌+◌, ◌*◌, List, [], ◌∷◌, ◌++◌}
use Rattle.rv_isa.specs.declared.instruction.RegOp.TheVariants.{Add, Sub}
use Rattle.c_tree.specs.declared.format.Directive.{Directive}
use Rattle.c_tree.specs.declared.format.Directive.TheVariants as directive
use Rattle.c_tree.specs.declared.format.Piece.{Piece}
use Rattle.c_tree.specs.declared.format.Piece.TheVariants as piece
use Rattle.tac_ir.specs.declared.function.CodeFunction.{CodeFunction}
use Rattle.flat_code.specs.declared.instruction.RightOperand.TheVariants.{Register}
use Rattle.flat_code.specs.declared.instruction.FlatInstruction.{FlatInstruction}
use Rattle.flat_code.specs.declared.instruction.FlatInstruction.TheVariants.{Call, Constant, Move, Operate}
use Rattle.lib_wrappers.specs.PrintingRoutines.Formats.{byte_code, counted_code}
use Rattle.runtime_functions.specs.declared.status.ReturnStatus.{ReturnStatus}
use Rattle.runtime_functions.specs.declared.status.ReturnStatus.TheVariants.{Spatial, Temporal}
use Rattle.metadata_relation.specs.Registers.{first_free, moved_register, temporary_register}

-- ---- functions of the runtime

-- the place of each in their list; a string is put out by the function that puts out a range
abbrev pub scan_place : ℕ
scan_place = 15

abbrev pub range_place : ℕ
range_place = 16

abbrev pub directive_place : Directive → ℕ
directive_place directive.Int = 17
directive_place directive.UnsignedInt = 18
directive_place directive.Hexadecimal = 19
directive_place directive.Character = 20
directive_place directive.Long = 21
directive_place directive.UnsignedLong = 22
directive_place directive.String = range_place

-- the statuses with which a scan ends the run; no other of these functions does
abbrev pub scan_statuses : List ReturnStatus
scan_statuses = Spatial ∷ Temporal ∷ []

-- ---- where the string of an argument is

-- Its first address stands there before it is put out; a scan leaves its end behind that.
abbrev pub string_register : CodeFunction → (temporary : ℕ) → ℕ
string_register c i = moved_register c (5 * i)

abbrev pub end_register : CodeFunction → (temporary : ℕ) → ℕ
end_register c i = string_register c i + 1

-- ---- the code

-- An argument stands in its temporary, a string with its entry. The number of a function is told of its place, and what
-- tests its status of the register that has it.
abbrev pub scan_argument : (number : ℕ → ℕ) → (tests : ℕ → List FlatInstruction) → CodeFunction → Directive
    → (temporary : ℕ) → List FlatInstruction
scan_argument number tests c directive.String i =
    Call (number scan_place) (temporary_register c i) (string_register c i) ∷ tests (string_register c i)
scan_argument number tests c d i = []

abbrev pub scan_pieces : (number : ℕ → ℕ) → (tests : ℕ → List FlatInstruction) → CodeFunction → List Piece
    → (temporary : ℕ) → List FlatInstruction
scan_pieces number tests c [] i = []
scan_pieces number tests c (piece.Byte b ∷ ps) i = scan_pieces number tests c ps i
scan_pieces number tests c (piece.Directive d ∷ ps) i =
    scan_argument number tests c d i ++ scan_pieces number tests c ps (i + 1)

-- a function that puts out a number gives how many bytes there were, behind its status
abbrev pub put_argument : (number : ℕ → ℕ) → CodeFunction → Directive → (temporary count : ℕ) → List FlatInstruction
put_argument number c directive.String i n =
    Move (string_register c i) (temporary_register c i)
    ∷ Call (number range_place) (string_register c i) (n + 1)
    ∷ Operate Sub (n + 1) (end_register c i) (Register (string_register c i))
    ∷ Operate Add n n (Register (n + 1))
    ∷ []
put_argument number c d i n =
    Call (number (directive_place d)) (temporary_register c i) (n + 1)
    ∷ Operate Add n n (Register (n + 2))
    ∷ []

abbrev pub put_pieces : (number : ℕ → ℕ) → CodeFunction → List Piece → (temporary count : ℕ) → List FlatInstruction
put_pieces number c [] i n = []
put_pieces number c (piece.Byte b ∷ ps) i n = byte_code b n (n + 1) ++ put_pieces number c ps i n
put_pieces number c (piece.Directive d ∷ ps) i n = put_argument number c d i n ++ put_pieces number c ps (i + 1) n

-- the number of bytes is the result, converted to int
abbrev pub print_code : (number : ℕ → ℕ) → (tests : ℕ → List FlatInstruction) → CodeFunction → List Piece
    → (first : ℕ) → List FlatInstruction
print_code number tests c ps d =
    let n = first_free c in
    scan_pieces number tests c ps d
    ++ (Constant n 0 ∷ (put_pieces number c ps d n ++ counted_code (temporary_register c d) n))
