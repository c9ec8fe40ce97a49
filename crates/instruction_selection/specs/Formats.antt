-- The pieces of a format of `printf` (C99 7.19.6.1), byte by byte.
use Rattle.std.specs.Prelude.{ℕ, List, [], ◌++◌, Option, Some, None, option_map}
use Rattle.c_tree.specs.declared.format.Piece.{Piece}
use Rattle.c_tree.specs.Format.{piece_before, pieces}
use Rattle.c_tree.specs.Scanning.{pieces_from}
use Rattle.instruction_selection.specs.declared.formats.FormatByte.{FormatByte}
use Rattle.instruction_selection.specs.declared.formats.FormatByte.TheVariants.{Stop, Fail, Go, Give}

-- the pieces behind a byte, by what it is, before others
abbrev pub behind_byte : FormatByte → List ℕ → Option (List Piece)
behind_byte Stop others = Some []
behind_byte Fail others = None
behind_byte (Go place) others = pieces_from place others
behind_byte (Give p) others = piece_before (Some p) (pieces others)

-- what was read stands before what is to come
abbrev pub read_before : List Piece → Option (List Piece) → Option (List Piece)
read_before ps others = option_map (λ qs. ps ++ qs) others
