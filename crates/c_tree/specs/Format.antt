-- The pieces of a format of `printf` (C99 7.19.6.1).
use Rattle.std.specs.Prelude.{ℕ, List, [], ◌∷◌, Option, Some, None, if◌then◌else◌, ◌==◌, option_map}
use Rattle.c_tree.specs.declared.format.Directive.{Directive}
use Rattle.c_tree.specs.declared.format.Directive.TheVariants as directive
use Rattle.c_tree.specs.declared.format.Piece.{Piece}
use Rattle.c_tree.specs.declared.format.Piece.TheVariants as piece

-- what stands for a conversion specifier behind `%`: c, d, s, u, x, and `%` itself
abbrev pub piece_of : ℕ → Option Piece
piece_of c =
    if c == 37 then Some (piece.Byte 37)
    else if c == 99 then Some (piece.Directive directive.Character)
    else if c == 100 then Some (piece.Directive directive.Int)
    else if c == 115 then Some (piece.Directive directive.String)
    else if c == 117 then Some (piece.Directive directive.UnsignedInt)
    else if c == 120 then Some (piece.Directive directive.Hexadecimal)
    else None

-- the same behind `%l`: d and u
abbrev pub long_piece_of : ℕ → Option Piece
long_piece_of c =
    if c == 100 then Some (piece.Directive directive.Long)
    else if c == 117 then Some (piece.Directive directive.UnsignedLong)
    else None

abbrev pub piece_before : Option Piece → Option (List Piece) → Option (List Piece)
piece_before None others = None
piece_before (Some p) others = option_map (λ ps. p ∷ ps) others

abbrev mutual
  -- the pieces of a format, which ends at its first 0 byte or with its bytes; none where it has another directive
  pub pieces : List ℕ → Option (List Piece)
  pieces [] = Some []
  pieces (b ∷ others) =
      if b == 0 then Some []
      else if b == 37 then behind_percent others
      else piece_before (Some (piece.Byte b)) (pieces others)

  pub behind_percent : List ℕ → Option (List Piece)
  behind_percent [] = None
  behind_percent (c ∷ others) = if c == 108 then behind_l others else piece_before (piece_of c) (pieces others)

  pub behind_l : List ℕ → Option (List Piece)
  behind_l [] = None
  behind_l (c ∷ others) = piece_before (long_piece_of c) (pieces others)

-- the directives among pieces
abbrev pub directives : List Piece → List Directive
directives [] = []
directives (piece.Byte b ∷ others) = directives others
directives (piece.Directive d ∷ others) = d ∷ directives others
