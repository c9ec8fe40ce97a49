-- Reading a format byte by byte.
use Rattle.std.specs.Prelude.{ℕ, ◌==◌, if◌then◌else◌, List, [], ◌∷◌, Option, Some, None, option_map}
use Rattle.c_tree.specs.declared.format.Directive.{Directive}
use Rattle.c_tree.specs.declared.format.Next.{Next}
use Rattle.c_tree.specs.declared.format.Next.TheVariants as next
use Rattle.c_tree.specs.declared.format.Piece.{Piece}
use Rattle.c_tree.specs.declared.format.Piece.TheVariants as piece
use Rattle.c_tree.specs.declared.format.Place.{Place}
use Rattle.c_tree.specs.declared.format.Place.TheVariants as place
use Rattle.c_tree.specs.Format.{piece_of, long_piece_of, pieces, behind_percent, behind_l, directives}

-- what comes behind a piece that is no text
abbrev pub behind_piece : Option Piece → Next
behind_piece None = next.Wrong
behind_piece (Some (piece.Byte b)) = next.On place.Text None
behind_piece (Some (piece.Directive d)) = next.On place.Text (Some d)

-- what comes behind a byte at a place
abbrev pub next_in : Place → ℕ → Next
next_in place.Text b =
    if b == 0 then next.End else if b == 37 then next.On place.Percent None else next.On place.Text None
next_in place.Percent b = if b == 108 then next.On place.Long None else behind_piece (piece_of b)
next_in place.Long b = behind_piece (long_piece_of b)

-- the directives of a format from a place on
abbrev pub pieces_from : Place → List ℕ → Option (List Piece)
pieces_from place.Text bytes = pieces bytes
pieces_from place.Percent bytes = behind_percent bytes
pieces_from place.Long bytes = behind_l bytes

abbrev pub directives_from : Place → List ℕ → Option (List Directive)
directives_from p bytes = option_map directives (pieces_from p bytes)

-- the same by what comes behind a byte, given the directives behind it from each place on
abbrev pub with_first : Option Directive → List Directive → List Directive
with_first None ds = ds
with_first (Some d) ds = d ∷ ds

abbrev pub directives_by : Next → (Place → Option (List Directive)) → Option (List Directive)
directives_by next.End behind = Some []
directives_by next.Wrong behind = None
directives_by (next.On p d) behind = option_map (with_first d) (behind p)
