-- The directives of a format, byte by byte (C99 7.19.6.1).
use Rattle.std.proofs.Common.{◌≡◌, ℕ, Bool, true, false, Option, Some, None, List, [], ◌∷◌, refl}
use Rattle.std.specs.Prelude.{◌==◌, if◌then◌else◌, option_map}
use Rattle.c_tree.specs.declared.format.Directive.{Directive}
use Rattle.c_tree.specs.declared.format.Next.TheVariants as next
use Rattle.c_tree.specs.declared.format.Piece.{Piece}
use Rattle.c_tree.specs.declared.format.Piece.TheVariants as piece
use Rattle.c_tree.specs.declared.format.Place.{Place}
use Rattle.c_tree.specs.declared.format.Place.TheVariants as place
use Rattle.c_tree.specs.Format.{piece_of, long_piece_of, piece_before, pieces, behind_percent, behind_l, directives}
use Rattle.c_tree.specs.Scanning.{behind_piece, directives_by, directives_from, next_in, with_first}

-- behind a byte that ends no directive
none_first : (o : Option (List Piece))
    → option_map directives o ≡ option_map (with_first None) (option_map directives o)
none_first None = refl
none_first (Some ps) = refl

byte_first : (b : ℕ) (o : Option (List Piece))
    → option_map directives (piece_before (Some (piece.Byte b)) o)
    ≡ option_map (with_first None) (option_map directives o)
byte_first b None = refl
byte_first b (Some ps) = refl

directive_first : (d : Directive) (o : Option (List Piece))
    → option_map directives (piece_before (Some (piece.Directive d)) o)
    ≡ option_map (with_first (Some d)) (option_map directives o)
directive_first d None = refl
directive_first d (Some ps) = refl

-- a piece behind `%` or `%l`
piece_by : (o : Option Piece) (bytes : List ℕ)
    → option_map directives (piece_before o (pieces bytes))
    ≡ directives_by (behind_piece o) (λ q. directives_from q bytes)
piece_by None bytes = refl
piece_by (Some (piece.Byte b)) bytes = byte_first b (pieces bytes)
piece_by (Some (piece.Directive d)) bytes = directive_first d (pieces bytes)

text_by : (x y : Bool) (b : ℕ) (bytes : List ℕ)
    → option_map directives
    (if x then Some [] else if y then behind_percent bytes else piece_before (Some (piece.Byte b)) (pieces bytes))
    ≡ directives_by
    (if x then next.End else if y then next.On place.Percent None else next.On place.Text None)
    (λ q. directives_from q bytes)
text_by true y b bytes = refl
text_by false true b bytes = none_first (behind_percent bytes)
text_by false false b bytes = byte_first b (pieces bytes)

percent_by : (x : Bool) (b : ℕ) (bytes : List ℕ)
    → option_map directives (if x then behind_l bytes else piece_before (piece_of b) (pieces bytes))
    ≡ directives_by (if x then next.On place.Long None else behind_piece (piece_of b))
    (λ q. directives_from q bytes)
percent_by true b bytes = none_first (behind_l bytes)
percent_by false b bytes = piece_by (piece_of b) bytes

-- the directives from a place on, by the first byte there
pub next_directives : (p : Place) (b : ℕ) (bytes : List ℕ)
    → directives_from p (b ∷ bytes) ≡ directives_by (next_in p b) (λ q. directives_from q bytes)
next_directives place.Text b bytes = text_by (b == 0) (b == 37) b bytes
next_directives place.Percent b bytes = percent_by (b == 108) b bytes
next_directives place.Long b bytes = piece_by (long_piece_of b) bytes
