-- What a byte of a format is, by what comes behind it.
use Rattle.std.proofs.Common.{◌≡◌, ℕ, Bool, true, false, List, [], ◌∷◌, Option, Some, None, if◌then◌else◌}
use Rattle.std.proofs.Common.{refl, sym, ap, ◌∙◌}
use Rattle.std.specs.Prelude.{◌==◌}
use Rattle.std.proofs.lemmas.Bool.{eqb-true}
use Rattle.c_tree.specs.declared.format.Directive.{Directive}
use Rattle.c_tree.specs.declared.format.Directive.TheVariants as directive
use Rattle.c_tree.specs.declared.format.Piece.{Piece}
use Rattle.c_tree.specs.declared.format.Piece.TheVariants as piece
use Rattle.c_tree.specs.declared.format.Place.{Place}
use Rattle.c_tree.specs.declared.format.Place.TheVariants as place
use Rattle.c_tree.specs.declared.format.Next.{Next}
use Rattle.c_tree.specs.declared.format.Next.TheVariants as next
use Rattle.c_tree.specs.Format.{behind_percent, behind_l, long_piece_of, piece_before, piece_of, pieces}
use Rattle.c_tree.specs.Scanning.{behind_piece, next_in, pieces_from}
use Rattle.instruction_selection.specs.declared.formats.FormatByte.{FormatByte}
use Rattle.instruction_selection.specs.declared.formats.FormatByte.TheVariants.{Stop, Fail, Go, Give}
use Rattle.instruction_selection.specs.Formats.{behind_byte}

-- a byte, by what comes behind it
abbrev pub step_of : Next → ℕ → FormatByte
step_of next.End b = Stop
step_of next.Wrong b = Fail
step_of (next.On place.Text (Some d)) b = Give (piece.Directive d)
step_of (next.On place.Text None) b = Give (piece.Byte b)
step_of (next.On q d) b = Go q

module _ (c : ℕ) (others : List ℕ) where
  abbrev Fits : Option Piece → Type 0
  Fits o = piece_before o (pieces others) ≡ behind_byte (step_of (behind_piece o) c) others

  or_directive : (b : Bool) (d : Directive) (rest : Option Piece) → Fits rest
      → Fits (if b then Some (piece.Directive d) else rest)
  or_directive true d rest h = refl
  or_directive false d rest h = h

  percent_fits : (b : Bool) → (c == 37) ≡ b → (rest : Option Piece) → Fits rest
      → Fits (if b then Some (piece.Byte 37) else rest)
  percent_fits true same rest h = ap (λ z. piece_before (Some (piece.Byte z)) (pieces others)) (sym (eqb-true c 37 same))
  percent_fits false same rest h = h

  piece_fits : Fits (piece_of c)
  piece_fits =
      percent_fits (c == 37) refl _
      (or_directive (c == 99) directive.Character _
      (or_directive (c == 100) directive.Int _
      (or_directive (c == 115) directive.String _
      (or_directive (c == 117) directive.UnsignedInt _
      (or_directive (c == 120) directive.Hexadecimal None refl)))))

  long_fits : Fits (long_piece_of c)
  long_fits =
      or_directive (c == 100) directive.Long _ (or_directive (c == 117) directive.UnsignedLong None refl)

  text_step : (b b' : Bool) → (if b then Some [] else if b' then behind_percent others
      else piece_before (Some (piece.Byte c)) (pieces others))
      ≡ behind_byte (step_of (if b then next.End else if b' then next.On place.Percent None
      else next.On place.Text None) c) others
  text_step true b' = refl
  text_step false true = refl
  text_step false false = refl

  percent_step : (b : Bool) → (if b then behind_l others else piece_before (piece_of c) (pieces others))
      ≡ behind_byte (step_of (if b then next.On place.Long None else behind_piece (piece_of c)) c) others
  percent_step true = refl
  percent_step false = piece_fits

  pub step_at : (p : Place) → pieces_from p (c ∷ others) ≡ behind_byte (step_of (next_in p c) c) others
  step_at place.Text = text_step (c == 0) (c == 37)
  step_at place.Percent = percent_step (c == 108)
  step_at place.Long = long_fits

pub step_is : (p : Place) (c : ℕ) (n : Next) (s : FormatByte) → n ≡ next_in p c → s ≡ step_of n c → (others : List ℕ)
    → pieces_from p (c ∷ others) ≡ behind_byte s others
step_is p c n s at is others =
    step_at c others p ∙ ap (λ z. behind_byte z others) (ap (λ m. step_of m c) (sym at) ∙ sym is)
