-- The scans of the arguments of a format, piece after piece.
use Rattle.std.proofs.Common.{◌≡◌, ℕ, ◌+◌, ◌<◌, List, [], ◌∷◌, ◌++◌, drop, length, Some, sym, ap, ◌∙◌, arith}
use Rattle.std.proofs.Common.{append_assoc}
use Rattle.std.specs.Prelude.{slice_get}
use Rattle.std.proofs.lemmas.List.{drop_more}
use Rattle.std.proofs.lemmas.Option.{get_or_from_slice_get}
use Rattle.c_tree.specs.declared.format.Piece.{Piece}
use Rattle.c_tree.specs.declared.format.Piece.TheVariants as piece
use Rattle.c_tree.specs.Format.{directives}
use Rattle.tac_ir.specs.declared.function.CodeFunction.{CodeFunction}
use Rattle.flat_code.specs.declared.instruction.FlatInstruction.{FlatInstruction}
use Rattle.metadata_relation.specs.Printing.{scan_argument, scan_pieces}
use Rattle.instruction_selection.proofs.Lists.{nothing_behind}

from_piece : (ps : List Piece) (i : ℕ) (p : Piece) → i < length ps → slice_get ps i ≡ Some p
    → drop i ps ≡ p ∷ drop (i + 1) ps
from_piece ps i p low at =
    drop_more ps i p low ∙ ap (λ x. x ∷ drop (i + 1) ps) (get_or_from_slice_get ps i p p at)

one_more : (p : Piece) (ps : List Piece)
    → length (directives (p ∷ ps)) ≡ length (directives (p ∷ [])) + length (directives ps)
one_more (piece.Byte b) ps = omega arith
one_more (piece.Directive d) ps = omega arith

pub count_next : (ps : List Piece) (i : ℕ) (p : Piece) → i < length ps → slice_get ps i ≡ Some p
    → length (directives (drop i ps)) ≡ length (directives (p ∷ [])) + length (directives (drop (i + 1) ps))
count_next ps i p low at =
    ap (λ qs. length (directives qs)) (from_piece ps i p low at) ∙ one_more p (drop (i + 1) ps)

module _ (number : ℕ → ℕ) (tests : ℕ → List FlatInstruction) (c : CodeFunction) where
  scan_then : (p : Piece) (ps : List Piece) (t next : ℕ) (code now : List FlatInstruction)
      → next ≡ t + length (directives (p ∷ [])) → now ≡ code ++ scan_pieces number tests c (p ∷ []) t
      → now ++ scan_pieces number tests c ps next ≡ code ++ scan_pieces number tests c (p ∷ ps) t
  scan_then (piece.Byte b) ps t next code now same put =
      let still : next ≡ t = omega (arith, same) in
      ap (λ is. is ++ scan_pieces number tests c ps next) (put ∙ nothing_behind code)
      ∙ ap (λ k. code ++ scan_pieces number tests c ps k) still
  scan_then (piece.Directive d) ps t next code now same put =
      let on : next ≡ t + 1 = omega (arith, same) in
      let one : now ≡ code ++ scan_argument number tests c d t =
      put ∙ ap (λ is. code ++ is) (nothing_behind (scan_argument number tests c d t)) in
      ap (λ is. is ++ scan_pieces number tests c ps next) one
      ∙ (append_assoc code (scan_argument number tests c d t) (scan_pieces number tests c ps next)
      ∙ ap (λ k. code ++ (scan_argument number tests c d t ++ scan_pieces number tests c ps k)) on)

  pub scans_next : (ps : List Piece) (i : ℕ) (p : Piece) (t next : ℕ) (code now : List FlatInstruction) → i < length ps
      → slice_get ps i ≡ Some p → next ≡ t + length (directives (p ∷ []))
      → now ≡ code ++ scan_pieces number tests c (p ∷ []) t
      → now ++ scan_pieces number tests c (drop (i + 1) ps) next ≡ code ++ scan_pieces number tests c (drop i ps) t
  scans_next ps i p t next code now low at same put =
      scan_then p (drop (i + 1) ps) t next code now same put
      ∙ ap (λ qs. code ++ scan_pieces number tests c qs t) (sym (from_piece ps i p low at))
