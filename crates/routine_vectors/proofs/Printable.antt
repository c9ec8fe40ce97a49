-- Pieces of a format, one before others.
use Rattle.std.proofs.Common.{ℕ, List, [], ◌∷◌}
use Rattle.lib_wrappers.specs.declared.printing.formats.Printed.{Printed}
use Rattle.lib_wrappers.specs.declared.printing.formats.Printed.TheVariants.{Byte, Number, String}
use Rattle.lib_wrappers.specs.PrintingRoutines.Printed.{ArePrintable}

pub one_more : (t : ℕ) (p : Printed) (ps : List Printed) → ArePrintable t (p ∷ []) → ArePrintable t ps
    → ArePrintable t (p ∷ ps)
one_more t (Byte b) ps one others = others
one_more t (Number d r) ps (is, low, _) others = (is, low, others)
one_more t (String h) ps (low, _) others = (low, others)
