use Rattle.std.proofs.Common.{◌≡◌, ℕ, ◌<◌, Some, slice_get}
use Rattle.tac_ir.specs.declared.function.CodeFunction.{CodeFunction}
use Rattle.metadata_expansion.specs.Numbers.{AreSmall}
use Rattle.metadata_expansion.proofs.numbers.fits.Given as goal

abbrev pub invariant-loop-number : goal.invariant-loop-number
invariant-loop-number l =
    (u : ℕ) (c : CodeFunction) → u < l.number → slice_get l.program.functions u ≡ Some c
    → AreSmall l.map l.program c
