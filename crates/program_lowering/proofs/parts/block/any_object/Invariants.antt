use Rattle.std.proofs.Common.{◌≡◌, drop}
use Rattle.program_lowering.specs.StatementParts.Objects.{any_object}
use Rattle.program_lowering.proofs.parts.block.any_object.Given as goal

abbrev pub invariant-loop-number : goal.invariant-loop-number
invariant-loop-number l = any_object l.variables (drop l.number-index l.numbers)
    ≡ any_object l.fn.variables l.fn.numbers
