use Rattle.std.proofs.Common.{◌≡◌, drop}
use Rattle.std.specs.List.{list_all}
use Rattle.instruction_selection.specs.Covered.{is_covered_in, may_have}
use Rattle.instruction_selection.proofs.covered.are_covered.Given as goal

abbrev pub invariant-loop-i : goal.invariant-loop-i
invariant-loop-i l = let p = is_covered_in l.coverage.program.now l.function (may_have l.contents) in
    list_all p (drop l.i l.instructions) ≡ list_all p l.fn.instructions
