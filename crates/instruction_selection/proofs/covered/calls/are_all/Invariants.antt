use Rattle.std.proofs.Common.{◌≡◌, drop}
use Rattle.std.specs.List.{list_all}
use Rattle.instruction_selection.proofs.covered.calls.are_all.Given as goal

abbrev pub invariant-loop-test : goal.invariant-loop-test
invariant-loop-test l = list_all (λ b. b) (drop l.test-index l.tests) ≡ list_all (λ b. b) l.fn.tests
