use Rattle.std.proofs.Common.{◌≡◌, ◌++◌, drop, map, length}
use Rattle.metadata_relation.specs.Registers.{passed_as}
use Rattle.instruction_selection.specs.Calls.{passed_by}
use Rattle.instruction_selection.proofs.handing.handed_to.Given as goal

abbrev pub invariant-loop-i : goal.invariant-loop-i
invariant-loop-i l = record {
  made : map passed_by l.list.items ++ map (λ v. passed_as v.kind) (drop l.i l.parameters)
      ≡ map (λ v. passed_as v.kind) l.fn.parameters;
  count : length l.list.items ≡ l.i;
}
