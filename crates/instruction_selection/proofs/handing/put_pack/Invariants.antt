use Rattle.std.proofs.Common.{◌≡◌, ◌+◌, ◌*◌, ◌≤◌, ◌++◌, drop, map}
use Rattle.metadata_relation.specs.Blocks.{pack}
use Rattle.instruction_selection.specs.Calls.{passed_by}
use Rattle.instruction_selection.proofs.handing.put_pack.Given as goal

abbrev pub invariant-loop-i : goal.invariant-loop-i
invariant-loop-i l = record {
  made : l.code.items ++ pack l.context.function.now (map passed_by (drop l.i l.list)) l.register (l.first + l.i)
      ≡ l.initial.code.items ++ pack l.fn.context.function.now (map passed_by l.fn.list) l.fn.into l.fn.first;
  low : l.register ≤ l.into + 5 * l.i;
}
