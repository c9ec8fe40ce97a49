use Rattle.std.proofs.Common.{◌≡◌, ◌++◌, drop}
use Rattle.source_meaning.specs.Blocks.{objects_end}
use Rattle.metadata_plan.specs.OperatorLists.Operators.{operators}
use Rattle.metadata_relation.specs.Blocks.{place_homes}
use Rattle.instruction_selection.proofs.blocks.put_homes.Given as goal

abbrev pub invariant-loop-i : goal.invariant-loop-i
invariant-loop-i l = record {
  made : l.code.items ++ place_homes operators l.context.function.now l.i (drop l.i l.variables) l.offset l.block.first
      l.block.key l.block.lock l.block.scratch
      ≡ l.initial.code.items ++ place_homes operators l.fn.context.function.now 0 l.fn.variables 0 l.fn.block.first
      l.fn.block.key l.fn.block.lock l.fn.block.scratch;
  end : objects_end (drop l.i l.variables) l.offset ≡ objects_end l.fn.variables 0;
}
