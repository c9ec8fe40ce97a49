use Rattle.std.proofs.Common.{◌≡◌, ◌+◌, ◌*◌, ◌++◌, drop}
use Rattle.metadata_relation.specs.StartData.{entries_of_tags}
use Rattle.instruction_selection.specs.StartData.{type_in}
use Rattle.instruction_selection.proofs.start_data.put_tags.Given as goal

abbrev pub invariant-loop-i : goal.invariant-loop-i
invariant-loop-i l = record {
  made : l.list.items
      ++ entries_of_tags (type_in l.types) l.lock (l.first + 8 * l.i) (drop l.i l.tags)
      ≡ l.initial.list.items ++ entries_of_tags (type_in l.types) l.lock l.first l.tags;
}
