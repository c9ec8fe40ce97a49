use Rattle.std.proofs.Common.{◌≡◌, ◌++◌, drop}
use Rattle.metadata_relation.specs.StartData.{statics_end}
use Rattle.instruction_selection.specs.Statics.{places_from}
use Rattle.instruction_selection.proofs.statics.put_places.Given as goal

abbrev pub invariant-loop-i : goal.invariant-loop-i
invariant-loop-i l = record {
  made : l.list.items ++ places_from l.first (drop l.i l.statics) l.offset
      ≡ l.initial.list.items ++ places_from l.first l.statics 0;
  end : statics_end (drop l.i l.statics) l.offset ≡ statics_end l.statics 0;
}
