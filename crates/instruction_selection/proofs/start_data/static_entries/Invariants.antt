use Rattle.std.proofs.Common.{◌≡◌, ◌++◌, drop}
use Rattle.addr_map.specs.Places.{objects_begin}
use Rattle.metadata_relation.specs.StartData.{statics_end, entries_of_statics}
use Rattle.instruction_selection.specs.StartData.{type_in}
use Rattle.instruction_selection.proofs.start_data.static_entries.Given as goal

abbrev pub invariant-loop-i : goal.invariant-loop-i
invariant-loop-i l = record {
  made : l.list.items
      ++ entries_of_statics (type_in l.types) l.lock objects_begin (drop l.i l.statics) l.offset
      ≡ entries_of_statics (type_in l.types) l.lock objects_begin l.statics 0;
  end : statics_end (drop l.i l.statics) l.offset ≡ statics_end l.statics 0;
}
