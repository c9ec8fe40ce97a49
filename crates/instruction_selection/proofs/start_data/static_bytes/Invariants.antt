use Rattle.std.proofs.Common.{◌≡◌, ◌++◌, drop}
use Rattle.metadata_relation.specs.StartData.{statics_end, bytes_of_statics}
use Rattle.instruction_selection.proofs.start_data.static_bytes.Given as goal

abbrev pub invariant-loop-i : goal.invariant-loop-i
invariant-loop-i l = record {
  made : l.bytes.items ++ bytes_of_statics (drop l.i l.statics) l.offset ≡ bytes_of_statics l.statics 0;
  end : statics_end (drop l.i l.statics) l.offset ≡ statics_end l.statics 0;
}
