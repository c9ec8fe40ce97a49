use Rattle.std.proofs.Common.{◌≡◌, ◌++◌, map, drop}
use Rattle.c_tree.specs.View.{static_of}
use Rattle.source_meaning.specs.Meaning.{statics_end}
use Rattle.static_data.specs.Data.{static_pointers}
use Rattle.static_data.proofs.pointers.static_pointers.Given as goal

abbrev pub invariant-loop-i : goal.invariant-loop-i
invariant-loop-i l = record {
  made : l.pointers.items ++ static_pointers (map static_of (drop l.i l.statics)) l.i l.offset
      ≡ static_pointers (map static_of l.fn.statics) 0 0;
  end : statics_end (map static_of (drop l.i l.statics)) l.offset ≡ statics_end (map static_of l.fn.statics) 0;
}
