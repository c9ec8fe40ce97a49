use Rattle.std.proofs.Common.{◌≡◌, ◌≤◌, map, drop}
use Rattle.c_tree.specs.View.{static_of}
use Rattle.source_meaning.specs.Meaning.{statics_end}
use Rattle.lowering_vectors.proofs.lowered.is_small.Given as goal

abbrev pub invariant-loop-i : goal.invariant-loop-i
invariant-loop-i l = record {
  end : statics_end (map static_of (drop l.i l.statics)) l.offset ≡ statics_end (map static_of l.fn.statics) 0;
  small : l.offset ≤ 0x400000;
}
