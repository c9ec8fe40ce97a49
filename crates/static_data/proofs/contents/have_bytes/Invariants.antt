use Rattle.std.proofs.Common.{map, drop}
use Rattle.c_tree.specs.View.{part_of}
use Rattle.source_meaning.specs.Constants.Leaving.{HaveBytes}
use Rattle.static_data.proofs.contents.have_bytes.Given as goal

abbrev pub invariant-loop-part : goal.invariant-loop-part
invariant-loop-part l =
    HaveBytes (map part_of (drop l.part-index l.parts)) → HaveBytes (map part_of l.fn.parts)
