use Rattle.std.proofs.Common.{◌≡◌, map, length, []}
use Rattle.std.specs.Vec.Iter.{into_iter_items, into_iter_len}
use Rattle.c_tree.specs.View.{expression_of}
use Rattle.c_rules.specs.Values.{value_of}
use Rattle.c_call_rules.specs.Calls.{passed}
use Rattle.c_call_rules.proofs.calling.passed.Given as goal

abbrev pub invariant-loop-argument : goal.invariant-loop-argument
invariant-loop-argument l =
    (passed l.structures l.line l.words (map expression_of l.done.items)
    (map value_of (into_iter_items l.argument-iterator))
    ≡ passed l.structures l.line l.fn.words [] (map value_of (into_iter_items l.initial.argument-iterator)))
    × (into_iter_len l.argument-iterator ≡ length (into_iter_items l.argument-iterator))
