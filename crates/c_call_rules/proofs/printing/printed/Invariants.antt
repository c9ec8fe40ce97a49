use Rattle.std.proofs.Common.{◌≡◌, map, length, []}
use Rattle.std.specs.Vec.Iter.{into_iter_items, into_iter_len}
use Rattle.c_tree.specs.View.{expression_of}
use Rattle.c_rules.specs.Values.{value_of}
use Rattle.c_call_rules.specs.Printing.{printed}
use Rattle.c_call_rules.proofs.printing.printed.Given as goal

abbrev pub invariant-loop-argument : goal.invariant-loop-argument
invariant-loop-argument l =
    (printed l.structures l.line l.directives (map expression_of l.done.items)
    (map value_of (into_iter_items l.argument-iterator))
    ≡ printed l.structures l.line l.fn.directives [] (map value_of (into_iter_items l.initial.argument-iterator)))
    × (into_iter_len l.argument-iterator ≡ length (into_iter_items l.argument-iterator))
