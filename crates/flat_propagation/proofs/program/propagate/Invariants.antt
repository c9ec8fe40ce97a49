use Rattle.std.proofs.Common.{◌≡◌, ◌++◌, length}
use Rattle.std.specs.Prelude.{map}
use Rattle.std.specs.Vec.Iter.{into_iter_items, into_iter_len}
use Rattle.flat_propagation.specs.Propagated.{propagated_function}
use Rattle.flat_propagation.proofs.program.propagate.Given as goal

abbrev pub invariant-loop-function : goal.invariant-loop-function
invariant-loop-function l =
    (l.list.items ++ map propagated_function (into_iter_items l.function-iterator)
    ≡ map propagated_function (into_iter_items l.initial.function-iterator))
    × (into_iter_len l.function-iterator ≡ length (into_iter_items l.function-iterator))
