use Rattle.std.proofs.Common.{◌≡◌, ◌++◌, length}
use Rattle.std.specs.Prelude.{map}
use Rattle.std.specs.Vec.Iter.{into_iter_items, into_iter_len}
use Rattle.check_insert.specs.Building.{checked_function}
use Rattle.check_insert.proofs.insertion.checked_functions.Given as goal

abbrev pub invariant-loop-function : goal.invariant-loop-function
invariant-loop-function l =
    (l.checked.items ++ map checked_function (into_iter_items l.function-iterator)
    ≡ map checked_function (into_iter_items l.initial.function-iterator))
    × (into_iter_len l.function-iterator ≡ length (into_iter_items l.function-iterator))
