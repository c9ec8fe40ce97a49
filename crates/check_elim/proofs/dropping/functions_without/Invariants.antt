use Rattle.std.proofs.Common.{◌≡◌, ◌++◌, List, length}
use Rattle.std.specs.Vec.Iter.{into_iter_items, into_iter_len}
use Rattle.tac_ir.specs.declared.function.CodeFunction.{CodeFunction}
use Rattle.check_elim.specs.Available.{IsDroppable}
use Rattle.check_elim.specs.Dropped.{AreDropped}
use Rattle.check_elim.proofs.dropping.functions_without.Given as goal

abbrev pub invariant-loop-function : goal.invariant-loop-function
invariant-loop-function l = record {
  done : (ds : List CodeFunction) → AreDropped IsDroppable (into_iter_items l.function-iterator) ds
      → AreDropped IsDroppable (into_iter_items l.initial.function-iterator) (l.without.items ++ ds);
  length : into_iter_len l.function-iterator ≡ length (into_iter_items l.function-iterator);
}
