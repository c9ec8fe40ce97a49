use Rattle.std.proofs.Common.{◌≡◌, drop, is_some}
use Rattle.c_scope.specs.Composite.{composite}
use Rattle.c_scope.proofs.composite.are_compatible.Given as goal

abbrev pub invariant-loop-word : goal.invariant-loop-word
invariant-loop-word l = is_some (composite (drop l.word-index l.left) l.rest) ≡ is_some (composite l.fn.left l.fn.right)
