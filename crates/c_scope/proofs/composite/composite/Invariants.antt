use Rattle.std.proofs.Common.{◌≡◌, ◌++◌, drop, option_map}
use Rattle.c_scope.specs.Composite.{composite}
use Rattle.c_scope.proofs.composite.composite.Given as goal

abbrev pub invariant-loop-word : goal.invariant-loop-word
invariant-loop-word l =
    option_map (λ type. l.words.items ++ type) (composite (drop l.word-index l.left) l.rest)
    ≡ composite l.fn.left l.fn.right
