use Rattle.std.proofs.Common.{◌≡◌, ◌+◌, ◌≤◌, drop, length}
use Rattle.c_tree.specs.Format.{directives}
use Rattle.program_expansion.proofs.names.directive_count.Given as goal

abbrev pub invariant-loop-piece : goal.invariant-loop-piece
invariant-loop-piece l =
    (l.count + length (directives (drop l.piece-index l.pieces)) ≡ length (directives l.pieces)) × (l.count ≤ l.piece-index)
