use Rattle.std.proofs.Common.{◌≡◌, ◌+◌, ◌≤◌, drop, length}
use Rattle.source_meaning.specs.Memory.{order_of, pairs_compared}
use Rattle.source_interp.proofs.ranges.compared.Given as goal

abbrev pub invariant-loop-i : goal.invariant-loop-i
invariant-loop-i l =
    (l.i + pairs_compared (drop l.i l.left) (drop l.i l.right) ≡ pairs_compared l.fn.left l.fn.right)
    × (order_of (drop l.i l.left) (drop l.i l.right) ≡ order_of l.fn.left l.fn.right) × (l.i ≤ length l.left)
