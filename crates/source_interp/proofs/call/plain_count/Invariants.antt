use Rattle.std.proofs.Common.{◌≡◌, ◌+◌, ◌≤◌, drop}
use Rattle.source_meaning.specs.Calls.{plain_count}
use Rattle.source_interp.proofs.call.plain_count.Given as goal

abbrev pub invariant-loop-i : goal.invariant-loop-i
invariant-loop-i l =
    (l.count + plain_count (drop l.i l.variables) ≡ plain_count l.fn.variables) × (l.count ≤ l.i)
