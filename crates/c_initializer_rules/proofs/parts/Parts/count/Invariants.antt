use Rattle.std.proofs.Common.{◌≡◌, drop, map}
use Rattle.c_initializer_rules.specs.Placed.{count_of, greatest, placed_of}
use Rattle.c_initializer_rules.proofs.parts.Parts.count.Given as goal

abbrev pub invariant-loop-placed : goal.invariant-loop-placed
invariant-loop-placed l =
    greatest l.count (map placed_of (drop l.placed-index l.placed-items))
    ≡ count_of (map placed_of l.fn.self.placed.items)
