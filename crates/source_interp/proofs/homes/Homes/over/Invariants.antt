use Rattle.std.proofs.Common.{◌≡◌, ◌++◌, drop}
use Rattle.source_meaning.specs.Blocks.{homes_over}
use Rattle.source_interp.specs.Homes.{homes_of}
use Rattle.source_interp.proofs.homes.Homes.over.Given as goal

abbrev pub invariant-loop-i : goal.invariant-loop-i
invariant-loop-i l =
    homes_of l.items.items ++ homes_over (drop l.i l.self) (drop l.i l.inner) ≡ homes_over l.self l.inner
