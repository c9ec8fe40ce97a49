use Rattle.std.proofs.Common.{◌≡◌, ◌++◌}
use Rattle.metadata_expansion.specs.Homes.{temporary_homes}
use Rattle.metadata_expansion.proofs.homes.put_temporary_homes.Given as goal

abbrev pub invariant-loop-i : goal.invariant-loop-i
invariant-loop-i l = l.list.items ≡ l.initial.list.items ++ temporary_homes l.word l.i
