use Rattle.std.proofs.Common.{◌≡◌, replicate, None}
use Rattle.c_programs.proofs.slots.empty.Given as goal

abbrev pub invariant-loop-place : goal.invariant-loop-place
invariant-loop-place g l = l.slots.items ≡ replicate l._place None
