use Rattle.std.proofs.Common.{◌≡◌, ◌≤◌, drop}
use Rattle.metadata_relation.specs.StartData.{statics_end}
use Rattle.program_expansion.proofs.limits.are_few_statics.Given as goal

abbrev pub invariant-loop-i : goal.invariant-loop-i
invariant-loop-i l =
    (statics_end (drop l.i l.statics) l.end ≡ statics_end l.statics 0) × (l.end ≤ 0x400000)
