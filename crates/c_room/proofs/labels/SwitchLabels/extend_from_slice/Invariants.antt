use Rattle.std.proofs.Common.{◌≡◌, ◌++◌, drop}
use Rattle.c_room.proofs.labels.SwitchLabels.extend_from_slice.Given as goal

abbrev pub invariant-loop-label : goal.invariant-loop-label
invariant-loop-label l = l.self ++ drop l.label-index l.more ≡ l.fn.self ++ l.fn.more
