use Rattle.std.proofs.Common.{◌≡◌, map, take}
use Rattle.rv_sim.specs.Start.{loaded_segment}
use Rattle.rv_sim.proofs.machine.segments_of.Given as goal

abbrev pub invariant-loop-segment : goal.invariant-loop-segment
invariant-loop-segment l = l.memory.items ≡ map loaded_segment (take l.segment-index l.segments)
