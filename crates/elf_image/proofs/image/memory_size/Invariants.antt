use Rattle.std.proofs.Common.{◌≡◌, ◌≤◌, ◌+◌, ◌*◌, ◌^◌, drop}
use Rattle.elf_image.specs.Tests.{memory_size}
use Rattle.elf_image.proofs.image.memory_size.Given as goal

abbrev pub invariant-loop-segment : goal.invariant-loop-segment
invariant-loop-segment l = record {
  bound : l.size ≤ l.segment-index * 2 ^ 64;
  so_far : l.size + memory_size (drop l.segment-index l.segments) ≡ memory_size l.segments;
}
