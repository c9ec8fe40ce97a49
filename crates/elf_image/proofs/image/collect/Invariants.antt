use Rattle.std.proofs.Common.{◌≡◌, ◌≤◌, ◌*◌, ◌-◌, ◌++◌, length, map}
use Rattle.elf_image.specs.Layout.{loads, segment_of}
use Rattle.elf_image.specs.Tests.{loads_fault}
use Rattle.elf_image.proofs.image.collect.Given as goal

-- the headers that are left have the fault of all, and their segments are those that are missing
abbrev pub invariant-loop-i : goal.invariant-loop-i
invariant-loop-i l = record {
  room : 56 * (l.count - l._i) ≤ length l.rest;
  fault : loads_fault (length l.bytes) (loads (l.count - l._i) l.rest)
      ≡ loads_fault (length l.bytes) (loads l.count l.table);
  so_far : l.segments.items ++ map (segment_of l.bytes) (loads (l.count - l._i) l.rest)
      ≡ map (segment_of l.bytes) (loads l.count l.table);
}
