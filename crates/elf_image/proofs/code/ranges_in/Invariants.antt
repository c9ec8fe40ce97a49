use Rattle.std.proofs.Common.{◌≡◌, ◌≤◌, ◌*◌, ◌-◌, ◌++◌, length}
use Rattle.elf_image.specs.Layout.{loads, ranges_of}
use Rattle.elf_image.proofs.code.ranges_in.Given as goal

-- the ranges of the headers that are left are those that are missing
abbrev pub invariant-loop-i : goal.invariant-loop-i
invariant-loop-i l = record {
  room : 56 * (l.count - l._i) ≤ length l.rest;
  so_far : l.ranges.items ++ ranges_of (loads (l.count - l._i) l.rest) ≡ ranges_of (loads l.count l.table);
}
