use Rattle.std.proofs.Common.{◌≡◌, ◌≤◌, ◌+◌, ◌*◌, ◌-◌, length}
use Rattle.elf_image.specs.Layout.{loads}
use Rattle.elf_image.proofs.header.count_loads.Given as goal

abbrev pub invariant-loop-i : goal.invariant-loop-i
invariant-loop-i l = record {
  room : 56 * (l.count - l._i) ≤ length l.rest;
  few : l.found ≤ l._i;
  so_far : l.found + length (loads (l.count - l._i) l.rest) ≡ length (loads l.count l.table);
}
