use Rattle.std.proofs.Common.{◌≡◌, ◌+◌, ◌≤◌, length}
use Rattle.rv_listing.specs.Listings.{behind, read_lines, lines_of}
use Rattle.rv_listing.proofs.reading.read_lines.Given as goal

abbrev pub invariant-loop-line : goal.invariant-loop-line
invariant-loop-line l = record {
  read : behind l.bytes.items (read_lines l.number l.room (lines_of l.rest).0 (lines_of l.rest).1)
      ≡ read_lines 2 l.size (lines_of l.text).0 (lines_of l.text).1;
  number : l.number + length l.rest ≤ length l.text + 2;
}

abbrev pub decreases-loop-line : goal.decreases-loop-line
decreases-loop-line l = length l.rest
