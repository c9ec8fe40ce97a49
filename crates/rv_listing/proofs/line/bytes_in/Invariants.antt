use Rattle.std.proofs.Common.{◌≡◌, ◌+◌, ◌*◌, ◌≤◌, take, length}
use Rattle.rv_listing.proofs.Bytes.{Continues}
use Rattle.rv_listing.proofs.line.bytes_in.Given as goal

abbrev pub invariant-loop-rest : goal.invariant-loop-rest
invariant-loop-rest l = record {
  read : Continues (take l.count l.bytes) l.rest l.text;
  room : 3 * l.count + length l.rest ≤ 12;
  size : length l.bytes ≡ 4;
}

abbrev pub decreases-loop-rest : goal.decreases-loop-rest
decreases-loop-rest l = length l.rest
