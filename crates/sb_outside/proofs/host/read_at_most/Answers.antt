use Rattle.std.proofs.Common.{◌≤◌, ◌<◌, ◌+◌, length, arith}
use Rattle.std.proofs.lemmas.List.{length-take}
use Rattle.sb_outside.proofs.Readings.{too_many}
use Rattle.sb_outside.proofs.host.read_at_most.Goals as goal

pub returns-then-count-room-clause-told : goal.returns-then-count-room-clause-told
returns-then-count-room-clause-told g c =
    let count = c.in-Ok.count in
    let bytes = c.loop-bytes.bytes.items in
    let more : c.args.max < length bytes + count = omega arith in
    let within : length c.read.new.buf ≤ c.wanted_of-wanted.result = rw (c.read.auto.buf, length-take) (omega arith) in
    let few : length bytes + count ≤ c.args.max + 1 = omega (arith, c.in-Ok.ensures.bound.0) in
    too_many _ (g.R.Read.remaining c.loop-bytes.reader) _ bytes _ count c.args.max c.loop-bytes.invariant.1
    c.in-Ok.ensures.bytes.0 c.in-Ok.ensures.bound.1 more few
