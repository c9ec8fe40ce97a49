use Rattle.source_interp.specs.Outside.{outside}
use Rattle.source_interp.proofs.Putting.{puts_bytes}
use Rattle.source_interp.proofs.machine.Machine.put_bytes.Goals as goal

pub returns : goal.returns
returns g c e a i =
    puts_bytes e c.args.self.now c.tally.new.self c.tally.new.self (outside (g.O.Sink.taken c.args.output.now) a i)
    (outside (g.O.Sink.taken c.send.new.output) a i) c.args.bytes.now c.send.result
    (c.tally.ensures e (outside (g.O.Sink.taken c.args.output.now) a i)) (c.send.ensures c.tally.new.self e a i)
