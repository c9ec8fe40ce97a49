use Rattle.std.proofs.Common.{refl, subst, Ok, ◌+◌, length}
use Rattle.source_meaning.specs.State.{tally}
use Rattle.source_meaning.specs.Initializers.{store_bytes}
use Rattle.source_interp.specs.Outside.{outside}
use Rattle.source_interp.specs.Standing.{Acts}
use Rattle.source_interp.proofs.Acting.{then_acts}
use Rattle.source_interp.proofs.machine.Machine.store_literal.Goals as goal

pub returns-in-Some : goal.returns-in-Some
returns-in-Some g c e w i =
    then_acts e c.args.self.now c.tally.new.self c.store_bytes.new.self (outside w (g.T.Trace.noted c.args.trace.now) i)
    (outside w (g.T.Trace.noted c.args.trace.now) i) (outside w (g.T.Trace.noted c.store_bytes.new.trace) i) (Ok tt) tt
    c.store_bytes.result (tally (1 + length c.args.bytes.now)) (λ _. store_bytes c.args.object c.args.offset
    c.args.bytes.now) refl (subst (λ n. Acts e c.args.self.now c.tally.new.self (outside w (g.T.Trace.noted
    c.args.trace.now) i) (outside w (g.T.Trace.noted c.args.trace.now) i) (Ok tt) (tally n)) c.in-Some.ensures
    (c.tally.ensures e (outside w (g.T.Trace.noted c.args.trace.now) i))) (c.store_bytes.ensures e w i)
