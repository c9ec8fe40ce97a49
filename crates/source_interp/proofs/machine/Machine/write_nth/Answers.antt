use Rattle.std.proofs.Common.{subst}
use Rattle.source_interp.specs.Outside.{outside}
use Rattle.source_interp.specs.Standing.{Acts}
use Rattle.source_meaning.specs.Calls.{write_parameter}
use Rattle.source_interp.specs.Homes.{home_of}
use Rattle.source_interp.proofs.machine.Machine.write_nth.Goals as goal

pub returns-in-Some : goal.returns-in-Some
returns-in-Some g c e w i =
    subst (λ v. Acts e c.args.self.now c.write_parameter.new.self (outside w (g.T.Trace.noted c.args.trace.now)
    i) (outside w (g.T.Trace.noted c.write_parameter.new.trace) i) c.write_parameter.result (write_parameter
    c.args.kind (home_of c.args.home) c.args.line v)) c.in-Some.ensures (c.write_parameter.ensures e w i)
