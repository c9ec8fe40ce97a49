use Rattle.source_interp.proofs.Stacked.{places_none, places_variable}
use Rattle.source_interp.proofs.machine.Machine.place_variable.Goals as goal

pub returns-then-variable : goal.returns-then-variable
returns-then-variable c g o =
    places_variable g o c.args.self.now c.place_object.new.self c.args.variable c.size_of.result c.place_object.result
    c.if-variable.true c.size_of.ensures (c.place_object.ensures g o)

pub returns-else-variable : goal.returns-else-variable
returns-else-variable c g o = places_none g o c.args.self.now c.args.variable c.if-variable.false
