use Rattle.source_meaning.specs.Blocks.{place_object}
use Rattle.source_interp.specs.declared.stop.Fault.TheVariants.{Memory}
use Rattle.source_interp.proofs.Stacked.{places, places_nothing}
use Rattle.source_interp.proofs.machine.Machine.place_object.Goals as goal

pub returns-in-Some : goal.returns-in-Some
returns-in-Some c g o =
    places g o c.args.self.now c.place_in.new.self c.in-Some.extent.start c.in-Some.extent.end c.args.size
    c.place_in.result c.in-Some.ensures.start c.in-Some.ensures.end (c.place_in.ensures g o)

pub returns-in-None : goal.returns-in-None
returns-in-None c g o =
    places_nothing g o c.args.self.now c.args.self.now Memory (place_object c.args.size)
