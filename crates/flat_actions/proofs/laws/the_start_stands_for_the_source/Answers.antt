use Rattle.flat_actions.proofs.Starts.{starts}
use Rattle.flat_actions.proofs.laws.the_start_stands_for_the_source.Goals as goal

pub returns : goal.returns
returns g c = λ map mapped functions types es objects m statics entries spaces.
    starts map mapped functions types _ _ es objects m statics entries spaces
