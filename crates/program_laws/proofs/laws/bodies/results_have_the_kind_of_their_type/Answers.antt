use Rattle.program_laws.proofs.Bodies.Results.{result_is}
use Rattle.program_laws.proofs.laws.bodies.results_have_the_kind_of_their_type.Goals as goal

pub returns : goal.returns
returns c = result_is
