use Rattle.sbcets_core.proofs.Composition.{run_of_built}
use Rattle.sbcets_core.proofs.laws.run_of_what_was_built.Goals as goal

pub returns : goal.returns
returns c = run_of_built
