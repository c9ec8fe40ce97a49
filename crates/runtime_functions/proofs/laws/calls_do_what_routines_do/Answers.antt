use Rattle.runtime_functions.proofs.Calls.{comes_of_call}
use Rattle.runtime_functions.proofs.laws.calls_do_what_routines_do.Goals as goal

pub returns : goal.returns
returns c = comes_of_call
