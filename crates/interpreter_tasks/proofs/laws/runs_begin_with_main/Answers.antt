use Rattle.interpreter_tasks.proofs.Steps.{main_begins}
use Rattle.interpreter_tasks.proofs.laws.runs_begin_with_main.Goals as goal

pub returns : goal.returns
returns c = main_begins
