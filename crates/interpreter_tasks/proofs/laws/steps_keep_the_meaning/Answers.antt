use Rattle.interpreter_tasks.proofs.Steps.{step_keeps}
use Rattle.interpreter_tasks.proofs.laws.steps_keep_the_meaning.Goals as goal

pub returns : goal.returns
returns c = step_keeps
