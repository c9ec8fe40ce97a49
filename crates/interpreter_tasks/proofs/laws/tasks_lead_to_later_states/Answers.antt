use Rattle.interpreter_tasks.proofs.Later.{goes_on_later}
use Rattle.interpreter_tasks.proofs.laws.tasks_lead_to_later_states.Goals as goal

pub returns : goal.returns
returns c = goes_on_later
