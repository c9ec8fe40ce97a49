use Rattle.machine_laws.proofs.Segments.Running.{generated_follows}
use Rattle.machine_laws.proofs.laws.segments.generated_code_follows.Goals as goal

pub returns : goal.returns
returns c = generated_follows c.targets_are_met.ensures
