use Rattle.image_laws.proofs.Assignment.Coverage.{covered_assigns}
use Rattle.image_laws.proofs.laws.assignment.covered_instructions_assign.Goals as goal

pub returns : goal.returns
returns _ x c u n i covered admitted handed = covered_assigns x c u n i covered admitted handed
