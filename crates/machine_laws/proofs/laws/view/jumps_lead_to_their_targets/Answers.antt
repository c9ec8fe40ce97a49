use Rattle.machine_laws.proofs.View.Leaving.{jal, jalr, branch}
use Rattle.machine_laws.proofs.laws.view.jumps_lead_to_their_targets.Goals as goal

pub returns-clause-jal : goal.returns-clause-jal
returns-clause-jal c = jal

pub returns-clause-jalr : goal.returns-clause-jalr
returns-clause-jalr c = jalr

pub returns-clause-branch : goal.returns-clause-branch
returns-clause-branch c = branch
