use Rattle.metadata_plan.proofs.Laying.{program_expands}
use Rattle.metadata_plan.proofs.laws.laid_code_is_an_expansion.Goals as goal

pub returns : goal.returns
returns c = program_expands
