use Rattle.program_laws.proofs.Limits.Shapes.{shape_variables}
use Rattle.program_laws.proofs.laws.limits.scopes_of_parameters_have_few_variables.Goals as goal

pub returns : goal.returns
returns c = shape_variables
