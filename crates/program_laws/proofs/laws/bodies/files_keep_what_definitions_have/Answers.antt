use Rattle.program_laws.proofs.Bodies.Whole.{definition_has}
use Rattle.program_laws.proofs.laws.bodies.files_keep_what_definitions_have.Goals as goal

pub returns : goal.returns
returns c = definition_has
