use Rattle.program_laws.proofs.Bodies.Definitions.{definition_defined}
use Rattle.program_laws.proofs.laws.bodies.definitions_have_valid_blocks.Goals as goal

pub returns : goal.returns
returns c = definition_defined
