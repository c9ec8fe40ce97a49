use Rattle.program_laws.proofs.Bodies.Bodies.{items_valid}
use Rattle.program_laws.proofs.Bodies.Declared.{declaration_typed}
use Rattle.program_laws.proofs.Bodies.Statements.{statement_typed}
use Rattle.program_laws.proofs.laws.bodies.constructs_of_functions_are_valid.Goals as goal

pub returns : goal.returns
returns c = record { declaration = declaration_typed; statement = statement_typed; items = items_valid }
