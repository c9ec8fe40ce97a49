use Rattle.program_laws.proofs.Bodies.Together.{statement_valid, statements_valid}
use Rattle.program_laws.proofs.laws.bodies.placed_statements_with_valid_parts_are_valid.Goals as goal

pub returns : goal.returns
returns c = record { statement = statement_valid; statements = statements_valid }
