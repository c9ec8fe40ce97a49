use Rattle.program_laws.proofs.Scopes.Agreeing.{static_parts}
use Rattle.program_laws.proofs.laws.scopes.initializers_of_static_objects_are_valid_in_their_programs.Goals as goal

pub returns : goal.returns
returns c = record { static_parts = static_parts }
