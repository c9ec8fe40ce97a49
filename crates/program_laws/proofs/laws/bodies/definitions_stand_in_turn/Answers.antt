use Rattle.program_laws.proofs.Names.Files.{file_in_turn}
use Rattle.program_laws.proofs.laws.bodies.definitions_stand_in_turn.Goals as goal

pub returns : goal.returns
returns c = file_in_turn
