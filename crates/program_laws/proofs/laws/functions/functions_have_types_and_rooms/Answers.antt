use Rattle.program_laws.proofs.Functions.Main.{functions_have_rooms}
use Rattle.program_laws.proofs.laws.functions.functions_have_types_and_rooms.Goals as goal

pub returns : goal.returns
returns c = functions_have_rooms
