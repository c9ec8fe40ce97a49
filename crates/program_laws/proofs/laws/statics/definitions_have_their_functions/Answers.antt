use Rattle.program_laws.proofs.Statics.Turns.{file_functions}
use Rattle.program_laws.proofs.laws.statics.definitions_have_their_functions.Goals as goal

pub returns : goal.returns
returns c = file_functions
