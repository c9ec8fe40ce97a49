use Rattle.program_laws.proofs.Statics.Program.{string_literals}
use Rattle.program_laws.proofs.laws.statics.string_literals_are_valid.Goals as goal

pub returns : goal.returns
returns c = string_literals
