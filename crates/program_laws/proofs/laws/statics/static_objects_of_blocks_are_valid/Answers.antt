use Rattle.program_laws.proofs.Statics.Program.{block_objects}
use Rattle.program_laws.proofs.laws.statics.static_objects_of_blocks_are_valid.Goals as goal

pub returns : goal.returns
returns c = block_objects
