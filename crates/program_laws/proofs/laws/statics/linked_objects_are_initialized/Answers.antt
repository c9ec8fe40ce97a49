use Rattle.program_laws.proofs.Statics.Initialized.{linked_initialized}
use Rattle.program_laws.proofs.laws.statics.linked_objects_are_initialized.Goals as goal

pub returns : goal.returns
returns c = linked_initialized
