use Rattle.program_laws.proofs.Names.Linked.{linked_meant}
use Rattle.program_laws.proofs.laws.names.linked_declarations_are_meant.Goals as goal

pub returns : goal.returns
returns c = linked_meant
