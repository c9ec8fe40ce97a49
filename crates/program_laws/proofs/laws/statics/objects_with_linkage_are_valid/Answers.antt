use Rattle.program_laws.proofs.Statics.Linked.{linked_valid, object_adds}
use Rattle.program_laws.proofs.laws.statics.objects_with_linkage_are_valid.Goals as goal

pub returns : goal.returns
returns c = record { declared = object_adds; linked = linked_valid }
