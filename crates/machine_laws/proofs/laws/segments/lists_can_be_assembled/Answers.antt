use Rattle.machine_laws.proofs.Segments.Labels.{labels_apart, labels_there, labels_meet}
use Rattle.machine_laws.proofs.laws.segments.lists_can_be_assembled.Goals as goal

pub returns-clause-apart : goal.returns-clause-apart
returns-clause-apart c = labels_apart

pub returns-clause-there : goal.returns-clause-there
returns-clause-there c = labels_there

pub returns-clause-assembled : goal.returns-clause-assembled
returns-clause-assembled c = labels_meet
