use Rattle.flat_code.proofs.Routines.Objects.Lives.{born}
use Rattle.flat_code.proofs.laws.objects.objects_are_born.Goals as goal

pub returns : goal.returns
returns c = λ g k k' old new lock m m' h st. born g k k' h old new lock m m' st
