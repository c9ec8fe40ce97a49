use Rattle.flat_code.proofs.Routines.Objects.Lives.{died}
use Rattle.flat_code.proofs.laws.objects.objects_die.Goals as goal

pub returns : goal.returns
returns c = λ g k old new lock m m' h st. died g k h old new lock m m' st
