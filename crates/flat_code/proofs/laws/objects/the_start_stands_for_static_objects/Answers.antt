use Rattle.flat_code.proofs.Routines.Objects.Starts.{starts}
use Rattle.flat_code.proofs.laws.objects.the_start_stands_for_static_objects.Goals as goal

pub returns : goal.returns
returns c = starts
