use Rattle.source_meaning.proofs.TurnLaws.{objects_continue}
use Rattle.source_meaning.proofs.laws.objects_continue_along_a_run.Goals as goal

pub returns : goal.returns
returns c = objects_continue
