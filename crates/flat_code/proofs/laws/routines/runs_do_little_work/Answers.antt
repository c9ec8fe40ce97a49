use Rattle.flat_code.proofs.Routines.Work.{work_within}
use Rattle.flat_code.proofs.laws.routines.runs_do_little_work.Goals as goal

pub returns : goal.returns
returns c = work_within
