use Rattle.flat_code.proofs.Routines.Work.{work_of_weight}
use Rattle.flat_code.proofs.laws.routines.runs_without_input_and_output_do_less_work.Goals as goal

pub returns : goal.returns
returns c = work_of_weight
