use Rattle.image_laws.proofs.Assignment.Programs.{program_plannable}
use Rattle.image_laws.proofs.laws.assignment.expanded_programs_are_plannable.Goals as goal

pub returns : goal.returns
returns _ e homes runtime read write entries callees same closed definite others takes gives =
    program_plannable e homes runtime read write entries callees same closed definite others takes gives
