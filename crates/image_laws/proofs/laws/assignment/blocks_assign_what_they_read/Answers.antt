use Rattle.image_laws.proofs.Assignment.Instructions.{assigned}
use Rattle.image_laws.proofs.laws.assignment.blocks_assign_what_they_read.Goals as goal

pub returns : goal.returns
returns _ p u n parameters e read write c begins i entries callees same h at ok =
    assigned p u e read write entries callees c parameters begins n i same h at ok
