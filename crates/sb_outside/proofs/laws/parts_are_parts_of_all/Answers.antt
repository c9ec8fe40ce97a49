use Rattle.sb_outside.proofs.Gains.{part_behind}
use Rattle.sb_outside.proofs.laws.parts_are_parts_of_all.Goals as goal

pub returns : goal.returns
returns c = part_behind
