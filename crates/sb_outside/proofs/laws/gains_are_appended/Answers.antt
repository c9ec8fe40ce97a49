use Rattle.sb_outside.proofs.Gains.{gained_nil, gained_gained}
use Rattle.sb_outside.proofs.laws.gains_are_appended.Goals as goal

pub returns : goal.returns
returns c = record { nothing = gained_nil; appended = gained_gained }
