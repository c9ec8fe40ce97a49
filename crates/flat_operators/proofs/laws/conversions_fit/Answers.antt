use Rattle.flat_operators.proofs.Division.{does_convert}
use Rattle.flat_operators.proofs.laws.conversions_fit.Goals as goal

pub returns : goal.returns
returns _ = λ c t line d x n h. does_convert c line d n t x
