use Rattle.flat_operators.proofs.Division.{does_unary}
use Rattle.flat_operators.proofs.laws.unary_operators_give_their_values.Goals as goal

pub returns : goal.returns
returns _ = λ c op t line d x n h. does_unary c line d n op t x h.left_below
