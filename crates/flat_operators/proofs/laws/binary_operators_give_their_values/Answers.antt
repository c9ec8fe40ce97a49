use Rattle.flat_operators.proofs.Division.{does_binary}
use Rattle.flat_operators.proofs.laws.binary_operators_give_their_values.Goals as goal

pub returns : goal.returns
returns _ = λ c op t line d a b n h. does_binary c line d n a b h.left_below op t
