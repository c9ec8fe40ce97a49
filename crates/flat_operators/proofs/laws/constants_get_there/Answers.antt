use Rattle.flat_operators.proofs.Division.{does_constant, does_few}
use Rattle.flat_operators.proofs.laws.constants_get_there.Goals as goal

pub returns-clause-any : goal.returns-clause-any
returns-clause-any _ = λ c line d n w below low. does_constant c line d n w low

pub returns-clause-few : goal.returns-clause-few
returns-clause-few _ = λ c line d n w below low. does_few c line d n w low
