use Rattle.words.proofs.Order.{less_as_integers}
use Rattle.words.proofs.laws.order_is_that_of_integers.Goals as goal

pub returns : goal.returns
returns c = less_as_integers
