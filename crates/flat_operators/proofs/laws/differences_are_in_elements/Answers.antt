use Rattle.flat_operators.proofs.PointerCode.{difference_does}
use Rattle.flat_operators.proofs.laws.differences_are_in_elements.Goals as goal

pub returns : goal.returns
returns _ = λ c line d a b n size low some h. difference_does c line d a b n size low some h
