use Rattle.std.proofs.Common.{arith}
use Rattle.flat_operators.proofs.PointerCode.{difference_few}
use Rattle.flat_operators.proofs.laws.differences_by_few_bits_are_in_elements.Goals as goal

pub returns : goal.returns
returns _ = λ c line d a b n size few some h. difference_few c line d a b n size (omega (arith, few)) some h few
