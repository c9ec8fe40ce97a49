use Rattle.flat_operators.proofs.PointerCode.{forward_does, back_does}
use Rattle.flat_operators.proofs.laws.pointers_move_by_elements.Goals as goal

pub returns-clause-forward : goal.returns-clause-forward
returns-clause-forward _ = λ c line d a i n size low h. forward_does c line d a i n size low h

pub returns-clause-back : goal.returns-clause-back
returns-clause-back _ = λ c line d a i n size low h. back_does c line d a i n size low h
