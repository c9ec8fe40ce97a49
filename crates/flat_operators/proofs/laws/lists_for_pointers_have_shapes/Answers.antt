use Rattle.flat_operators.proofs.Shapes.{constant_shape, few_shape, offset_shape, difference_shape}
use Rattle.flat_operators.proofs.Shapes.{constant_computes, offset_computes, difference_computes}
use Rattle.flat_operators.proofs.laws.lists_for_pointers_have_shapes.Goals as goal

pub returns-clause-constant : goal.returns-clause-constant
returns-clause-constant _ = λ d n w l low. constant_shape d n w l low

pub returns-clause-few : goal.returns-clause-few
returns-clause-few _ = λ d n w l low. few_shape d n w l low

pub returns-clause-moved : goal.returns-clause-moved
returns-clause-moved _ = λ o size d a i n low h. offset_shape o size d a i n low h

pub returns-clause-difference : goal.returns-clause-difference
returns-clause-difference _ = λ size d a b n low h. difference_shape size d a b n low h

pub returns-clause-constant_computes : goal.returns-clause-constant_computes
returns-clause-constant_computes _ = λ d w. constant_computes d w

pub returns-clause-moved_computes : goal.returns-clause-moved_computes
returns-clause-moved_computes _ = λ o size d a i n. offset_computes o size d a i n

pub returns-clause-difference_computes : goal.returns-clause-difference_computes
returns-clause-difference_computes _ = λ size d a b n. difference_computes size d a b n
