use Rattle.std.proofs.Common.{refl}
use Rattle.flat_code.proofs.Routines.InputOutput.{computes}
use Rattle.flat_actions.specs.Narrowing.{narrow_code}
use Rattle.flat_actions.proofs.Narrowed.{narrow_does, goes_on}
use Rattle.flat_actions.proofs.Shapes.{narrow_shape}
use Rattle.flat_actions.proofs.laws.pointers_are_narrowed_exactly.Goals as goal

pub returns-clause-narrows : goal.returns-clause-narrows
returns-clause-narrows c = λ h offset size t can. narrow_does h offset size t can

pub returns-clause-goes_on : goal.returns-clause-goes_on
returns-clause-goes_on c = λ h offset size t can. goes_on h offset size t can

pub returns-clause-shape : goal.returns-clause-shape
returns-clause-shape c = λ h offset size t below o s. narrow_shape h offset size t below o s

pub returns-clause-computes : goal.returns-clause-computes
returns-clause-computes c = λ h offset size t. computes (narrow_code h offset size t) refl
