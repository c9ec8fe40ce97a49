use Rattle.std.proofs.Common.{refl}
use Rattle.flat_code.proofs.Routines.InputOutput.{computes}
use Rattle.flat_actions.specs.Judgement.Code.{spatial_code, temporal_code}
use Rattle.flat_actions.proofs.Judgement.Tests.{spatial_does, temporal_does}
use Rattle.flat_actions.proofs.Shapes.{spatial_shape, temporal_shape}
use Rattle.flat_actions.proofs.laws.the_tests_of_an_access_are_exact.Goals as goal

pub returns-clause-spatial : goal.returns-clause-spatial
returns-clause-spatial c = λ h size line t below operand. spatial_does h size line t below operand

pub returns-clause-temporal : goal.returns-clause-temporal
returns-clause-temporal c = λ h line t below. temporal_does h line t below

pub returns-clause-spatial_shape : goal.returns-clause-spatial_shape
returns-clause-spatial_shape c = λ h size line t below e. spatial_shape h size line t below e

pub returns-clause-temporal_shape : goal.returns-clause-temporal_shape
returns-clause-temporal_shape c = λ h line t below. temporal_shape h line t below

pub returns-clause-spatial_computes : goal.returns-clause-spatial_computes
returns-clause-spatial_computes c = λ h size line t. computes (spatial_code h size line t) refl

pub returns-clause-temporal_computes : goal.returns-clause-temporal_computes
returns-clause-temporal_computes c = λ h line t. computes (temporal_code h line t) refl
