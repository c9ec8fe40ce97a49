use Rattle.image_laws.proofs.Plans.Programs.{flat_plannable}
use Rattle.image_laws.proofs.laws.plans.flat_code_is_plannable.Goals as goal

pub returns : goal.returns
returns _ p t r m valid ints low ins small = flat_plannable p t r valid ints low ins m small
