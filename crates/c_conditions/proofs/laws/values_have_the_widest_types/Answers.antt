use Rattle.c_conditions.proofs.Widest.{is_widest}
use Rattle.c_conditions.proofs.laws.values_have_the_widest_types.Goals as goal

pub returns : goal.returns
returns c = is_widest
