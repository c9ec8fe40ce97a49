use Rattle.c_call_rules.proofs.RoutineTypes.{routines_spell}
use Rattle.c_call_rules.proofs.laws.routines_have_their_signatures.Goals as goal

pub returns : goal.returns
returns c = routines_spell
