use Rattle.c_conditions.proofs.Trees.{read_is_conditional, conditional_is_read}
use Rattle.c_conditions.proofs.laws.conditions_have_one_tree.Goals as goal

pub returns-clause-sound : goal.returns-clause-sound
returns-clause-sound c = read_is_conditional

pub returns-clause-complete : goal.returns-clause-complete
returns-clause-complete c = conditional_is_read
