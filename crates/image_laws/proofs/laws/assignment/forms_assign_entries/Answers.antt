use Rattle.image_laws.proofs.Assignment.EntryLists.{direct_assigns, two_level_assigns}
use Rattle.image_laws.proofs.laws.assignment.forms_assign_entries.Goals as goal

pub returns-clause-direct : goal.returns-clause-direct
returns-clause-direct _ = direct_assigns

pub returns-clause-two_levels : goal.returns-clause-two_levels
returns-clause-two_levels _ = two_level_assigns
