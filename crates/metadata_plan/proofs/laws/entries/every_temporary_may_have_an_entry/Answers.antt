use Rattle.metadata_plan.proofs.Entries.{every_is_closed}
use Rattle.metadata_plan.proofs.laws.entries.every_temporary_may_have_an_entry.Goals as goal

pub returns : goal.returns
returns c = every_is_closed
