use Rattle.lib_wrappers.proofs.AllocatingRoutines.KeptBytes.{bytes_none, bytes_new, bytes_dead, bytes_kept}
use Rattle.lib_wrappers.proofs.allocating.laws.objects_have_bytes_still.Goals as goal

pub returns-clause-none : goal.returns-clause-none
returns-clause-none c = bytes_none

pub returns-clause-new : goal.returns-clause-new
returns-clause-new c = bytes_new

pub returns-clause-dead : goal.returns-clause-dead
returns-clause-dead c = bytes_dead

pub returns-clause-kept : goal.returns-clause-kept
returns-clause-kept c = bytes_kept
