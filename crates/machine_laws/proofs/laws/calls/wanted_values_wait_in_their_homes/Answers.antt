use Rattle.machine_laws.proofs.Calls.Words.{saves, restores}
use Rattle.machine_laws.proofs.Calls.Lengths.{save_length, restore_length}
use Rattle.machine_laws.proofs.laws.calls.wanted_values_wait_in_their_homes.Goals as goal

pub returns-clause-saved : goal.returns-clause-saved
returns-clause-saved c = saves

pub returns-clause-restored : goal.returns-clause-restored
returns-clause-restored c = restores

pub returns-clause-few : goal.returns-clause-few
returns-clause-few c = save_length

pub returns-clause-fewer : goal.returns-clause-fewer
returns-clause-fewer c = restore_length
