use Rattle.machine_laws.proofs.Blocks.Pieces.{load_gives, store_stores}
use Rattle.machine_laws.proofs.Blocks.Lengths.{load_length, store_length}
use Rattle.machine_laws.proofs.laws.blocks.words_are_loaded_and_stored.Goals as goal

pub returns-clause-loaded : goal.returns-clause-loaded
returns-clause-loaded c = load_gives

pub returns-clause-stored : goal.returns-clause-stored
returns-clause-stored c = store_stores

pub returns-clause-few : goal.returns-clause-few
returns-clause-few c = load_length

pub returns-clause-fewer : goal.returns-clause-fewer
returns-clause-fewer c = store_length
