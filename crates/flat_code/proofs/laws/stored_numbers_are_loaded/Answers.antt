use Rattle.flat_code.proofs.Stored.{load_stored, store_beside, load_beside, load_kept}
use Rattle.flat_code.proofs.laws.stored_numbers_are_loaded.Goals as goal

pub returns : goal.returns
returns c = record { loaded = load_stored; others = store_beside; beside = load_beside; kept = load_kept }
