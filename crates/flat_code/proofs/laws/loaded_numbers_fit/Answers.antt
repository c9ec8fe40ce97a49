use Rattle.flat_code.proofs.Stored.{load_fits, store_keeps_bytes}
use Rattle.flat_code.proofs.laws.loaded_numbers_fit.Goals as goal

pub returns : goal.returns
returns c = record { fits = load_fits; bytes = store_keeps_bytes }
