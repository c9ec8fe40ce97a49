use Rattle.typing_laws.proofs.Scopes.WellFormed.{well_formed_defines, well_formed_regular}
use Rattle.typing_laws.proofs.laws.scopes.well_formed_files_are_regular.Goals as goal

pub returns : goal.returns
returns c = record { regular = well_formed_regular; defined = well_formed_defines }
