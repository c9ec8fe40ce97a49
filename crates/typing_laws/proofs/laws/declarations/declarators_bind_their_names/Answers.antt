use Rattle.typing_laws.proofs.Declarations.Completed.{completed_by}
use Rattle.typing_laws.proofs.Declarations.Judged.{declared_as_declares}
use Rattle.typing_laws.proofs.laws.declarations.declarators_bind_their_names.Goals as goal

pub returns : goal.returns
returns c = record { declared = declared_as_declares; completed = completed_by }
