use Rattle.typing_laws.proofs.Scopes.Files.{file_ends}
use Rattle.typing_laws.proofs.laws.scopes.files_end_formed.Goals as goal

pub returns : goal.returns
returns c = file_ends
