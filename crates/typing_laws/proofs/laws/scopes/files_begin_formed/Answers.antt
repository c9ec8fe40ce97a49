use Rattle.typing_laws.proofs.Scopes.Start.{file_formed, file_members}
use Rattle.typing_laws.proofs.laws.scopes.files_begin_formed.Goals as goal

pub returns : goal.returns
returns c = λ objects facts. (file_formed objects facts, file_members objects facts)
