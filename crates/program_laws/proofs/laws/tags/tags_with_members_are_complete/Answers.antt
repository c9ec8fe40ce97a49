use Rattle.program_laws.proofs.Tags.Files.{tags_complete}
use Rattle.program_laws.proofs.laws.tags.tags_with_members_are_complete.Goals as goal

pub returns : goal.returns
returns c = λ objects end es f regular defined is. tags_complete objects end es f regular is
