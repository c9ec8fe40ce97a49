use Rattle.program_laws.proofs.Tags.Files.{declaration_stays, externals_stay}
use Rattle.program_laws.proofs.laws.tags.structures_keep_their_tags.Goals as goal

pub returns : goal.returns
returns c = record { declarations = declaration_stays; externals = externals_stay }
