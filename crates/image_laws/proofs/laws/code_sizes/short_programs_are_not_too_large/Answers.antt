use Rattle.image_laws.proofs.CodeSizes.Programs.{not_too_large}
use Rattle.image_laws.proofs.laws.code_sizes.short_programs_are_not_too_large.Goals as goal

pub returns : goal.returns
returns c = not_too_large
