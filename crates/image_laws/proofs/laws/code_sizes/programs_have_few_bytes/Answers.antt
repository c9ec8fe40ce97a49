use Rattle.image_laws.proofs.CodeSizes.Programs.{few_bytes}
use Rattle.image_laws.proofs.laws.code_sizes.programs_have_few_bytes.Goals as goal

pub returns : goal.returns
returns c = few_bytes
