use Rattle.image_laws.proofs.CodeSizes.Programs.{few_for_each}
use Rattle.image_laws.proofs.laws.code_sizes.instructions_have_few_words.Goals as goal

pub returns : goal.returns
returns c = few_for_each
