use Rattle.image_laws.proofs.CodeSizes.Lists.{function_length}
use Rattle.image_laws.proofs.laws.code_sizes.functions_have_few_words.Goals as goal

pub returns : goal.returns
returns c = λ m p plans f g ok there. function_length m p plans ok f g there
