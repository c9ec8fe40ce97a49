use Rattle.program_laws.proofs.Functions.Continuing.{bound_fills, bound_words}
use Rattle.program_laws.proofs.laws.functions.linked_names_have_types.Goals as goal

pub returns-clause-words : goal.returns-clause-words
returns-clause-words c = bound_words

pub returns-clause-sizes : goal.returns-clause-sizes
returns-clause-sizes c = bound_fills
