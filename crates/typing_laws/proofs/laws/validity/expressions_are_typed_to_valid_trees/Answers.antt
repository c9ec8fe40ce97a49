use Rattle.typing_laws.proofs.Validity.Expressions.{typed_sound}
use Rattle.typing_laws.proofs.Validity.PointerCalls.{pointer_calls}
use Rattle.typing_laws.proofs.laws.validity.expressions_are_typed_to_valid_trees.Goals as goal

pub returns : goal.returns
returns c = λ scope last names. typed_sound scope last names (pointer_calls scope last)
