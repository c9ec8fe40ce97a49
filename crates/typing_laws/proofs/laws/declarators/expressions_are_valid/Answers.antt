use Rattle.typing_laws.proofs.Validity.Expressions.{typed_sound}
use Rattle.typing_laws.proofs.Validity.PointerCalls.{pointer_calls}
use Rattle.typing_laws.proofs.Declarators.Known.{type_names}
use Rattle.typing_laws.proofs.laws.declarators.expressions_are_valid.Goals as goal

pub returns : goal.returns
returns c = λ scope last. typed_sound scope last (type_names scope last) (pointer_calls scope last)
