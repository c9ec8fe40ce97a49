use Rattle.typing_laws.proofs.SpelledTypes.Words.{spelled_sized}
use Rattle.typing_laws.proofs.laws.spelled_types.spelled_types_are_sized.Goals as goal

-- src/laws.rt:10:1
pub returns : goal.returns
returns c = λ es type e. spelled_sized es 1 type e
