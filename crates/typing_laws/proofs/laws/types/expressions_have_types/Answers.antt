use Rattle.typing_laws.proofs.Types.Recursion.{typed_types}
use Rattle.typing_laws.proofs.laws.types.expressions_have_types.Goals as goal

-- src/laws.rt:12:1
pub returns : goal.returns
returns c = typed_types
