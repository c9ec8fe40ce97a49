use Rattle.typing_laws.proofs.Violations.ExpressionOrder.{expression_in_order}
use Rattle.typing_laws.proofs.Violations.FileOrder.{file_order}
use Rattle.typing_laws.proofs.laws.violations.violations_are_in_the_order_of_the_tokens.Goals as goal

pub returns : goal.returns
returns c = record { source = file_order; expression = expression_in_order }
