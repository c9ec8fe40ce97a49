use Rattle.typing_laws.proofs.Layouts.Behind.{expression_behind, name_behind, shape_behind}
use Rattle.typing_laws.proofs.Layouts.Behind.{specification_behind}
use Rattle.typing_laws.proofs.laws.layouts.typing_keeps_states_laid_out.Goals as goal

pub returns : goal.returns
returns c = record {
  expression = expression_behind;
  name = name_behind;
  declarator = shape_behind;
  specifiers = specification_behind;
}
