use Rattle.typing_laws.proofs.Validity.Kept.{agrees_kept, arguments_kept, operand_kept, value_kept}
use Rattle.typing_laws.proofs.laws.validity.completed_structures_keep_operands_valid.Goals as goal

pub returns : goal.returns
returns c = record {
  operand = operand_kept;
  value = value_kept;
  arguments = arguments_kept;
  function_type = λ s more h ws x. agrees_kept s more h ws x.parameters x.result;
}
