use Rattle.typing_laws.proofs.Validity.Constructs.{assigned_typed, cast_typed, chosen_typed, combined_typed}
use Rattle.typing_laws.proofs.Validity.Constructs.{indexed_typed}
use Rattle.typing_laws.proofs.Validity.Constructs.{prefixed_typed, printed_typed, sized_typed, stepped_typed}
use Rattle.typing_laws.proofs.Validity.Constructs.{value_typed}
use Rattle.typing_laws.proofs.laws.validity.operators_keep_operands_valid.Goals as goal

pub returns : goal.returns
returns c = record {
  value = value_typed;
  combined = combined_typed;
  assigned = assigned_typed;
  stepped = stepped_typed;
  prefixed = prefixed_typed;
  indexed = indexed_typed;
  sized = sized_typed;
  cast = cast_typed;
  chosen = chosen_typed;
  printed = printed_typed;
}
