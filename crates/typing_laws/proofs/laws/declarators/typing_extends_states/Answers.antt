use Rattle.typing_laws.proofs.Declarators.Recursion.{name_extends, shape_extends, specification_extends, typed_extends}
use Rattle.typing_laws.proofs.laws.declarators.typing_extends_states.Goals as goal

pub returns : goal.returns
returns c = record {
  expression = typed_extends;
  name = name_extends;
  declarator = shape_extends;
  specifiers = specification_extends;
}
