use Rattle.typing_laws.proofs.Declarations.Variables.{declared_has_size, declared_is_variable, static_is}
use Rattle.typing_laws.proofs.Declarations.Variables.{variable_is}
use Rattle.typing_laws.proofs.laws.declarations.declared_objects_are_of_the_kind_of_their_type.Goals as goal

pub returns : goal.returns
returns c =
    record { variable = variable_is; object = static_is; valid = declared_is_variable; sized = declared_has_size }
