use Rattle.program_laws.proofs.Files.Ends.{owns_all}
use Rattle.program_laws.proofs.Files.StaticKinds.{entity_kind, entry_kind, literal_kind}
use Rattle.program_laws.proofs.Files.Statics.{in_order_by}
use Rattle.program_laws.proofs.laws.files.static_objects_have_kinds.Goals as goal

pub returns-clause-objects : goal.returns-clause-objects
returns-clause-objects c =
    λ objects end es f regular is. entry_kind f (in_order_by f (owns_all objects end es f regular is))

pub returns-clause-literals : goal.returns-clause-literals
returns-clause-literals c =
    λ objects end es f regular is. literal_kind f (in_order_by f (owns_all objects end es f regular is))

pub returns-clause-linked : goal.returns-clause-linked
returns-clause-linked c =
    λ objects end es f regular is. entity_kind f (in_order_by f (owns_all objects end es f regular is))
