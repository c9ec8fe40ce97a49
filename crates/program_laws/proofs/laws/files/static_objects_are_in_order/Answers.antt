use Rattle.program_laws.proofs.Files.Ends.{owns_all}
use Rattle.program_laws.proofs.Files.Statics.{in_order_by}
use Rattle.program_laws.proofs.laws.files.static_objects_are_in_order.Goals as goal

-- src/laws.rt:12:1
pub returns : goal.returns
returns c = λ objects end es f regular is. in_order_by f (owns_all objects end es f regular is)
