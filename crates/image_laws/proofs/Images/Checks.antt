-- Checks put in and dropped again leave the rest of the code.
use Rattle.c_tree.specs.Programs.{Program}
use Rattle.tac_ir.specs.declared.function.Tac.{Tac}
use Rattle.check_insert.specs.SameButChecks.{SameButChecks}
use Rattle.check_insert.proofs.SameButChecks.{inserted_is_same}
use Rattle.check_elim.specs.Available.{IsDroppable}
use Rattle.check_elim.proofs.Rest.{same_but_checks}
use Rattle.image_laws.specs.Images.Images.{IsChecked}

pub same_as_lowered : (p : Program) (r : Tac) (h : IsChecked p r) → SameButChecks h.lowered r
same_as_lowered p r h =
    same_but_checks IsDroppable h.lowered h.checked r (inserted_is_same h.lowered h.checked h.inserted) h.dropped
