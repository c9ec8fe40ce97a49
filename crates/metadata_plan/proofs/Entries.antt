-- Every temporary may have an entry.
use Rattle.std.specs.Prelude.{refl}
use Rattle.tac_ir.specs.declared.function.CodeFunction.{CodeFunction}
use Rattle.tac_ir.specs.declared.function.Tac.{Tac}
use Rattle.metadata_plan.specs.Entries.{AreClosed, every}

pub every_is_closed : (t : Tac) (c : CodeFunction) → AreClosed t c every
every_is_closed t c = record {
  read = λ n y i is reads. refl;
  kept = λ n m y i is leads other has. refl;
  made = λ n m d a i is leads gives source has. refl;
}
