-- What an instruction leads to comes later in the run.
use Rattle.source_meaning.specs.State.{State}
use Rattle.source_meaning.specs.Acting.{Later}
use Rattle.tac_ir.specs.Stage.{Stage, Begins, Stands, Over, Stuck}

abbrev pub LaterBy : State → Stage → Type 0
LaterBy s (Begins z) = Unit {0}
LaterBy s (Stands u n temps frames z) = Later s z
LaterBy s (Over e z) = Later s z
LaterBy s Stuck = Unit {0}

pub record ComesLater (state : State) (stage : Stage) : Type 0 where
  pub by : LaterBy state stage
