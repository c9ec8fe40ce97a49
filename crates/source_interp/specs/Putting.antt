-- Calls of code that put out bytes.
use Rattle.std.specs.Prelude.{ℕ, List, Option, Result}
use Rattle.behaviours.specs.Shown.{Access}
use Rattle.source_meaning.specs.State.{Run, Setting}
use Rattle.source_interp.specs.declared.machine.Machine.{Machine}
use Rattle.source_interp.specs.declared.stop.Stop.{Stop}
use Rattle.source_interp.specs.Outside.{outside}
use Rattle.source_interp.specs.Standing.{Acts}

-- a call that the output alone is told of does what a run does
abbrev pub ActsPutting : {A : Type 0} → (old new : Machine) → (before now : Option (List ℕ)) → Result A Stop → Run A
    → Type 0
ActsPutting old new before now result run = (g : Setting) (accesses : Option (List Access)) (input : List ℕ)
    → Acts g old new (outside before accesses input) (outside now accesses input) result run
