use Rattle.source_meaning.proofs.SureMeaning.{run_sound}
use Rattle.source_meaning.proofs.ValidProgramNames.{valid_names}
use Rattle.source_meaning.proofs.laws.runs_keep_objects_sound.Goals as goal

pub returns : goal.returns
returns c = λ p budgets mapped valid input t. run_sound p budgets mapped (valid_names p valid) input t
