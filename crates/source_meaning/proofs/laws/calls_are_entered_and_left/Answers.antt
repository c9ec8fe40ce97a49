use Rattle.source_meaning.proofs.SureMeaning.{call_set_up, call_left}
use Rattle.source_meaning.proofs.ValidProgramNames.{valid_names}
use Rattle.source_meaning.proofs.laws.calls_are_entered_and_left.Goals as goal

pub returns : goal.returns
returns c = record {
  enter = λ p budgets mapped valid. call_set_up p budgets mapped (valid_names p valid);
  leave = λ p budgets mapped valid. call_left p budgets mapped (valid_names p valid);
}
