use Rattle.std.proofs.lemmas.List.{length-map}
use Rattle.source_meaning.proofs.laws.calls_keep_states_good.Goals as goal
use Rattle.source_meaning.proofs.SureMeaning.{calls_good, inside_good, start_good}
use Rattle.source_meaning.proofs.ValidProgramNames.{valid_names}

pub returns : goal.returns
returns c = record {
  call = λ p budgets mapped valid. calls_good p budgets mapped (valid_names p valid);
  inside = λ p budgets mapped valid. inside_good p budgets mapped (valid_names p valid);
  functions = λ p. length-map p.functions _;
  start = λ p budgets mapped valid. start_good p budgets mapped (valid_names p valid);
}
