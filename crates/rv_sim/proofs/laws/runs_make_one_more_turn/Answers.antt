use Rattle.rv_sim.proofs.Runs.{runs-zero, runs-suc}
use Rattle.rv_sim.proofs.laws.runs_make_one_more_turn.Goals as goal

pub returns : goal.returns
returns c = record { none = runs-zero; more = runs-suc }
