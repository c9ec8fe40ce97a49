use Rattle.rv_sim.proofs.Steps.{step-word}
use Rattle.rv_sim.proofs.laws.step_executes_the_word_at_pc.Goals as goal

pub returns : goal.returns
returns c = step-word
