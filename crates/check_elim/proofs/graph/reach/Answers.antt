use Rattle.check_elim.proofs.Exploring.{related_one}
use Rattle.check_elim.proofs.graph.reach.Goals as goal

pub returns-in_ok-put-clause-follows : goal.returns-in_ok-put-clause-follows
returns-in_ok-put-clause-follows c =
    related_one _ _ _ _ _ _ _ c.in_ok-relate.ensures.added c.in_ok-relate.ensures.others c.in_ok-put.ensures.puts
