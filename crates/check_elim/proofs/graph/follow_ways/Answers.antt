use Rattle.std.proofs.Common.{ap}
use Rattle.tac_ir.specs.Ways.{nodes_of}
use Rattle.check_elim.proofs.Exploring.{follows_both}
use Rattle.check_elim.proofs.graph.follow_ways.Goals as goal

pub returns-in_ok-reached_both-in-Either-clause-follows :
    goal.returns-in_ok-reached_both-in-Either-clause-follows
returns-in_ok-reached_both-in-Either-clause-follows c =
    follows_both _ _ _ c.in-Either.next c.in-Either.other _ (ap nodes_of c.in-Either.is)
    c.in_ok-reach-in-Either.ensures.rows c.in_ok-reach-in-Either.ensures.follows
    c.in_ok-reached_both-in-Either.ensures.follows
