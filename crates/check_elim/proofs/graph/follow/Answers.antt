use Rattle.check_elim.proofs.Exploring.{stepped}
use Rattle.check_elim.proofs.graph.follow.Goals as goal

pub returns-clause-exploring : goal.returns-clause-exploring
returns-clause-exploring c = (stepped _ _ _ _ _ c.args.node c.index-as_slice-node.result _ _ c.as_slice.ensures
    c.requires.here c.index-as_slice-node.is c.requires.path c.requires.exploring c.ways_of-ways.ensures
    c.in_ok-followed.ensures.follows c.in_ok-followed.ensures.list c.in_ok-followed.ensures.rows).exploring

pub returns-clause-followed : goal.returns-clause-followed
returns-clause-followed c = (stepped _ _ _ _ _ c.args.node c.index-as_slice-node.result _ _ c.as_slice.ensures
    c.requires.here c.index-as_slice-node.is c.requires.path c.requires.exploring c.ways_of-ways.ensures
    c.in_ok-followed.ensures.follows c.in_ok-followed.ensures.list c.in_ok-followed.ensures.rows).followed

pub returns-clause-kept : goal.returns-clause-kept
returns-clause-kept c = (stepped _ _ _ _ _ c.args.node c.index-as_slice-node.result _ _ c.as_slice.ensures
    c.requires.here c.index-as_slice-node.is c.requires.path c.requires.exploring c.ways_of-ways.ensures
    c.in_ok-followed.ensures.follows c.in_ok-followed.ensures.list c.in_ok-followed.ensures.rows).kept
