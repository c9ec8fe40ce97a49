use Rattle.check_elim.specs.Seeking.{fact_of}
use Rattle.check_elim.proofs.Exploring.{at_node}
use Rattle.check_elim.proofs.Searching.{visited_new}
use Rattle.check_elim.proofs.search.step_back.Goals as goal

pub returns-in_ok-put-in-Passing-clause-new : goal.returns-in_ok-put-in-Passing-clause-new
returns-in_ok-put-in-Passing-clause-new c =
    visited_new c.args.sought.now.function.now (fact_of c.args.sought.now) _ _ c.args.node
    c.index-as_slice-node.result c.role_of.result c.in_ok-put-in-Passing.ensures.puts
    (at_node _ _ c.args.node c.index-as_slice-node.result c.as_slice.ensures c.requires.inside
    c.index-as_slice-node.is) c.role_of.ensures c.in-Passing.is
