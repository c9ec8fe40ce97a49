use Rattle.std.proofs.Common.{arith}
use Rattle.data_flow.proofs.Solving.{found_more, grows_more, covered_new}
use Rattle.data_flow.proofs.solver.visit_run.Goals as goal

pub visit-requires-clause-inside : goal.visit-requires-clause-inside
visit-requires-clause-inside c =
    let f = c.run_start-first.ensures.run.stretch.forward in
    omega (arith, f, c.requires.inside)

pub returns-clause-found : goal.returns-clause-found
returns-clause-found c =
    found_more _ _ _ _ _ _ _ _ _ _ _ c.requires.found c.in_ok-visited.ensures.visits c.in_ok-push.ensures.items
    c.run_start-first.ensures.run c.run_start-first.ensures.free c.requires.reached

pub returns-clause-grows : goal.returns-clause-grows
returns-clause-grows c =
    grows_more _ _ _ _ _ _ _ _ c.in_ok-visited.ensures.visits c.in_ok-push.ensures.items

pub returns-clause-covered : goal.returns-clause-covered
returns-clause-covered c =
    let f = c.run_start-first.ensures.run.stretch.forward in
    covered_new _ _ _ c.in_ok-push.ensures.items c.args.node f (omega arith)
