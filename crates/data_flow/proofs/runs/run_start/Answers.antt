use Rattle.std.proofs.Common.{arith}
use Rattle.data_flow.proofs.Joining.{run_by}
use Rattle.data_flow.proofs.runs.run_start.Goals as goal

pub returns-in-Some-clause-run : goal.returns-in-Some-clause-run
returns-in-Some-clause-run c =
    let edges = c.args.edges.now in
    let from = c.first_from.ensures.from in
    run_by edges c.at-inner.result.inner c.first_from.result c.args.node
    (c.at-inner.ensures edges c.requires.stretches).inner (omega (arith, c.max.ensures, from))
    (c.first_from.ensures.stretch edges c.requires.stretches)

pub returns-in-None-clause-run : goal.returns-in-None-clause-run
returns-in-None-clause-run c =
    let edges = c.args.edges.now in
    run_by edges c.at-inner.result.inner c.first_from-in-None.result c.args.node
    (c.at-inner.ensures edges c.requires.stretches).inner c.first_from-in-None.ensures.from
    (c.first_from-in-None.ensures.stretch edges c.requires.stretches)

pub returns-in-Some-clause-free : goal.returns-in-Some-clause-free
returns-in-Some-clause-free c k low high h =
    let l = c.in-Some.ensures.1 k h high in
    let from = c.first_from.ensures.from in
    omega (arith, l, low, c.max.ensures, from)
