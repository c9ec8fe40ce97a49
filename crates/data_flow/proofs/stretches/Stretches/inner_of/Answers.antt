use Rattle.std.proofs.Common.{refl, arith}
use Rattle.data_flow.proofs.Joining.{inner_more}
use Rattle.data_flow.proofs.stretches.Stretches.inner_of.Goals as goal

pub loop-first-preserved : goal.loop-first-preserved
loop-first-preserved c =
    let edges = c.args.graph.now.edges.now in
    inner_more edges c.loop-first.first c.args.node c.at-first.result.inner c.loop-first.invariant
    (omega (arith, c.loop-first-test.true)) (c.if-stays.ensures refl) (c.at-first.ensures edges c.requires.stretches).inner
