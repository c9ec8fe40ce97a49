use Rattle.std.proofs.Common.{arith}
use Rattle.data_flow.proofs.Joining.{alone, cover_begins}
use Rattle.data_flow.proofs.cover.nearest.Goals as goal

pub returns-then-node-low : goal.returns-then-node-low
returns-then-node-low c = alone c.args.graph.now.edges.now c.args.node

pub loop-init : goal.loop-init
loop-init c = cover_begins c.args.graph.now.edges.now c.args.node c.least-low.result
    (omega (arith, c.if-node-low.false)) c.least-low.ensures

pub returns-in-Nothing : goal.returns-in-Nothing
returns-in-Nothing c = alone c.args.graph.now.edges.now c.args.node

pub returns : goal.returns
returns c = alone c.args.graph.now.edges.now c.args.node
