use Rattle.metadata_expansion.specs.Laying.{laid_size}
use Rattle.metadata_expansion.proofs.Small.{one_counted}
use Rattle.metadata_expansion.proofs.layout.is_short.Goals as goal

pub node_size-requires-clause-can : goal.node_size-requires-clause-can
node_size-requires-clause-can g c = c.requires.can.by _ _ c.instruction_at-instruction.ensures

pub loop-node-preserved : goal.loop-node-preserved
loop-node-preserved g c =
    let put = g.B.BlockSource.block_for c.args.blocks.now in
    let begin = g.B.BlockSource.beginning c.args.blocks.now in
    let f = c.args.function.now in
    one_counted put begin f c.loop-node.size c.in_ok-size-2.field-0 (laid_size put begin f) c.loop-node.node
    c.instruction_at-instruction.result.now c.instruction_at-instruction.ensures c.in_ok-size-2.ensures.value
    c.loop-node.invariant
