use Rattle.std.proofs.Common.{◌≡◌, ◌-◌, length, suc, ap, arith}
use Rattle.metadata_expansion.proofs.Laid.{node_fits, one_put}
use Rattle.metadata_expansion.proofs.body.put_nodes.Goals as goal

pub put_node-requires-clause-can : goal.put_node-requires-clause-can
put_node-requires-clause-can g c = c.requires.can.by _ _ c.instruction_at-instruction.ensures

pub put_node-requires-clause-small : goal.put_node-requires-clause-small
put_node-requires-clause-small g c =
    let put = g.B.BlockSource.block_for c.args.blocks.now in
    let begin = g.B.BlockSource.beginning c.args.blocks.now in
    let fit = node_fits put begin c.args.layout.now.function.now
    (length c.as_slice-count.result.now - 1 - c.loop-behind.behind)
    c.instruction_at-instruction.result.now c.requires.small c.instruction_at-instruction.ensures in
    omega (arith, fit)

pub loop-behind-preserved : goal.loop-behind-preserved
loop-behind-preserved g c =
    let put = g.B.BlockSource.block_for c.args.blocks.now in
    let begin = g.B.BlockSource.beginning c.args.blocks.now in
    let f = c.args.layout.now.function.now in
    let same : length c.as_slice-count.result.now ≡ length f.code = ap (λ is. length is) c.as_slice-count.ensures in
    let below = c.loop-behind-test.true in
    let at : length f.code - c.loop-behind.behind
    ≡ suc (length c.as_slice-count.result.now - 1 - c.loop-behind.behind) = omega (arith, same, below) in
    one_put put begin f c.args.code.now.items c.loop-behind.code.items
    c.put_node.new.code.items c.loop-behind.behind
    (length c.as_slice-count.result.now - 1 - c.loop-behind.behind) c.instruction_at-instruction.result.now at
    c.instruction_at-instruction.ensures c.loop-behind.invariant c.in_ok-put_node.ensures
