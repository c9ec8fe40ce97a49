use Rattle.std.proofs.Common.{length, length-append, ap, ◌∙◌, arith}
use Rattle.metadata_expansion.proofs.Laid.{node_list, same_jumps}
use Rattle.metadata_expansion.proofs.body.put_node.Goals as goal

pub returns : goal.returns
returns g c =
    let put = g.B.BlockSource.block_for c.args.blocks.now in
    let begin = g.B.BlockSource.beginning c.args.blocks.now in
    let l = c.args.layout.now in
    let i = c.args.instruction.now in
    let more = ap (λ is. length is) c.in_ok-put_block.ensures ∙ length-append c.args.code.now.items (put i) in
    let at = c.requires.laid.places.of c.args.node in
    node_list put begin l.function.now c.args.node _ i _ c.args.code.now.items
    c.ways_of.ensures (omega (arith, more, at)) c.in_ok-put_block.ensures
    (same_jumps put begin l.function.now l.places.now c.args.node _ _ _ _ c.requires.laid.places
    c.in_ok-put_jumps.ensures)
