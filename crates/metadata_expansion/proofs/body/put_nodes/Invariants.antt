use Rattle.metadata_expansion.proofs.Laid.{HaveCode}
use Rattle.metadata_expansion.proofs.body.put_nodes.Given as goal

abbrev pub invariant-loop-behind : goal.invariant-loop-behind
invariant-loop-behind g l =
    HaveCode (g.B.BlockSource.block_for l.blocks) (g.B.BlockSource.beginning l.blocks) l.layout.function.now
    l.initial.code.items l.code.items l.behind
