use Rattle.metadata_expansion.proofs.Laid.{HavePlaces}
use Rattle.metadata_expansion.proofs.layout.placed.Given as goal

abbrev pub invariant-loop-behind : goal.invariant-loop-behind
invariant-loop-behind g l =
    HavePlaces (g.B.BlockSource.block_for l.blocks) (g.B.BlockSource.beginning l.blocks) l.function l.descending.items
    l.place l.behind
