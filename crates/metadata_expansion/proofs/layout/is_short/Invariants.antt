use Rattle.std.proofs.Common.{◌≡◌, ◌+◌, drop}
use Rattle.metadata_plan.specs.Laid.{size_from}
use Rattle.metadata_expansion.specs.Laying.{laid_size}
use Rattle.metadata_expansion.proofs.layout.is_short.Given as goal

abbrev pub invariant-loop-node : goal.invariant-loop-node
invariant-loop-node g l =
    let put = g.B.BlockSource.block_for l.blocks in
    let begin = g.B.BlockSource.beginning l.blocks in
    l.size + size_from put begin l.function l.node (drop l.node l.function.code) ≡ laid_size put begin l.function
