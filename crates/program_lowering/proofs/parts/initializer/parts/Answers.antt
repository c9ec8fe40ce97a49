use Rattle.std.proofs.Common.{arith, ◌-◌}
use Rattle.program_lowering.proofs.StatementParts.InitializerParts.{next_part, part_height}
use Rattle.program_lowering.proofs.parts.initializer.parts.Goals as goal

pub content-requires : goal.content-requires
content-requires c =
    omega (
      arith,
      c.requires,
      part_height c.args.parts.now (c.loop-i.i - 1) c.index-parts-i.result
          (omega (arith, c.loop-i-test.true, c.loop-i.auto.i)) c.index-parts-i.is,
    )

pub loop-i-preserved : goal.loop-i-preserved
loop-i-preserved c =
    next_part c.args.parts.now c.loop-i.i c.index-parts-i.result (omega (arith, c.loop-i-test.true))
    (omega (arith, c.loop-i.auto.i)) c.index-parts-i.is c.loop-i.invariant c.in_ok-node.ensures
