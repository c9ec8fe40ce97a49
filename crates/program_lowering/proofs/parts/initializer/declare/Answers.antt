use Rattle.std.proofs.Common.{arith, ◌-◌}
use Rattle.program_lowering.proofs.StatementParts.InitializerParts.{next_declared, declared_height}
use Rattle.program_lowering.proofs.parts.initializer.declare.Goals as goal

pub initializer-requires : goal.initializer-requires
initializer-requires c =
    omega (
      arith,
      c.requires,
      declared_height c.args.declared.now (c.loop-i.i - 1) c.index-declared-i.result
          (omega (arith, c.loop-i-test.true, c.loop-i.auto.i)) c.index-declared-i.is,
    )

pub loop-i-preserved : goal.loop-i-preserved
loop-i-preserved c =
    next_declared c.args.declared.now c.loop-i.i c.index-declared-i.result (omega (arith, c.loop-i-test.true))
    (omega (arith, c.loop-i.auto.i)) c.index-declared-i.is c.loop-i.invariant c.in_ok-node.ensures
