use Rattle.std.proofs.Common.{arith}
use Rattle.program_lowering.proofs.ProgramCode.InTurn.{done_more, done_all}
use Rattle.program_lowering.proofs.ProgramCode.Ready.{ready_at}
use Rattle.program_lowering.proofs.programs.program.lower_functions.Goals as goal

pub loop-i-preserved : goal.loop-i-preserved
loop-i-preserved c =
    done_more c.args.functions.now c.loop-i.i c.index-functions-i.result (omega (arith, c.loop-i-test.true))
    c.index-functions-i.is c.loop-i.invariant c.in_ok-done.ensures

pub with_function-requires : goal.with_function-requires
with_function-requires c =
    ready_at c.args.functions.now c.loop-i.i c.index-functions-i.result (omega (arith, c.loop-i-test.true))
    c.index-functions-i.is c.requires

pub returns : goal.returns
returns c =
    done_all c.args.functions.now c.loop-i.i (omega (arith, c.loop-i.auto.i-end, c.loop-i-test.false))
    c.loop-i.invariant
