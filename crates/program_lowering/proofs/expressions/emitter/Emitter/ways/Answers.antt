use Rattle.program_lowering.proofs.ExpressionCode.Growing.{three_ways}
use Rattle.program_lowering.proofs.expressions.emitter.Emitter.ways.Goals as goal

pub returns : goal.returns
returns c = three_ways c.in_ok-zero.ensures c.in_ok-one.ensures c.in_ok-test.ensures
