use Rattle.source_interp.proofs.Calling.{one_value}
use Rattle.source_interp.proofs.call.parameter_values.Goals as goal

pub loop-i-preserved : goal.loop-i-preserved
loop-i-preserved c =
    one_value c.args.parameters.now c.args.arguments.now c.loop-i.i c.nth-parameter.result c.loop-i-test.true
    c.nth-parameter.ensures c.loop-i.values.items c.push.new.self.items c.argument.result c.parameter_value.result
    c.loop-i.invariant c.argument.ensures c.parameter_value.ensures c.in_ok-push.ensures.items
