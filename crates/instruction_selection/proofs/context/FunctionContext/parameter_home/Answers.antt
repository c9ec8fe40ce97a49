use Rattle.std.proofs.Common.{arith}
use Rattle.instruction_selection.proofs.Lists.{parameter_home_below}
use Rattle.instruction_selection.proofs.context.FunctionContext.parameter_home.Goals as goal

pub returns-clause-room : goal.returns-clause-room
returns-clause-room c =
    let below = parameter_home_below c.args.self.now.registers.now c.args.self.now.function.now c.args.number
    c.args.parameter c.requires.registers c.requires.there c.requires.object in
    let here = c.home.ensures in
    omega (arith, below, here)
