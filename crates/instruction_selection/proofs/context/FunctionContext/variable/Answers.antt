use Rattle.std.proofs.Common.{arith}
use Rattle.instruction_selection.proofs.Lists.{variable_below}
use Rattle.instruction_selection.proofs.context.FunctionContext.variable.Goals as goal

pub returns-clause-room : goal.returns-clause-room
returns-clause-room c =
    let below = variable_below c.args.self.now.registers.now c.args.self.now.function.now c.args.number c.requires in
    let here = c.variable.ensures in
    omega (arith, below, here)
