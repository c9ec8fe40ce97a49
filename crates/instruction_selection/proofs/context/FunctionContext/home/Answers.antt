use Rattle.std.proofs.Common.{arith}
use Rattle.instruction_selection.proofs.Lists.{home_below}
use Rattle.instruction_selection.proofs.context.FunctionContext.home.Goals as goal

pub returns-clause-room : goal.returns-clause-room
returns-clause-room c =
    let below = home_below c.args.self.now.registers.now c.args.self.now.function.now c.args.number c.requires in
    let here = c.home.ensures in
    omega (arith, below, here)
