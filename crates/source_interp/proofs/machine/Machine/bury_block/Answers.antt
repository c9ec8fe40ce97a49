use Rattle.std.proofs.Common.{refl}
use Rattle.source_interp.proofs.Burying.{buries_block}
use Rattle.source_interp.proofs.machine.Machine.bury_block.Goals as goal

pub returns-in-Some : goal.returns-in-Some
returns-in-Some c is g o =
    buries_block g o c.args.self.now (record c.args.self.now { store = c.bury.new.self; blocks = c.remove.new.self })
    c.args.number c.in-Some.block is c.in-Some.ensures c.remove.ensures c.bury.ensures refl
