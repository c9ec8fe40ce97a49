use Rattle.std.proofs.Common.{}
use Rattle.source_interp.proofs.Heaping.{frees_dead, frees_live}
use Rattle.source_interp.proofs.machine.Machine.find_freed.Goals as goal

pub returns-then-is_live : goal.returns-then-is_live
returns-then-is_live c g o =
    frees_live g c.args.self.now c.freed_at.new.self o c.args.number c.args.address c.args.line
    c.freed_at.result c.is_live.result c.is_block_start-is_start.result c.is_live.ensures
    c.is_block_start-is_start.ensures c.if-is_live.true (c.freed_at.ensures g o)

pub returns-else-is_live : goal.returns-else-is_live
returns-else-is_live c g o =
    frees_dead g c.args.self.now o c.args.number c.args.address c.args.line c.is_live.result c.is_live.ensures
    c.if-is_live.false
