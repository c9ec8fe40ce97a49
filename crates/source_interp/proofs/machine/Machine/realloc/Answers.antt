use Rattle.std.proofs.Common.{sym, ◌∙◌}
use Rattle.source_interp.proofs.Heaping.{resizes_block, resizes_null}
use Rattle.source_interp.proofs.machine.Machine.realloc.Goals as goal

pub returns-then-is_zero : goal.returns-then-is_zero
returns-then-is_zero c g o limits =
    resizes_null g c.args.self.now c.allocate.new.self o c.args.old c.args.size c.args.line c.allocate.result
    (sym c.is_zero.ensures ∙ c.if-is_zero.true) (c.allocate.ensures g o limits)

pub returns-else-is_zero : goal.returns-else-is_zero
returns-else-is_zero c g o limits =
    resizes_block g c.args.self.now c.resize.new.self o c.args.old c.args.size c.args.line c.resize.result (sym
    c.is_zero.ensures ∙ c.if-is_zero.false) (c.resize.ensures g o limits)
