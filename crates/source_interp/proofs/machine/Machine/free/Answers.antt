use Rattle.std.proofs.Common.{sym, ◌∙◌}
use Rattle.source_interp.proofs.Heaping.{frees_nothing, frees_something}
use Rattle.source_interp.proofs.machine.Machine.free.Goals as goal

pub returns-then-is_zero : goal.returns-then-is_zero
returns-then-is_zero c g o =
    frees_nothing g o c.args.pointer c.args.line c.args.self.now c.integer.result (sym c.is_zero.ensures ∙
    c.if-is_zero.true) c.integer.ensures

pub returns-else-is_zero : goal.returns-else-is_zero
returns-else-is_zero c g o =
    frees_something g o c.args.pointer c.args.line c.args.self.now c.free_some.new.self c.free_some.result (sym
    c.is_zero.ensures ∙ c.if-is_zero.false) (c.free_some.ensures g o)
