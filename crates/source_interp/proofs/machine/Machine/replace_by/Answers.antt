use Rattle.std.proofs.Common.{sym, ◌∙◌}
use Rattle.source_interp.specs.Heaping.{move_to}
use Rattle.source_interp.proofs.Bytes.{does_nothing, does_something}
use Rattle.source_interp.proofs.machine.Machine.replace_by.Goals as goal

pub returns-then-is_zero : goal.returns-then-is_zero
returns-then-is_zero c g o =
    does_nothing g c.args.self.now o c.args.new c.args.new (move_to c.args.number c.args.new c.args.size
    c.args.line) (sym c.is_zero.ensures ∙ c.if-is_zero.true)

pub returns-else-is_zero : goal.returns-else-is_zero
returns-else-is_zero c g o =
    does_something g c.args.self.now c.move_to.new.self o c.args.new c.args.new (move_to c.args.number
    c.args.new c.args.size c.args.line) c.move_to.result (sym c.is_zero.ensures ∙ c.if-is_zero.false)
    (c.move_to.ensures g o)
