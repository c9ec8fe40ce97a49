use Rattle.std.proofs.Common.{sym, ◌∙◌}
use Rattle.source_interp.specs.Routines.{copy_some}
use Rattle.source_interp.proofs.Bytes.{does_nothing, does_something}
use Rattle.source_interp.proofs.machine.Machine.strncpy.Goals as goal

pub returns-then-is_zero : goal.returns-then-is_zero
returns-then-is_zero c g o =
    does_nothing g c.args.self.now o c.args.size c.args.to (copy_some c.args.to c.args.from c.args.size.word
    c.args.line) (sym c.is_zero.ensures ∙ c.if-is_zero.true)

pub returns-else-is_zero : goal.returns-else-is_zero
returns-else-is_zero c g o =
    does_something g c.args.self.now c.copy_some.new.self o c.args.size c.args.to (copy_some c.args.to
    c.args.from c.args.size.word c.args.line) c.copy_some.result (sym c.is_zero.ensures ∙ c.if-is_zero.false)
    (c.copy_some.ensures g o)
