use Rattle.std.proofs.Common.{sym, ◌∙◌}
use Rattle.source_meaning.specs.Actions.{integer}
use Rattle.source_interp.specs.Comparing.{compare_some}
use Rattle.source_interp.proofs.Bytes.{does_nothing_as, does_something}
use Rattle.source_interp.proofs.machine.Machine.memcmp.Goals as goal

pub returns-then-is_zero : goal.returns-then-is_zero
returns-then-is_zero c g o =
    does_nothing_as g c.args.self.now o c.args.size (integer 0) c.integer.result (compare_some c.args.left
    c.args.right c.args.size.word c.args.line) (sym c.is_zero.ensures ∙ c.if-is_zero.true) c.integer.ensures

pub returns-else-is_zero : goal.returns-else-is_zero
returns-else-is_zero c g o =
    does_something g c.args.self.now c.compare_some.new.self o c.args.size (integer 0) (compare_some c.args.left
    c.args.right c.args.size.word c.args.line) c.compare_some.result (sym c.is_zero.ensures ∙
    c.if-is_zero.false) (c.compare_some.ensures g o)
