use Rattle.std.proofs.Common.{sym, subst, ◌∙◌}
use Rattle.source_interp.specs.Standing.{Acts}
use Rattle.obj_memory.specs.declared.int_type.IntType.TheVariants.{UnsignedChar}
use Rattle.obj_memory.specs.Integers.{fit}
use Rattle.source_interp.specs.Routines.{set_some}
use Rattle.source_interp.proofs.Bytes.{does_nothing, does_something}
use Rattle.source_interp.proofs.machine.Machine.memset.Goals as goal

pub returns-then-is_zero : goal.returns-then-is_zero
returns-then-is_zero c g o =
    does_nothing g c.args.self.now o c.args.size c.args.to (set_some c.args.to (fit UnsignedChar
    c.args.byte.word) c.args.size.word c.args.line) (sym c.is_zero.ensures ∙ c.if-is_zero.true)

pub returns-else-is_zero : goal.returns-else-is_zero
returns-else-is_zero c g o =
    does_something g c.args.self.now c.set_some.new.self o c.args.size c.args.to (set_some c.args.to (fit
    UnsignedChar c.args.byte.word) c.args.size.word c.args.line) c.set_some.result (sym c.is_zero.ensures ∙
    c.if-is_zero.false) (subst (λ b. Acts g c.args.self.now c.set_some.new.self o o c.set_some.result (set_some
    c.args.to b c.args.size.word c.args.line)) c.low_byte.ensures (c.set_some.ensures g o))
