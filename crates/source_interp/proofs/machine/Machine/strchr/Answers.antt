use Rattle.std.proofs.Common.{subst}
use Rattle.source_interp.specs.Standing.{Acts}
use Rattle.obj_memory.specs.declared.int_type.IntType.TheVariants.{Char}
use Rattle.obj_memory.specs.Integers.{fit}
use Rattle.source_meaning.specs.Strings.{seek_within}
use Rattle.source_interp.proofs.machine.Machine.strchr.Goals as goal

pub returns : goal.returns
returns c g o =
    subst (λ n. Acts g c.args.self.now c.seek_within.new.self o o c.seek_within.result (seek_within n (fit Char
    c.args.byte.word) c.args.string c.args.line)) c.reach.ensures (subst (λ b. Acts g c.args.self.now
    c.seek_within.new.self o o c.seek_within.result (seek_within c.reach.result b c.args.string c.args.line))
    c.fit-sought.ensures (c.seek_within.ensures g o))
