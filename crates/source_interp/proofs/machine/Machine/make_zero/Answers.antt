use Rattle.std.proofs.Common.{refl, Ok, subst}
use Rattle.source_meaning.specs.State.{done, tally}
use Rattle.source_meaning.specs.Structures.{contents_size, zero_of}
use Rattle.source_interp.specs.Standing.{Acts}
use Rattle.source_interp.proofs.Acting.{then_acts}
use Rattle.source_interp.proofs.machine.Machine.make_zero.Goals as goal

pub returns : goal.returns
returns c g o =
    then_acts g c.args.self.now c.tally.new.self c.tally.new.self o o o (Ok tt) tt c.zero_of.result (tally
    (contents_size c.args.kind)) (λ _. done (zero_of c.args.kind)) refl (subst (λ n. Acts g c.args.self.now
    c.tally.new.self o o (Ok tt) (tally n)) c.contents_size.ensures (c.tally.ensures g o)) (c.zero_of.ensures g o)
