use Rattle.std.proofs.Common.{◌+◌, subst, refl, Ok}
use Rattle.source_meaning.specs.State.{tally}
use Rattle.source_interp.specs.Standing.{Acts}
use Rattle.source_interp.specs.Heaping.{add_block}
use Rattle.source_interp.proofs.Acting.{then_acts}
use Rattle.source_interp.proofs.machine.Machine.make_allocated.Goals as goal

pub returns-in-Some : goal.returns-in-Some
returns-in-Some c g o limits =
    then_acts g c.args.self.now c.tally.new.self c.add_block.new.self o o o (Ok tt) tt c.add_block.result (tally
    (1 + c.args.size)) (λ _. add_block c.args.address c.args.size) refl (subst (λ n. Acts g c.args.self.now
    c.tally.new.self o o (Ok tt) (tally n)) c.in-Some.ensures (c.tally.ensures g o)) (c.add_block.ensures g o
    limits)
