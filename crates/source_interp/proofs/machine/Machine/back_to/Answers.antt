use Rattle.std.proofs.Common.{subst}
use Rattle.source_meaning.specs.State.{change}
use Rattle.source_interp.specs.Standing.{Acts}
use Rattle.source_meaning.specs.Blocks.{without_homes}
use Rattle.source_interp.proofs.Calling.{returns_to}
use Rattle.source_interp.proofs.machine.Machine.back_to.Goals as goal

pub returns : goal.returns
returns c g o =
    returns_to g o c.args.self.now c.swap_frame-homes.new.self c.bury_all.new.self c.args.caller
    c.swap_frame-homes.result c.bury_all.result c.swap_frame-homes.ensures.homes
    (c.swap_frame-homes.ensures.frame g o) (subst (λ hs. Acts g c.swap_frame-homes.new.self c.bury_all.new.self
    o o c.bury_all.result (change (λ s. record s { objects = without_homes hs s.objects }))) c.as_slice.ensures
    (c.bury_all.ensures g o))
