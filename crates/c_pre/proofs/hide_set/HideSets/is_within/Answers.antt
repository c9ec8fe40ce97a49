use Rattle.std.proofs.lemmas.Bool.{eqb-true}
use Rattle.c_pre.proofs.Sets.{within_other}
use Rattle.c_pre.proofs.hide_set.HideSets.is_within.Goals as goal

pub returns : goal.returns
returns c = λ e.
    within_other c.args.self.now c.args.set c.loop-rest.rest c.args.other c.loop-rest.invariant.has
    (eqb-true c.loop-rest.rest.number c.args.set.number e)
