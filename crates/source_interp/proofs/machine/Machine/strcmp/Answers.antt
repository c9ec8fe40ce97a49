use Rattle.std.proofs.Common.{subst}
use Rattle.source_interp.specs.Standing.{Acts}
use Rattle.source_meaning.specs.Strings.{compare_within}
use Rattle.source_interp.proofs.machine.Machine.strcmp.Goals as goal

pub returns : goal.returns
returns c g o =
    subst (λ n. Acts g c.args.self.now c.compare_within.new.self o o c.compare_within.result (compare_within n
    c.args.left c.args.right c.args.line)) c.reach.ensures (c.compare_within.ensures g o)
