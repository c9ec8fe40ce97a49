use Rattle.std.proofs.Common.{subst, true}
use Rattle.source_interp.specs.Standing.{Acts}
use Rattle.source_meaning.specs.Strings.{scan_within}
use Rattle.source_interp.specs.Routines.{behind_scan}
use Rattle.source_interp.proofs.machine.Machine.scan.Goals as goal

pub returns : goal.returns
returns c g o =
    subst (λ n. Acts g c.args.self.now c.scan_within.new.self o o c.scan_within.result (scan_within n
    (behind_scan true c.args.line) c.args.string c.args.line)) c.reach.ensures (c.scan_within.ensures g o)
