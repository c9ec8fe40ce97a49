use Rattle.flat_code.proofs.Routines.ExitStubs.{stubbed}
use Rattle.flat_code.proofs.laws.routines.endings_may_be_exit_stubs.Goals as goal

pub returns : goal.returns
returns c = stubbed
