use Rattle.flat_code.proofs.Routines.Regions.{laid_out}
use Rattle.flat_code.proofs.Routines.Spaces.Quiet.{quiet_allowed, quiet_shows}
use Rattle.flat_code.proofs.laws.spaces.quiet_code_shows_nothing.Goals as goal

pub returns-clause-allowed : goal.returns-clause-allowed
returns-clause-allowed c = quiet_allowed

pub returns-clause-shows : goal.returns-clause-shows
returns-clause-shows c = λ x is s mapped q. quiet_shows x is s (laid_out x.sizes mapped) q
