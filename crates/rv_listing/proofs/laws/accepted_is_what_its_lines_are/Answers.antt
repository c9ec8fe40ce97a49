use Rattle.rv_listing.proofs.Accepted.{accepted}
use Rattle.rv_listing.proofs.laws.accepted_is_what_its_lines_are.Goals as goal

pub returns : goal.returns
returns c = accepted
