use Rattle.rv_listing.proofs.Trip.{read_back}
use Rattle.rv_listing.proofs.laws.a_listing_is_read_back.Goals as goal

pub returns : goal.returns
returns c = read_back
