use Rattle.addr_map.proofs.Order.{in_order, ends_low, starts_whole, ends_whole}
use Rattle.addr_map.proofs.laws.regions_stand_in_order.Goals as goal

pub returns : goal.returns
returns c = record { apart = in_order; low = ends_low; pages = starts_whole; whole = ends_whole }
