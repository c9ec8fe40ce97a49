use Rattle.std.proofs.Common.{◌≡◌, drop}
use Rattle.std.specs.List.{list_any}
use Rattle.rv_listing.specs.Listings.{holds_word}
use Rattle.rv_listing.proofs.listing.is_code.Given as goal

abbrev pub invariant-loop-range : goal.invariant-loop-range
invariant-loop-range l =
    list_any (holds_word l.place) (drop l.range-index l.ranges) ≡ list_any (holds_word l.place) l.ranges
