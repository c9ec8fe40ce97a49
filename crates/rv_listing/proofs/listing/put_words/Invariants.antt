use Rattle.std.proofs.Common.{◌≡◌, ◌+◌, ◌++◌, ◌≤◌, length}
use Rattle.rv_listing.specs.Listings.{words, merged, with_zeros, text_of}
use Rattle.rv_listing.proofs.listing.put_words.Given as goal

abbrev pub invariant-loop-rest : goal.invariant-loop-rest
invariant-loop-rest l = record {
  text : l.text.items ++ text_of (with_zeros l.zeros (merged (words l.code l.place l.rest)))
      ≡ l.initial.text.items ++ text_of (merged (words l.code 0 l.bytes));
  place : l.place + length l.rest ≡ length l.bytes;
  zeros : l.zeros ≤ l.place;
}

abbrev pub decreases-loop-rest : goal.decreases-loop-rest
decreases-loop-rest l = length l.rest
