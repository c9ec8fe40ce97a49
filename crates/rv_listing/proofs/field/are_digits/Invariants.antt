use Rattle.std.proofs.Common.{◌≡◌, drop}
use Rattle.rv_listing.specs.Fields.{are_digits}
use Rattle.rv_listing.proofs.field.are_digits.Given as goal

abbrev pub invariant-loop-byte : goal.invariant-loop-byte
invariant-loop-byte l = are_digits (drop l.byte-index l.text) ≡ are_digits l.text
