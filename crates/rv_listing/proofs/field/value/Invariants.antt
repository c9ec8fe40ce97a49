use Rattle.std.proofs.Common.{◌≡◌, drop, true}
use Rattle.rv_listing.specs.Fields.{are_digits, value_from}
use Rattle.rv_listing.proofs.field.value.Given as goal

abbrev pub invariant-loop-byte : goal.invariant-loop-byte
invariant-loop-byte l = record {
  digits : are_digits (drop l.byte-index l.text) ≡ true;
  value : value_from l.value (drop l.byte-index l.text) ≡ value_from 0 l.text;
}
