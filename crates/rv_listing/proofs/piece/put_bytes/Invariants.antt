use Rattle.std.proofs.Common.{◌≡◌, ◌++◌, drop}
use Rattle.std.specs.Prelude.{flat_map}
use Rattle.rv_listing.specs.Lines.{byte_text}
use Rattle.rv_listing.proofs.piece.put_bytes.Given as goal

abbrev pub invariant-loop-byte : goal.invariant-loop-byte
invariant-loop-byte l =
    l.text.items ++ flat_map byte_text (drop l.byte-index l.bytes) ≡ l.initial.text.items ++ flat_map byte_text l.bytes
