use Rattle.std.proofs.Common.{◌≡◌, drop, []}
use Rattle.c_tree.specs.declared.format.Place.TheVariants.{Text}
use Rattle.c_call_rules.specs.Scanning.{scanned}
use Rattle.c_call_rules.proofs.format.scanned.Given as goal

abbrev pub invariant-loop-byte : goal.invariant-loop-byte
invariant-loop-byte l =
    scanned l.place l.found.items (drop l.byte-index l.format) ≡ scanned Text [] l.format
