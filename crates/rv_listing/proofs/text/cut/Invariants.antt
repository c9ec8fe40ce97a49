use Rattle.std.proofs.Common.{◌≡◌, drop, take, ◌++◌}
use Rattle.std.specs.Prelude.{option_map}
use Rattle.rv_listing.specs.Fields.{cut}
use Rattle.rv_listing.proofs.text.cut.Given as goal

abbrev pub invariant-loop-i : goal.invariant-loop-i
invariant-loop-i l =
    option_map (λ p. (take l.i l.text ++ p.0, p.1)) (cut l.mark (drop l.i l.text)) ≡ cut l.mark l.text
