use Rattle.std.proofs.Common.{◌≡◌, drop}
use Rattle.std.specs.List.{find}
use Rattle.std.specs.Str.{bytes_eq}
use Rattle.rv_listing.specs.Names.{name_of}
use Rattle.rv_listing.proofs.mnemonic.named_among.Given as goal

abbrev pub invariant-loop-mnemonic : goal.invariant-loop-mnemonic
invariant-loop-mnemonic l =
    find (λ m. bytes_eq (name_of m) l.text) (drop l.mnemonic-index l.table)
    ≡ find (λ m. bytes_eq (name_of m) l.text) l.table
