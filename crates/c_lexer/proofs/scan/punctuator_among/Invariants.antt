use Rattle.std.proofs.Common.{◌≡◌, drop}
use Rattle.std.specs.Prelude.{nat_eq}
use Rattle.std.specs.List.{find, starts_with}
use Rattle.c_lexer.specs.Spellings.{punctuator_spelling}
use Rattle.c_lexer.proofs.scan.punctuator_among.Given as goal

abbrev pub invariant-loop-punctuator : goal.invariant-loop-punctuator
invariant-loop-punctuator l =
    find (λ p. starts_with nat_eq l.text (punctuator_spelling p)) (drop l.punctuator-index l.table)
    ≡ find (λ p. starts_with nat_eq l.text (punctuator_spelling p)) l.table
