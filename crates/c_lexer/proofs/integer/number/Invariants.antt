use Rattle.std.proofs.Common.{◌≡◌, drop}
use Rattle.c_lexer.specs.Constants.{number_from}
use Rattle.c_lexer.proofs.integer.number.Given as goal

abbrev pub invariant-loop-b : goal.invariant-loop-b
invariant-loop-b l = number_from l.base l.number (drop l.b-index l.digits) ≡ number_from l.base 0 l.digits
