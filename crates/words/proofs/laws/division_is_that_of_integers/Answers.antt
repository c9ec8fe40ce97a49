use Rattle.words.proofs.Division.{divided, overflow_quotient, overflow_remainder}
use Rattle.words.proofs.laws.division_is_that_of_integers.Goals as goal

pub returns : goal.returns
returns c = record {
  division = divided;
  overflow_quotient = overflow_quotient;
  overflow_remainder = overflow_remainder;
}
