use Rattle.words.proofs.Bits.{extended_and, extended_or, extended_xor}
use Rattle.words.proofs.Narrowing.{low_quotient, extended_remainder}
use Rattle.words.proofs.Order.{extended_less}
use Rattle.words.proofs.Shifts.{extended_shift}
use Rattle.words.proofs.laws.extended_operands_give_extended_results.Goals as goal

pub returns : goal.returns
returns c = record {
  order = extended_less;
  remainder = extended_remainder;
  shift = extended_shift;
  and = extended_and;
  or = extended_or;
  xor = extended_xor;
  quotient = low_quotient;
}
