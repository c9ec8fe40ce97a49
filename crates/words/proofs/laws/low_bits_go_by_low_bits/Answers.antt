use Rattle.std.proofs.lemmas.Nat.{and_mod, or_mod, xor_mod}
use Rattle.words.proofs.Narrowing.{low_of_low, low_sum, low_difference, low_product, low_complement, low_shift}
use Rattle.words.proofs.laws.low_bits_go_by_low_bits.Goals as goal

pub returns : goal.returns
returns c = record {
  again = low_of_low;
  sum = low_sum;
  difference = low_difference;
  product = low_product;
  complement = low_complement;
  shift = low_shift;
  and = λ k x y. and_mod x y k;
  or = λ k x y. or_mod x y k;
  xor = λ k x y. xor_mod x y k;
}
