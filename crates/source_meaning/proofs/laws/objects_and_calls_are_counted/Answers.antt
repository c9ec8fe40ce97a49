use Rattle.source_meaning.proofs.Working.{counts_enter_block, counts_take, counts_zero, counts_set_up, counts_calls}
use Rattle.source_meaning.proofs.laws.objects_and_calls_are_counted.Goals as goal

pub returns : goal.returns
returns c = record {
  enter = counts_enter_block;
  taken = counts_take;
  zero = counts_zero;
  set_up = counts_set_up;
  call = counts_calls;
}
