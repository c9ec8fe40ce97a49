use Rattle.source_meaning.specs.Good.{Any}
use Rattle.source_meaning.proofs.Sure.{sure_post, sure_weak}
use Rattle.source_meaning.proofs.SureActions.{sure_load, sure_store, sure_update, sure_updated, sure_operate}
use Rattle.source_meaning.proofs.SureActions.{sure_callee, sure_update_plain, sure_set_plain, sure_zero_variable}
use Rattle.source_meaning.proofs.SureActions.{sure_put_bytes, sure_take_key}
use Rattle.source_meaning.proofs.SureStructures.{sure_read_rvalue, sure_write_rvalue, take_sure}
use Rattle.source_meaning.proofs.SureLibrary.{sure_routine}
use Rattle.source_meaning.proofs.SureBytes.{sure_print}
use Rattle.source_meaning.proofs.laws.actions_keep_states_good.Goals as goal

pub returns : goal.returns
returns c = record {
  read = λ sc b kind q line. sure_read_rvalue b kind q line;
  write = λ sc b kind q line v. sure_write_rvalue b kind q line v;
  taken = λ sc kind line v. take_sure kind line v;
  load = λ sc b k q line. sure_load b k q line;
  store = λ sc b k q line v. sure_store b k q line v;
  update = λ sc b k q line u w right at f. sure_update b k q line u w right at f;
  updated = λ sc u k w right line old. sure_post (λ v o h. h.1)
      (sure_weak (λ o h. (tt, h)) (sure_updated {P = Any} u k w right line old));
  operate = λ sc op t x y line result r. sure_operate op t x y line result r;
  callee = λ sc functions type_number v line. sure_callee functions type_number v line;
  update_plain = λ sc u k x w named right at f. sure_update_plain x u k w named right at f;
  plain = λ sc x k e v. sure_set_plain x k e v;
  zero = λ sc x. sure_zero_variable x;
  put = λ sc bytes. sure_put_bytes bytes;
  key = λ sc g line. sure_take_key g line;
  routine = λ sc g mapped same r vs line. sure_routine g mapped same r vs line;
  print = λ sc format vs line. sure_print format vs line;
}
