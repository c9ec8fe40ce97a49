use Rattle.source_meaning.proofs.ActionsAct.{acts_operate, local_load, local_store, acts_make_object, local_put_bytes}
use Rattle.source_meaning.proofs.ActionsAct.{acts_take_key, acts_located, acts_read_scalar, acts_write_scalar}
use Rattle.source_meaning.proofs.ActionsAct.{acts_move_bytes, acts_read_lvalue, acts_write_lvalue, acts_read_rvalue}
use Rattle.source_meaning.proofs.ActionsAct.{acts_write_rvalue, acts_take_value, acts_updated, acts_update}
use Rattle.source_meaning.proofs.ActionsAct.{acts_set_plain, acts_update_plain, acts_zero_variable, acts_store_bytes}
use Rattle.source_meaning.proofs.ActionsAct.{local_make_zero}
use Rattle.source_meaning.proofs.laws.accesses_are_actions.Goals as goal
use Rattle.source_meaning.specs.Actions.{updated}

pub returns : goal.returns
returns c = record {
  located = acts_located;
  read = acts_read_scalar;
  write = acts_write_scalar;
  moved = acts_move_bytes;
  read_lvalue = acts_read_lvalue;
  write_lvalue = acts_write_lvalue;
  read_rvalue = acts_read_rvalue;
  write_rvalue = acts_write_rvalue;
  taken = acts_take_value;
  made = λ kind. (local_make_zero kind).action;
  updated = acts_updated;
  update = λ u k j p line right at f. acts_update k j p line u right at f;
  operate = acts_operate;
  load = λ k j p line. (local_load k j p line).action;
  store = λ k j p line v. (local_store k j p line v).action;
  make = acts_make_object;
  put = λ bytes. (local_put_bytes bytes).action;
  key = acts_take_key;
  plain = acts_set_plain;
  update_plain = λ u k x right at f. acts_update_plain x (updated u k right at) f (acts_updated u k right at);
  zero = acts_zero_variable;
  bytes = acts_store_bytes;
}
