use Rattle.source_meaning.specs.Actions.{updated}
use Rattle.source_meaning.proofs.Living.{lives_located, lives_read_scalar, lives_write_scalar, lives_move_bytes}
use Rattle.source_meaning.proofs.Living.{lives_load, lives_store, lives_read_lvalue, lives_write_lvalue}
use Rattle.source_meaning.proofs.Living.{lives_read_rvalue, lives_write_rvalue, lives_take_value, lives_updated}
use Rattle.source_meaning.proofs.Living.{lives_update, lives_operate, lives_make_object, lives_put_bytes}
use Rattle.source_meaning.proofs.Living.{lives_take_key, lives_set_plain, lives_update_plain, lives_zero_variable}
use Rattle.source_meaning.proofs.Living.{lives_store_bytes, lives_routine, lives_print, lives_callee, lives_set_up}
use Rattle.source_meaning.proofs.Living.{lives_enter_block, lives_make_zero}
use Rattle.source_meaning.proofs.laws.objects_die_where_they_are_freed.Goals as goal

pub returns : goal.returns
returns c = record {
  located = lives_located;
  read = lives_read_scalar;
  write = lives_write_scalar;
  moved = lives_move_bytes;
  load = lives_load;
  store = lives_store;
  read_lvalue = lives_read_lvalue;
  write_lvalue = lives_write_lvalue;
  read_rvalue = lives_read_rvalue;
  write_rvalue = lives_write_rvalue;
  taken = lives_take_value;
  made = lives_make_zero;
  updated = lives_updated;
  update = λ u k j p line right at f. lives_update k j p line (updated u k right at) f (lives_updated u k right at);
  operate = lives_operate;
  make = lives_make_object;
  put = lives_put_bytes;
  key = lives_take_key;
  plain = lives_set_plain;
  update_plain = λ u k x right at f. lives_update_plain x (updated u k right at) f (lives_updated u k right at);
  zero = lives_zero_variable;
  bytes = lives_store_bytes;
  routine = lives_routine;
  print = lives_print;
  callee = lives_callee;
  set_up = lives_set_up;
  enter = lives_enter_block;
}
