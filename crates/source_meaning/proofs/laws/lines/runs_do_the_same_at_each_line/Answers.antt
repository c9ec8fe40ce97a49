use Rattle.source_meaning.proofs.Lines.{lines_routine, lines_print, lines_enter_block, lines_set_up, lines_callee}
use Rattle.source_meaning.proofs.Lines.{lines_key, lines_located, lines_load, lines_store, lines_read_lvalue}
use Rattle.source_meaning.proofs.Lines.{lines_write_lvalue, lines_read_rvalue, lines_write_rvalue, lines_take_value}
use Rattle.source_meaning.proofs.Lines.{lines_operate, lines_updated, lines_update, lines_update_plain}
use Rattle.source_meaning.proofs.laws.lines.runs_do_the_same_at_each_line.Goals as goal

pub returns : goal.returns
returns c = record {
  routine = lines_routine;
  print = lines_print;
  enter = lines_enter_block;
  set_up = lines_set_up;
  callee = lines_callee;
  key = lines_key;
  located = lines_located;
  load = lines_load;
  store = lines_store;
  read_lvalue = lines_read_lvalue;
  write_lvalue = lines_write_lvalue;
  read_rvalue = lines_read_rvalue;
  write_rvalue = lines_write_rvalue;
  taken = lines_take_value;
  operate = lines_operate;
  updated = lines_updated;
  update = lines_update;
  update_plain = lines_update_plain;
}
