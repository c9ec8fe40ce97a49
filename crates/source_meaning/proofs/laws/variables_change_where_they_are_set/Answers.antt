use Rattle.source_meaning.specs.Actions.{updated}
use Rattle.source_meaning.proofs.Local.{local_keeps}
use Rattle.source_meaning.proofs.ActionsAct.{local_located, local_read_scalar, local_write_scalar, local_move_bytes}
use Rattle.source_meaning.proofs.ActionsAct.{local_load, local_store, local_read_lvalue, local_write_lvalue}
use Rattle.source_meaning.proofs.ActionsAct.{local_read_rvalue, local_write_rvalue, local_take_value, local_updated}
use Rattle.source_meaning.proofs.ActionsAct.{local_update, local_operate, local_make_object, local_put_bytes}
use Rattle.source_meaning.proofs.ActionsAct.{local_take_key, local_zero_variable, local_store_bytes, local_callee}
use Rattle.source_meaning.proofs.ActionsAct.{local_make_zero}
use Rattle.source_meaning.proofs.LibraryActs.{local_routine, local_print}
use Rattle.source_meaning.proofs.laws.variables_change_where_they_are_set.Goals as goal

pub returns : goal.returns
returns c = record {
  located = λ j size p line. local_keeps (local_located j size p line);
  read = λ k address p. local_keeps (local_read_scalar k address p);
  write = λ k address p v. local_keeps (local_write_scalar k address p v);
  moved = λ size d s. local_keeps (local_move_bytes size d s);
  load = λ k j p line. local_keeps (local_load k j p line);
  store = λ k j p line v. local_keeps (local_store k j p line v);
  read_lvalue = λ kind j p line. local_keeps (local_read_lvalue kind j p line);
  write_lvalue = λ kind j p line v. local_keeps (local_write_lvalue kind j p line v);
  read_rvalue = λ kind j q line. local_keeps (local_read_rvalue kind j q line);
  write_rvalue = λ kind j p line v. local_keeps (local_write_rvalue kind j p line v);
  taken = λ kind line v. local_keeps (local_take_value kind line v);
  made = λ kind. local_keeps (local_make_zero kind);
  updated = λ u k right line old. local_keeps (local_updated u k right line old);
  update = λ u k j p line right at f. local_keeps
      (local_update k j p line (updated u k right at) f (local_updated u k right at));
  operate = λ op t x y line. local_keeps (local_operate op t x y line);
  make = λ storage address size. local_keeps (local_make_object storage address size);
  put = λ bytes. local_keeps (local_put_bytes bytes);
  key = λ g line. local_keeps (local_take_key g line);
  zero = λ x. local_keeps (local_zero_variable x);
  bytes = λ p offset bytes. local_keeps (local_store_bytes p offset bytes);
  routine = λ g r vs line. local_keeps (local_routine g r vs line);
  print = λ format vs line. local_keeps (local_print format vs line);
  callee = λ functions type_number v line. local_keeps (local_callee functions type_number v line);
}
