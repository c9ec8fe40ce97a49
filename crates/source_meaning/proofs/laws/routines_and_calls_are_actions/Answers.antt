use Rattle.source_meaning.proofs.ActionsAct.{acts_callee, acts_set_up, acts_back_to, acts_enter_block, acts_leave_block}
use Rattle.source_meaning.proofs.LibraryActs.{acts_routine, acts_print}
use Rattle.source_meaning.proofs.laws.routines_and_calls_are_actions.Goals as goal

pub returns : goal.returns
returns c = record {
  routine = acts_routine;
  print = acts_print;
  callee = acts_callee;
  set_up = acts_set_up;
  back =
      acts_back_to;
  enter = acts_enter_block;
  leave = acts_leave_block;
}
