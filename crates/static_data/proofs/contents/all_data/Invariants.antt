use Rattle.c_const.specs.View.{pointers_of}
use Rattle.static_data.proofs.Laying.{Continue}
use Rattle.static_data.proofs.contents.all_data.Given as goal

abbrev pub invariant-loop-i : goal.invariant-loop-i
invariant-loop-i l = Continue (pointers_of l.pointers) l.statics l.i l.all.items
