use Rattle.std.proofs.Common.{arith}
use Rattle.c_const.specs.View.{pointers_of}
use Rattle.static_data.proofs.Constancy.{object_constant}
use Rattle.static_data.proofs.Laying.{continue_more, continue_all, laid_at}
use Rattle.static_data.proofs.contents.all_data.Goals as goal

pub loop-i-preserved : goal.loop-i-preserved
loop-i-preserved c =
    continue_more c.args.statics.now c.loop-i.i c.index-statics-i.result c.loop-i-test.true c.index-statics-i.is
    c.loop-i.invariant c.in_ok-data.ensures c.in_ok-push.ensures.items

pub data_of-requires : goal.data_of-requires
data_of-requires c = record {
  laid = laid_at c.args.statics.now c.loop-i.i c.index-statics-i.result c.loop-i-test.true c.index-statics-i.is
      c.requires.laid;
  constant = object_constant (pointers_of c.args.pointers.now) c.args.statics.now c.loop-i.i c.index-statics-i.result
      c.loop-i-test.true c.index-statics-i.is c.requires.constant;
}

pub returns : goal.returns
returns c =
    continue_all c.args.statics.now c.loop-i.i (omega (arith, c.loop-i.auto.i-end, c.loop-i-test.false))
    c.loop-i.invariant
