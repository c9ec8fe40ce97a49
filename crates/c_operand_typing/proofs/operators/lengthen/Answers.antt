use Rattle.std.proofs.Common.{◌∙◌, arith}
use Rattle.c_operand_typing.proofs.Marking.{one_more}
use Rattle.c_operand_typing.proofs.operators.lengthen.Goals as goal

pub loop-marks-preserved : goal.loop-marks-preserved
loop-marks-preserved c =
    one_more c.loop-marks.marks.items c.push.new.self.items c.args.number (omega arith) c.in_ok-push.ensures.items
    ∙ c.loop-marks.invariant
