use Rattle.std.proofs.lemmas.Result.{on_ok_weaker}
use Rattle.instruction_selection.proofs.MadeValues.{taken_put, zero_put}
use Rattle.instruction_selection.proofs.selection.made.put_made.Goals as goal

pub returns-in-ZeroOf : goal.returns-in-ZeroOf
returns-in-ZeroOf c =
    on_ok_weaker c.put_zero.result
    (zero_put c.args.context.now c.args.with_entry _ _ _ c.args.instruction.now c.args.code.now.items
    c.put_zero.new.code.items c.in-ZeroOf.is) c.put_zero.ensures

pub returns-in-Take : goal.returns-in-Take
returns-in-Take c =
    on_ok_weaker c.put_taken.result
    (taken_put c.args.context.now c.args.with_entry _ _ _ _ _ c.args.instruction.now c.args.code.now.items
    c.put_taken.new.code.items c.in-Take.is) c.put_taken.ensures
