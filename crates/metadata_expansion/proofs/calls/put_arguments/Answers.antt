use Rattle.std.proofs.Common.{◌+◌, ◌∷◌, [], ◌++◌, ap, ◌∙◌}
use Rattle.flat_code.specs.declared.instruction.FlatInstruction.TheVariants.{Move}
use Rattle.metadata_expansion.proofs.Lists.{moves_put}
use Rattle.metadata_expansion.proofs.calls.put_arguments.Goals as goal

pub loop-i-preserved : goal.loop-i-preserved
loop-i-preserved c =
    moves_put c.args.context.now.function.now c.args.code.now.items c.loop-i.code.items c.put.new.code.items
    c.args.context.now.registers.now.free c.args.first c.loop-i.i c.loop-i.invariant
    (c.in_ok-put.ensures
    ∙ ap (λ x. c.loop-i.code.items ++ (Move (c.args.context.now.registers.now.free + c.loop-i.i) x ∷ []))
    c.temporary-from.ensures)
