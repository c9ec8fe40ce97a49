use Rattle.std.proofs.Common.{ap, ◌∙◌, ◌++◌, ◌∷◌, []}
use Rattle.instruction_selection.proofs.StartBytes.{zero_more}
use Rattle.instruction_selection.proofs.start_data.put_zeros.Goals as goal

pub loop-preserved : goal.loop-preserved
loop-preserved c =
    c.in_ok-push.ensures.items ∙ ap (λ xs. xs ++ (0 ∷ [])) c.loop.invariant ∙ zero_more c.args.bytes.now.items c.loop.counter
