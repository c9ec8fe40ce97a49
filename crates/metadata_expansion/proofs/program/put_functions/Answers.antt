use Rattle.std.proofs.Common.{◌<◌, ◌∙◌, length, subst}
use Rattle.metadata_expansion.proofs.Laid.{function_read, next_expanded}
use Rattle.metadata_expansion.proofs.program.put_functions.Goals as goal

pub expand_function-requires : goal.expand_function-requires
expand_function-requires c =
    c.requires.functions c.loop-function.function-index c.function-item.result
    (function_read c.args.program.now c.as_slice-function-items.result.now c.loop-function.function-index
    c.function-item.result c.as_slice-function-items.ensures c.loop-function-test.true c.function-item.is)

pub loop-function-preserved : goal.loop-function-preserved
loop-function-preserved c =
    let items = c.as_slice-function-items in
    next_expanded c.args.map.now c.args.program.now c.args.program.now.functions c.loop-function.function-index
    c.function-item.result c.loop-function.list.items
    (subst (λ cs. c.loop-function.function-index < length cs) items.ensures c.loop-function-test.true)
    (function_read c.args.program.now items.result.now c.loop-function.function-index
    c.function-item.result items.ensures c.loop-function-test.true c.function-item.is)
    c.in_ok-expand_function.ensures c.in_ok-push.ensures
    ∙ c.loop-function.invariant
