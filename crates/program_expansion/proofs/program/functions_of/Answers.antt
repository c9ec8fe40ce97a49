use Rattle.std.proofs.Common.{sym, subst}
use Rattle.program_expansion.specs.Expansions.{AreFunctionsOf, types_by}
use Rattle.program_expansion.proofs.Functions.{none_done, one_more_done}
use Rattle.program_expansion.proofs.program.functions_of.Goals as goal

pub loop-number-init : goal.loop-number-init
loop-number-init g c =
    let read = g.S.ShadowForm.entry_read in
    let write = g.S.ShadowForm.entry_write in
    let x = c.args.tables.now in
    subst (λ fs. AreFunctionsOf read write x.map.now x.program.now (types_by x.types.now) 0 fs)
    (sym c.new-list.ensures.items) (none_done read write x.map.now x.program.now (types_by x.types.now))

pub expand_function-requires-clause-limits : goal.expand_function-requires-clause-limits
expand_function-requires-clause-limits g c =
    c.requires.limits.functions c.loop-number.number c.function_at.result.now c.function_at.ensures

pub loop-number-preserved : goal.loop-number-preserved
loop-number-preserved g c =
    let x = c.args.tables.now in
    one_more_done g.S.ShadowForm.entry_read g.S.ShadowForm.entry_write x.map.now x.program.now (types_by x.types.now)
    c.loop-number.number c.function_at.result.now c.loop-number.list.items c.push.new.list.items
    c.in_ok-function.function c.function_at.ensures c.loop-number.invariant c.in_ok-function.ensures.ok
    c.in_ok-push.ensures
