use Rattle.std.proofs.Common.{◌∙◌, ap, subst, refl, length, get_or}
use Rattle.reg_plan.specs.Saves.Saves.{Counts}
use Rattle.std.proofs.lemmas.Option.{slice_get_read}
use Rattle.reg_plan.proofs.Saves.Calls.{has_saves}
use Rattle.reg_plan.proofs.call_saves.saves.call_saves.Goals as goal

pub returns : goal.returns
returns c =
    let f = c.index-as_slice-number.result in
    let plan = c.index-plans-number.result in
    let functions = c.args.program.now.functions in
    has_saves _ c.args.program.now c.args.plans.now c.args.number f plan
    (slice_get_read functions (length functions) c.args.number f refl c.requires.function
    (c.index-as_slice-number.is ∙ ap (λ xs. get_or xs c.args.number f) c.as_slice.ensures))
    (slice_get_read c.args.plans.now (length c.args.plans.now) c.args.number plan refl c.requires.plan
    c.index-plans-number.is)
    (subst (λ xs. Counts c.in_ok-before.before.items xs) c.as_slice-2.ensures c.in_ok-before.ensures)
    c.in_ok-rows.ensures
