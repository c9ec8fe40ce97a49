use Rattle.std.proofs.Common.{Bool, if◌then◌else◌, ◌∙◌, ap}
use Rattle.std.specs.Prelude.{slice_get}
use Rattle.reg_plan.specs.Saves.Saves.{with_last, items_of}
use Rattle.reg_plan.proofs.Saves.Calls.{same_end}
use Rattle.reg_plan.proofs.call_saves.rows.put_between.Goals as goal

pub returns-clause-rows : goal.returns-clause-rows
returns-clause-rows c j =
    let old = items_of (slice_get c.args.rows.now.items j) in
    c.loop-k.invariant.rows j
    ∙ ap (λ (b : Bool). if b then with_last old c.args.register else old)
    (same_end c.args.from c.args.to c.loop-k.k j c.loop-k-test.false c.loop-k.auto.k-end c.loop-k.invariant.end)
