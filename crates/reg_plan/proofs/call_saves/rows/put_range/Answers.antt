use Rattle.std.proofs.Common.{◌+◌, length, ◌&&◌, ◌∙◌, ap, get_or, take}
use Rattle.std.specs.Prelude.{nat_lt}
use Rattle.std.proofs.lemmas.List.Folds.{list_any_more}
use Rattle.reg_plan.specs.Accepted.{holds, covers}
use Rattle.reg_plan.proofs.Saves.Calls.{puts_more, or_both}
use Rattle.reg_plan.proofs.call_saves.rows.put_range.Goals as goal

pub loop-interval-preserved : goal.loop-interval-preserved
loop-interval-preserved c =
    let body = c.args.body.now in
    let range = c.args.range.now in
    let i = c.loop-interval.interval-index in
    let interval = get_or range i (record { start = 0; end = 0 }) in
    puts_more body c.args.rows.now.items c.loop-interval.rows.items c.put_interval.new.rows.items c.args.register _ _ _
    (λ pc. ap (λ b. nat_lt (pc + 1) (length body) && b)
    (list_any_more (λ j. holds j (pc + 1)) range i (record { start = 0; end = 0 }) c.loop-interval-test.true)
    ∙ or_both (nat_lt (pc + 1) (length body)) (covers (take i range) (pc + 1)) (holds interval (pc + 1)))
    c.loop-interval.invariant c.in_ok-put_interval.ensures
