use Rattle.std.proofs.Common.{◌∙◌, ◌||◌, ap, sym, get_or, Bool}
use Rattle.std.proofs.lemmas.List.Folds.{list_any_more}
use Rattle.std.proofs.lemmas.Option.{slice_get-get_or}
use Rattle.data_flow.specs.Runs.{in_run}
use Rattle.reg_plan.proofs.intervals.merged.Goals as goal

pub extended-requires : goal.extended-requires
extended-requires c =
    let i = c.loop-run.run-index in
    c.requires i _ (slice_get-get_or c.args.runs.now i (record { first = 0; last = 0 }) c.loop-run-test.true)

pub loop-run-preserved : goal.loop-run-preserved
loop-run-preserved c pc =
    let i = c.loop-run.run-index in
    let run = get_or c.args.runs.now i (record { first = 0; last = 0 }) in
    c.in_ok-last.ensures pc ∙ ap (λ (b : Bool). b || in_run run pc) (c.loop-run.invariant pc)
    ∙ sym (list_any_more (λ r. in_run r pc) c.args.runs.now i (record { first = 0; last = 0 }) c.loop-run-test.true)
