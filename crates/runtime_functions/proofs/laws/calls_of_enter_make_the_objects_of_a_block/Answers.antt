use Rattle.runtime_functions.proofs.Entering.{entered_at_line}
use Rattle.runtime_functions.proofs.laws.calls_of_enter_make_the_objects_of_a_block.Goals as goal

pub returns : goal.returns
returns g c = λ m set sizes p s fn of calls functions types k x vs line.
    entered_at_line m g.S.ShadowForm.entry (g.S.ShadowForm.IsGood m) p s fn of.routine
    (record { calls = calls; is = of.is }) of.code.0 of.code.1 set sizes functions types k x vs line
    (c.runs_do_the_same_at_each_line.ensures.enter 1 line set vs)
