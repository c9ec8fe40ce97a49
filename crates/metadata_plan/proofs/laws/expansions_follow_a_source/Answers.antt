use Rattle.tac_ir.specs.Meaning.{setting_of_code}
use Rattle.metadata_plan.proofs.Following.{source_followed, expansion_runs}
use Rattle.metadata_plan.proofs.laws.expansions_follow_a_source.Goals as goal

pub returns-clause-follows : goal.returns-clause-follows
returns-clause-follows c = source_followed

pub returns-clause-runs : goal.returns-clause-runs
returns-clause-runs c = λ o ops t part budgets address p ex mapped views memory sizes start bytes input k a source f.
    expansion_runs o ops t part budgets address p ex mapped views memory sizes start bytes input k a source f
    (c.steps_begin_at_most_one_turn.ensures (setting_of_code t budgets).sizes p)
