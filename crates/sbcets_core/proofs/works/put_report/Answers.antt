use Rattle.std.proofs.Common.{sym, ◌∙◌}
use Rattle.sbcets_core.proofs.WorkCases.{gains_nothing}
use Rattle.sbcets_core.proofs.works.put_report.Goals as goal

pub returns-then-is_empty-clause-ok : goal.returns-then-is_empty-clause-ok
returns-then-is_empty-clause-ok g c =
    gains_nothing (g.S.Sink.taken c.args.sink.now) c.args.reported.now (sym c.is_empty.ensures ∙ c.if-is_empty.true)
