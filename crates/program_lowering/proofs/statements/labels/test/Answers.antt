use Rattle.std.proofs.Common.{◌∷◌, [], sym, subst}
use Rattle.program_lowering.specs.StatementCode.Code.{LabelsCode}
use Rattle.program_lowering.proofs.StatementCode.LabelTests.{case_code}
use Rattle.program_lowering.proofs.statements.labels.test.Goals as goal

pub returns-in_ok-first-in-Case : goal.returns-in_ok-first-in-Case
returns-in_ok-first-in-Case c =
    subst (λ l. LabelsCode c.args.code.now c.add.new.self (l ∷ []) c.args.item c.in_ok-first-in-Case.first c.args.next)
    (sym c.in-Case.is) (case_code c.in_ok-first-in-Case.ensures)
