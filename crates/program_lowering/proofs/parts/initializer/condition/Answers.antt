use Rattle.std.proofs.Common.{sym, ap, subst}
use Rattle.std.specs.Prelude.{option_map}
use Rattle.c_tree.specs.View.{expression_of}
use Rattle.program_lowering.specs.StatementParts.Code.{ConditionCode}
use Rattle.program_lowering.proofs.StatementParts.InitializerParts.{condition_some}
use Rattle.program_lowering.proofs.parts.initializer.condition.Goals as goal

pub returns-in_ok-start-in-Some : goal.returns-in_ok-start-in-Some
returns-in_ok-start-in-Some c =
    subst (λ e. ConditionCode c.args.code.now c.expression.new.self e c.in_ok-start-in-Some.start c.args.holds
    c.args.fails)
    (sym (ap (option_map expression_of) c.in-Some.is))
    (condition_some c.in_ok-branch-in-Some.ensures c.in_ok-start-in-Some.ensures)
