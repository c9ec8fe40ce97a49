use Rattle.std.proofs.Common.{sym, subst}
use Rattle.program_lowering.specs.ExpressionCode.Shapes.{Finishes}
use Rattle.program_lowering.proofs.ExpressionCode.Steps.{some_last, none_last}
use Rattle.program_lowering.proofs.ExpressionCode.Views.{of_expression}
use Rattle.program_lowering.proofs.expressions.emitter.Emitter.finish.Goals as goal

pub returns-in_ok-node-in-Some : goal.returns-in_ok-node-in-Some
returns-in_ok-node-in-Some c =
    subst (λ e. Finishes c.args.self.now c.add.new.self e c.args.d c.in_ok-node-in-Some.node c.args.next)
    (sym (of_expression c.args.e.now))
    (some_last c.in_ok-key.ensures c.in_ok-text.ensures c.last_in.ensures c.in-Some.is c.in_ok-node-in-Some.ensures)

pub returns-in-None : goal.returns-in-None
returns-in-None c =
    subst (λ e. Finishes c.args.self.now c.format_in.new.self e c.args.d c.args.next c.args.next)
    (sym (of_expression c.args.e.now))
    (none_last c.in_ok-key.ensures c.in_ok-text.ensures c.last_in.ensures c.in-None.is)
