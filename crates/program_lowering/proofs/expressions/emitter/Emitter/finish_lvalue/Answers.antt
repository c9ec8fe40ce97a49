use Rattle.std.proofs.Common.{sym, subst}
use Rattle.program_lowering.specs.ExpressionCode.Shapes.{LvalueFinishes}
use Rattle.program_lowering.proofs.ExpressionCode.Steps.{some_place}
use Rattle.program_lowering.proofs.ExpressionCode.Views.{of_lvalue}
use Rattle.program_lowering.proofs.expressions.emitter.Emitter.finish_lvalue.Goals as goal

pub returns-in_ok-node-in-Some : goal.returns-in_ok-node-in-Some
returns-in_ok-node-in-Some c =
    subst (λ p. LvalueFinishes c.args.self.now c.add.new.self p c.args.d c.in_ok-node-in-Some.node c.args.next)
    (sym (of_lvalue c.args.p.now)) (some_place c.last_at.ensures c.in-Some.is c.in_ok-node-in-Some.ensures)
