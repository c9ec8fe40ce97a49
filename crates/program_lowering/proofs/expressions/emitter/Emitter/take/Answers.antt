use Rattle.std.proofs.Common.{sym, subst}
use Rattle.tac_ir.specs.declared.instruction.Instruction.TheVariants as tac
use Rattle.program_lowering.specs.ExpressionCode.Emitted.{Added}
use Rattle.program_lowering.specs.ExpressionCode.Last.{TakingCode}
use Rattle.program_lowering.proofs.ExpressionCode.Growing.{take_structure}
use Rattle.program_lowering.proofs.expressions.emitter.Emitter.take.Goals as goal

pub returns-in_ok-node-in-Structure : goal.returns-in_ok-node-in-Structure
returns-in_ok-node-in-Structure c =
    subst (λ k. TakingCode c.args.self.now c.add.new.self k c.args.line c.args.temporary c.in_ok-node-in-Structure.node
    c.args.next) (sym c.in-Structure.is)
    (take_structure
    (subst (λ k. Added c.args.self.now c.add.new.self c.in_ok-node-in-Structure.node
    (tac.Take k c.args.line c.args.temporary c.args.temporary c.args.next)) c.in-Structure.is
    c.in_ok-node-in-Structure.ensures))
