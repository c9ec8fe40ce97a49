use Rattle.std.proofs.Common.{option_map, sym, subst}
use Rattle.c_tree.specs.Statements.{return}
use Rattle.c_tree.specs.View.{expression_of}
use Rattle.program_lowering.specs.StatementCode.Code.{StatementCode}
use Rattle.program_lowering.proofs.StatementCode.SingleStatements.{returned_none}
use Rattle.program_lowering.proofs.statements.simple.give_back.Goals as goal

pub returns-in_ok-first-in-None : goal.returns-in_ok-first-in-None
returns-in_ok-first-in-None c =
    subst (λ e. StatementCode c.args.variables.now c.args.code.now c.add.new.self (return (option_map expression_of e))
    c.in_ok-first-in-None.first c.args.x) (sym c.in-None.is) (returned_none c.in_ok-first-in-None.ensures)
