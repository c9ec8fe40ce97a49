use Rattle.std.proofs.Common.{◌≡◌, ◌≤◌, ◌^◌, ◌++◌, sym, subst}
use Rattle.std.specs.Prelude.{OnOk}
use Rattle.tac_ir.specs.Structures.{result_of}
use Rattle.metadata_plan.specs.OperatorLists.Operators.{operators}
use Rattle.metadata_relation.specs.Blocks.{call_of}
use Rattle.metadata_expansion.specs.Areas.{bytes_of_structure}
use Rattle.instruction_selection.proofs.calls.put_call.Goals as goal

pub returns-in-None : goal.returns-in-None
returns-in-None c =
    subst (λ o. OnOk c.put.result (c.put.new.code.items ≡ c.args.code.now.items
    ++ call_of operators c.args.context.now.map.now c.args.context.now.program.now c.args.context.now.function.now o c.args.number
    c.args.call.line c.args.call.first c.args.call.count c.args.call.with_entry)) (sym c.in-None.ensures)
    c.put.ensures

pub returns-in-Some : goal.returns-in-Some
returns-in-Some c =
    subst (λ o. OnOk c.put_called.result (c.put_called.new.code.items ≡ c.args.code.now.items
    ++ call_of operators c.args.context.now.map.now c.args.context.now.program.now c.args.context.now.function.now o c.args.number
    c.args.call.line c.args.call.first c.args.call.count c.args.call.with_entry))
    (sym c.in-Some.ensures.0) c.put_called.ensures

pub put_called-requires-clause-callee : goal.put_called-requires-clause-callee
put_called-requires-clause-callee c =
    c.requires.prepared.callees c.args.number c.in-Some.callee.now c.in-Some.ensures.0

pub put_called-requires-clause-size : goal.put_called-requires-clause-size
put_called-requires-clause-size c =
    subst (λ o. bytes_of_structure (result_of c.args.context.now.program.now.results o) ≤ 2 ^ 62) c.in-Some.ensures.0
    c.requires.size
