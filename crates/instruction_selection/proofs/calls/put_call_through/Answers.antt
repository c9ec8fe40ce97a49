use Rattle.std.proofs.Common.{◌≡◌, ◌≤◌, ◌^◌, Some, sym, ap, ◌∙◌, subst}
use Rattle.std.specs.Prelude.{slice_get}
use Rattle.tac_ir.specs.Structures.{result_of_type}
use Rattle.metadata_relation.specs.FunctionTypes.{first_of_type}
use Rattle.metadata_relation.proofs.FunctionTypes.{first_typed}
use Rattle.metadata_expansion.specs.Areas.{bytes_of_structure}
use Rattle.instruction_selection.proofs.calls.put_call_through.Goals as goal

pub put_called_through-requires-clause-callee : goal.put_called_through-requires-clause-callee
put_called_through-requires-clause-callee c =
    c.requires.prepared.callees c.first_of_type-kind.result c.in-Some.one.now c.in-Some.ensures.0

pub put_called_through-requires-clause-size : goal.put_called_through-requires-clause-size
put_called_through-requires-clause-size c =
    let fs = c.args.context.now.program.now.functions in
    let first = c.first_of_type-kind.ensures ∙ ap (λ gs. first_of_type gs c.args.type_number) c.as_slice.ensures in
    let there = subst (λ n. slice_get fs n ≡ Some c.in-Some.one.now) first c.in-Some.ensures.0 in
    subst (λ n. bytes_of_structure (result_of_type c.args.context.now.program.now.results n) ≤ 2 ^ 62)
    (sym (first_typed fs c.args.type_number c.in-Some.one.now there)) c.requires.size
