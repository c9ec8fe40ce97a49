use Rattle.metadata_plan.specs.OperatorLists.Operators.{operators}
use Rattle.metadata_relation.specs.Blocks.{runtime_number}
use Rattle.metadata_relation.specs.Structures.{copy_code}
use Rattle.instruction_selection.proofs.StructureLists.{behind_nothing, copy_short}
use Rattle.instruction_selection.proofs.structures.copy.Goals as goal

pub returns-clause-list : goal.returns-clause-list
returns-clause-list c =
    behind_nothing c.new-list.result.items
    (copy_code operators (runtime_number c.args.context.now.program.now) c.args.from c.args.size c.args.scratch)
    c.new-list.ensures.items c.in_ok-put_copy.ensures

pub returns-clause-few : goal.returns-clause-few
returns-clause-few c =
    let number = runtime_number c.args.context.now.program.now in
    copy_short number c.args.from c.args.size c.args.scratch _
    (behind_nothing c.new-list.result.items (copy_code operators number c.args.from c.args.size c.args.scratch)
    c.new-list.ensures.items c.in_ok-put_copy.ensures)
