use Rattle.metadata_plan.specs.OperatorLists.Operators.{operators}
use Rattle.metadata_relation.specs.Blocks.{runtime_number}
use Rattle.metadata_relation.specs.Structures.{take_place_code}
use Rattle.instruction_selection.proofs.StructureLists.{behind_nothing, place_short}
use Rattle.instruction_selection.proofs.contents.take_place.Goals as goal

pub returns-clause-list : goal.returns-clause-list
returns-clause-list c =
    behind_nothing c.new-list.result.items
    (take_place_code operators (runtime_number c.args.context.now.program.now) c.args.size c.args.from c.args.first)
    c.new-list.ensures.items c.in_ok-put_take_place.ensures

pub returns-clause-few : goal.returns-clause-few
returns-clause-few c =
    let number = runtime_number c.args.context.now.program.now in
    place_short number c.args.size c.args.from c.args.first _
    (behind_nothing c.new-list.result.items
    (take_place_code operators number c.args.size c.args.from c.args.first) c.new-list.ensures.items
    c.in_ok-put_take_place.ensures)
