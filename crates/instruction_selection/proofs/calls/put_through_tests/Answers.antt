use Rattle.std.proofs.Common.{ap}
use Rattle.instruction_selection.proofs.Joined.{through_list}
use Rattle.instruction_selection.proofs.calls.put_through_tests.Goals as goal

pub returns : goal.returns
returns c =
    through_list c.args.context.now.map.now c.args.kind c.args.line c.args.pointer _ _ _ c.args.code.now.items
    c.free-free.ensures.value (ap (λ h. h.tag.key) c.held_from-held.ensures) c.in_ok-put_callee_tests.ensures
    c.in_ok-put_room_tests.ensures c.in_ok-put_unknown_object_tests.ensures
