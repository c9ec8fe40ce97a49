use Rattle.std.proofs.Common.{ap}
use Rattle.instruction_selection.proofs.Joined.{pointer_update_list}
use Rattle.instruction_selection.proofs.place_updates.put_pointer_update.Goals as goal

pub returns : goal.returns
returns g c =
    let place = c.args.place in
    pointer_update_list g.S.ShadowForm.entry_read g.S.ShadowForm.entry_write c.args.context.now.map.now c.args.context.now.function.now place.update place.fixity place.line
    c.args.with_entry place.into place.pointer place.right place.scratch c.change.result _ _ c.args.code.now.items
    c.change.ensures
    (ap (λ h. h.tag) c.held_from-2.ensures) (ap (λ h. h.tag) c.held_from.ensures) c.in_ok-put_load_held.ensures
    (c.in_ok-put_address.ensures g.S.ShadowForm.entry_read g.S.ShadowForm.entry_write c.args.context.now.map.now) c.in_ok-put_store_moved.ensures c.in_ok-put_given.ensures
    c.in_ok-put_entry_if.ensures
