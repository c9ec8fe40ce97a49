use Rattle.instruction_selection.proofs.ReadLists.{place_short}
use Rattle.instruction_selection.proofs.StructureLists.{behind_nothing}
use Rattle.instruction_selection.proofs.reads.scalar_place.Goals as goal

pub returns-clause-few : goal.returns-clause-few
returns-clause-few g c =
    let map = c.args.context.now.map.now in
    let r = c.args.registers in
    place_short g.S.ShadowForm.entry_read g.S.ShadowForm.entry_write map c.args.scalar c.args.with_entry r.into r.from
    r.scratch _ (λ address into t below. c.loads_are_exact.ensures.shape map address into t c.sizes_are_in_range.ensures
    below)
    c.requires.into (behind_nothing _ _ c.new-list.ensures.items c.in_ok-put_scalar.ensures)
