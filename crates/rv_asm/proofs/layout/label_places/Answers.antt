use Rattle.std.proofs.Common.{◌+◌, ◌<◌, length, arith, sym}
use Rattle.rv_asm.specs.declared.form.Form.TheVariants.{Short}
use Rattle.rv_asm.proofs.Layouts.{start_first, start_step, is_within, has_room_still, holds_further}
use Rattle.rv_asm.proofs.layout.label_places.Goals as goal

pub loop-index-init : goal.loop-index-init
loop-index-init c = record {
  few = omega arith;
  at = sym (start_first c.args.forms.now c.args.items.now);
  room = c.in_ok-table.ensures;
  held = record { held = λ k l below h. absurd (omega (arith, below)) };
}

pub mark-requires : goal.mark-requires
mark-requires c =
    let inside : c.loop-index.index < length c.args.items.now = omega
    (arith, c.loop-index-test.true, c.loop-index.auto.index-end) in
    is_within c.args.items.now c.loop-index.table.items c.loop-index.index c.index-items-index.result inside
    c.index-items-index.is c.loop-index.invariant.room

pub loop-index-preserved : goal.loop-index-preserved
loop-index-preserved c =
    let forms = c.args.forms.now in
    let items = c.args.items.now in
    let k = c.loop-index.index in
    let i = c.index-items-index.result in
    let inside : k < length items = omega (arith, c.loop-index-test.true, c.loop-index.auto.index-end) in
    let next = start_step forms items k (k + 1) i Short c.requires.many inside c.index-items-index.is (omega arith) in
    let room = has_room_still items c.loop-index.table.items i c.loop-index.place c.loop-index.invariant.room in
    let held = holds_further forms items c.loop-index.table.items k (k + 1) c.loop-index.place i c.requires.apart
    c.loop-index.invariant.room inside c.index-items-index.is c.loop-index.invariant.at (omega arith)
    c.loop-index.invariant.held in
    record {
      few = omega (arith, c.loop-index.invariant.few, c.size.ensures.small, c.from-place.ensures);
      at = omega (arith, next, c.loop-index.invariant.at, c.size.ensures.value, c.from-place.ensures);
      room = rw c.mark.ensures room;
      held = rw c.mark.ensures held;
    }
