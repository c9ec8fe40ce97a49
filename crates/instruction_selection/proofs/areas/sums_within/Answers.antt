use Rattle.std.proofs.Common.{◌≡◌, ◌++◌, ◌∷◌, [], length, get_or, ap, ◌∙◌, arith}
use Rattle.std.proofs.lemmas.List.{length-append}
use Rattle.instruction_selection.specs.Areas.{sum_before}
use Rattle.instruction_selection.proofs.StructureAreas.{all_sums, no_room, pushed, sum_more, sum_start}
use Rattle.instruction_selection.proofs.areas.sums_within.Goals as goal

pub loop-i-init : goal.loop-i-init
loop-i-init c = record {
  size = ap (λ xs. length xs) c.new-table.ensures.items;
  sum = sum_start c.args.numbers.now;
  room = omega arith;
  each = λ j lt. absurd (omega (arith, lt));
}

pub returns-then-sum-from : goal.returns-then-sum-from
returns-then-sum-from c =
    let over = c.if-sum-from.true in
    let same = c.from.ensures in
    no_room c.args.numbers.now c.args.room c.loop-i.sum c.loop-i.i c.loop-i-test.true c.loop-i.invariant.sum
    (omega (arith, over, same))

pub loop-i-preserved : goal.loop-i-preserved
loop-i-preserved c =
    let h = c.loop-i.invariant in
    let before = c.loop-i.table.items in
    let made : c.push.new.self.items ≡ before ++ c.loop-i.sum ∷ [] = c.in_ok-push.ensures.items in
    let more = sum_more c.args.numbers.now c.loop-i.i c.loop-i-test.true in
    let so = h.sum in
    let within = c.if-sum-from.false in
    let same = c.from.ensures in
    record {
      size = omega (arith, ap (λ xs. length xs) made, length-append before (c.loop-i.sum ∷ []), h.size);
      sum = omega (arith, more, so);
      room = omega (arith, within, same);
      each = λ j lt. ap (λ xs. get_or xs j 0) made
          ∙ pushed (sum_before c.args.numbers.now) before c.loop-i.sum c.loop-i.i h.size so h.each j lt;
    }

pub returns : goal.returns
returns c =
    let h = c.loop-i.invariant in
    let past = c.loop-i-test.false in
    let end = c.loop-i.auto.i-end in
    all_sums c.args.numbers.now c.args.room c.loop-i.sum c.loop-i.i c.loop-i.table.items c.push-2.new.self.items
    (omega (arith, past, end)) h.size h.sum h.room h.each c.in_ok-push-2.ensures.items
