use Rattle.std.proofs.Common.{◌≡◌, ◌≤◌, ◌∙◌, ◌+◌, ℕ, Bool, true, false, ap, sym, refl, arith, length, length-append}
use Rattle.std.proofs.Common.{if◌then◌else◌}
use Rattle.std.proofs.lemmas.Option.{slice_get_read}
use Rattle.reg_plan.specs.Saves.Saves.{calls_before, is_call}
use Rattle.reg_plan.proofs.Saves.Calls.{first_count, counts_more, count_more}
use Rattle.reg_plan.proofs.call_saves.saves.calls_before.Goals as goal

pub loop-place-init : goal.loop-place-init
unfolding calls_before
loop-place-init c = record {
  size = ap length c.in_ok-before.ensures.items;
  each = first_count c.args.body.now c.in_ok-before.before.items c.in_ok-before.ensures.items;
  count = refl;
  small = omega arith;
}

is_small : (b : Bool) (n : ℕ) → n ≡ (if b then 1 else 0) → n ≤ 1
is_small true n e = omega (arith, e)
is_small false n e = omega (arith, e)

pub loop-place-preserved : goal.loop-place-preserved
loop-place-preserved c =
    let body = c.args.body.now in
    let n = c.loop-place.place in
    let i = c.index-body-place.result in
    let old = c.loop-place.invariant in
    let here = slice_get_read body (length body) n i refl c.loop-place-test.true c.index-body-place.is in
    let count : c.loop-place.count + c.counted-count.result ≡ calls_before body (n + 1) =
    ap (λ x. x + c.counted-count.result) old.count ∙ ap (λ x. calls_before body n + x) c.counted-count.ensures
    ∙ sym (count_more body n i here)
    in
    let small : c.counted-count.result ≤ 1 = is_small (is_call i) c.counted-count.result c.counted-count.ensures in
    record {
      size = ap length c.in_ok-push.ensures.items ∙ length-append c.loop-place.before.items _
          ∙ ap (λ x. x + 1) old.size;
      each = counts_more body c.loop-place.before.items c.push.new.self.items n _ old.size c.in_ok-push.ensures.items
          count old.each;
      count = count;
      small = omega (arith, old.small, small);
    }
