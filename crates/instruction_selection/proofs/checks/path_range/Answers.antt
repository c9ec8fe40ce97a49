use Rattle.std.proofs.Common.{◌^◌, max, min, refl, ap, ◌∙◌, arith}
use Rattle.instruction_selection.proofs.Ranges.{one_more}
use Rattle.instruction_selection.proofs.checks.path_range.Goals as goal

pub loop-behind-preserved : goal.loop-behind-preserved
loop-behind-preserved c =
    let more = one_more c.args.size c.args.path.now c.loop-behind.behind _ c.member_at.result.now c.loop-behind.start
    c.loop-behind.end c.loop-behind-test.true refl c.member_at.ensures c.loop-behind.invariant.start_is
    c.loop-behind.invariant.end_is in
    record {
      start_is = c.greater-start.ensures.value
          ∙ (ap (λ n. max c.loop-behind.start n) c.member_range-member.ensures.start ∙ more.0);
      end_is = c.less-end.ensures.value ∙ (ap (λ n. min c.loop-behind.end n) c.member_range-member.ensures.end ∙ more.1);
      inside = omega (arith, c.less-end.ensures.low, c.loop-behind.invariant.inside);
      low = c.greater-start.ensures.among (2 ^ 64) c.loop-behind.invariant.low c.member_range-member.ensures.low;
    }
