use Rattle.std.proofs.Common.{arith}
use Rattle.std.proofs.lemmas.Bool.{false≢true}
use Rattle.instruction_selection.proofs.StaticPlaces.{place_ends}
use Rattle.program_expansion.proofs.limits.are_few_statics.Goals as goal

pub returns-then-size-gt4194304 : goal.returns-then-size-gt4194304
returns-then-size-gt4194304 c =
    let ends = place_ends c.args.statics.now c.loop-i.i c.index-statics-i.result c.loop-i.end c.loop-i-test.true in
    let over = c.if-size-gt4194304.true in
    let so_far = c.loop-i.invariant.0 in (
      (λ h. absurd (false≢true h)),
      (λ h. absurd (omega (arith, ends, over, so_far, h))),
    )

pub returns-then-end-gt4194304 : goal.returns-then-end-gt4194304
returns-then-end-gt4194304 c =
    let ends = place_ends c.args.statics.now c.loop-i.i c.index-statics-i.result c.loop-i.end c.loop-i-test.true in
    let over = c.if-end-gt4194304.true in
    let rounded = c.rounded.ensures in
    let so_far = c.loop-i.invariant.0 in (
      (λ h. absurd (false≢true h)),
      (λ h. absurd (omega (arith, ends, over, rounded, so_far, h))),
    )
