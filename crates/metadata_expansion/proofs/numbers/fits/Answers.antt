use Rattle.std.proofs.Common.{◌≡◌, ◌<◌, ◌≤◌, ◌^◌, length, ap, refl, arith}
use Rattle.metadata_expansion.proofs.Small.{one_more_small, all_small}
use Rattle.metadata_expansion.proofs.numbers.fits.Goals as goal

pub loop-number-preserved : goal.loop-number-preserved
loop-number-preserved c =
    one_more_small c.args.map.now c.args.program.now c.loop-number.number c.function_at.result.now
    c.loop-number.invariant c.function_at.ensures (c.in_ok-is_small.ensures.0 c.if-not-branch.false)

pub returns : goal.returns
returns c =
    let same : length c.as_slice-functions.result.now ≡ length c.args.program.now.functions =
    ap (λ fs. length fs) c.as_slice-functions.ensures in
    let past = c.loop-number-test.false in
    let few = c.if-functions.false in
    let there = c.if-program-functions.false in
    let all : length c.args.program.now.functions ≤ c.loop-number.number = omega (arith, same, past) in
    let count : length c.args.program.now.functions < 2 ^ 32 = omega (arith, same, few) in
    let main : c.args.program.now.main < length c.args.program.now.functions = omega (arith, same, there) in (
      (λ _. all_small c.args.map.now c.args.program.now c.loop-number.number c.loop-number.invariant all count main),
      (λ _. refl),
    )
