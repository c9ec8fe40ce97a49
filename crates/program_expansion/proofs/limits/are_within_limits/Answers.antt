use Rattle.std.proofs.Common.{◌≡◌, ◌≤◌, length, ap, refl, sym, ◌∙◌, arith}
use Rattle.std.proofs.lemmas.Bool.{false≢true}
use Rattle.metadata_relation.specs.StartData.{statics_end}
use Rattle.program_expansion.specs.Limits.{IsWithinLimits}
use Rattle.program_expansion.proofs.Small.{all_functions, one_more_function}
use Rattle.program_expansion.proofs.limits.are_within_limits.Goals as goal

pub returns-then-not-branch : goal.returns-then-not-branch
returns-then-not-branch c = (
  (λ h. absurd (false≢true h)),
  (λ h. absurd (false≢true (sym c.if-not-branch.true
      ∙ c.in_ok-is_within_limits.ensures.1 (h.functions c.loop-number.number c.function_at.result.now c.function_at.ensures)))),
)

pub loop-number-preserved : goal.loop-number-preserved
loop-number-preserved c =
    one_more_function (IsWithinLimits c.args.program.now) c.args.program.now.functions c.loop-number.number
    c.function_at.result.now c.loop-number.invariant c.function_at.ensures
    (c.in_ok-is_within_limits.ensures.0 c.if-not-branch.false)

pub returns : goal.returns
returns c =
    let same : length c.as_slice-count.result.now ≡ length c.args.program.now.functions =
    ap (λ fs. length fs) c.as_slice-count.ensures in
    let past = c.loop-number-test.false in
    let few = c.if-count.false in
    let there = c.if-program-count.false in
    let listed : statics_end c.as_slice.result.now 0 ≡ statics_end c.args.program.now.statics 0 =
    ap (λ ds. statics_end ds 0) c.as_slice.ensures in
    let statics = c.are_few_statics.ensures.0 c.if-not-are_few_statics.false in
    let all : length c.args.program.now.functions ≤ c.loop-number.number = omega (arith, same, past) in (
      (λ h. record {
        count = omega (arith, same, few);
        main = omega (arith, same, there);
        statics = omega (arith, listed, statics);
        functions = all_functions (IsWithinLimits c.args.program.now) c.args.program.now.functions c.loop-number.number
            c.loop-number.invariant all;
      }),
      (λ h. refl),
    )
