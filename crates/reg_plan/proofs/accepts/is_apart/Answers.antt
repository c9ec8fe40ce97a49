use Rattle.std.proofs.Common.{◌≡◌, ⊎_elim, subst, sym, refl, arith}
use Rattle.std.proofs.lemmas.Bool.{cases_lt}
use Rattle.reg_plan.specs.Colours.{range_of}
use Rattle.reg_plan.specs.Tests.{Meet, AreApart}
use Rattle.reg_plan.proofs.accepts.is_apart.Goals as goal

pub loop-other-preserved : goal.loop-other-preserved
loop-other-preserved c y lt m = ⊎_elim
    (λ low. c.loop-other.invariant y low m)
    (λ high. let same : y ≡ c.loop-other.other = omega arith in
    subst (AreApart c.args.function.now c.args.plan.now c.args.register) (sym same)
    (c.if-not-are_kept_apart.ensures.yes refl
    (subst (λ z. Meet c.args.count (range_of c.args.plan.now.live.items c.args.register)
    (range_of c.args.plan.now.live.items z)) same m)))
    (cases_lt y c.loop-other.other)
