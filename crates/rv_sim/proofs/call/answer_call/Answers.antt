use Rattle.std.proofs.Common.{◌≡◌, rules}
use Rattle.sb_outside.proofs.Takings.{untaken, map_inputs}
use Rattle.rv_isa.specs.Registers.{a7}
use Rattle.rv_sim.specs.Run.{calls}
use Rattle.rv_sim.specs.State.{register}
use Rattle.rv_sim.proofs.Calls.{by_read, by_write}
use Rattle.rv_sim.proofs.call.answer_call.Goals as goal

pub returns-in-63-clause-told : goal.returns-in-63-clause-told
returns-in-63-clause-told g c =
    map_inputs _ _ _ _
    (λ was rest said o e now seen.
    let k : register now.state a7 ≡ 63 = cc in
    by_read o e now _ _ _ _ _ k seen.output_is seen.errors_is (said now seen.state_is seen.rest_is))
    c.read.ensures.told

pub returns-in-64-clause-told : goal.returns-in-64-clause-told
returns-in-64-clause-told g c =
    untaken _ _ (λ left o e now seen.
    let k : register now.state a7 ≡ 64 = cc in
    by_write o e now _ _ _ _ _ k seen.rest_is
    (c.write.ensures.told o e now seen.state_is seen.output_is seen.errors_is))

pub returns-in-93-clause-told : goal.returns-in-93-clause-told
unfolding calls
returns-in-93-clause-told g c = untaken _ _ (λ left o e now seen. search rules)

pub returns-in_default-clause-told : goal.returns-in_default-clause-told
unfolding calls
returns-in_default-clause-told g c = untaken _ _ (λ left o e now seen. search rules)
