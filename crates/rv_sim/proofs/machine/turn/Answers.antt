use Rattle.std.proofs.Common.{◌∙◌, rules}
use Rattle.sb_outside.proofs.Takings.{untaken, map_inputs}
use Rattle.rv_sim.specs.Run.{turn}
use Rattle.rv_sim.specs.Seen.{Asks}
use Rattle.rv_sim.proofs.Calls.{by_ask}
use Rattle.rv_sim.proofs.machine.turn.Goals as goal

pub returns-in-Done-clause-told : goal.returns-in-Done-clause-told
unfolding turn
returns-in-Done-clause-told g c = untaken _ _ (λ left o e now seen. search rules)

pub returns-in-Refuse-clause-told : goal.returns-in-Refuse-clause-told
unfolding turn
returns-in-Refuse-clause-told g c = untaken _ _ (λ left o e now seen. search rules)

pub returns-in-Ask-clause-told : goal.returns-in-Ask-clause-told
returns-in-Ask-clause-told g c =
    let kept = c.in-Ask.ensures.kept in
    let asks : Asks c.args.state.now = cc in
    map_inputs _ _ _ _
    (λ was rest said o e now seen.
    by_ask o e now _ _ _ _ _ _ seen.state_is asks
    (said o e now record {
      state_is = kept
          ∙ seen.state_is;
      rest_is = seen.rest_is;
      output_is = seen.output_is;
      errors_is = seen.errors_is;
    }))
    c.answer_call.ensures.told
