use Rattle.std.proofs.Common.{arith, rules, refl}
use Rattle.sb_outside.proofs.Takings.{untaken, map_inputs, then_inputs}
use Rattle.rv_sim.proofs.Runs.{run_ends, goes_first, goes_on, goes_at}
use Rattle.rv_sim.proofs.machine.run_from.Goals as goal

pub loop-count-init : goal.loop-count-init
loop-count-init g c = record {
  told = untaken _ _ (λ left o e now seen. goes_first o e now _ _ _ _ seen);
  input = refl;
  output = refl;
  errors = refl;
}

pub loop-count-preserved : goal.loop-count-preserved
loop-count-preserved g c = record {
  told = then_inputs _ _ _ _ _ _
      (λ was left rest before next o e now seen.
      let so_far = before o e now seen in
      goes_on o e c.loop-count._count now c.loop-count.state c.turn.new.state _ _ _ so_far.goes
      (next o e _ so_far.seen))
      c.loop-count.invariant.told c.in_default.ensures.told;
  input = search rules;
  output = search rules;
  errors = search rules;
}

pub returns-in-Some-clause-told : goal.returns-in-Some-clause-told
returns-in-Some-clause-told g c =
    then_inputs _ _ _ _ _ _
    (λ was left rest before next o e now seen.
    let so_far = before o e now seen in
    run_ends o e c.in-Some.stop c.loop-count._count c.args.limit now _ _ _ _ _ (omega arith) c.in-Some.ensures.no_limit
    c.in-Some.ensures.fault so_far.goes (next o e _ so_far.seen))
    c.loop-count.invariant.told c.in-Some.ensures.told

pub returns-clause-told : goal.returns-clause-told
returns-clause-told g c =
    map_inputs _ _ _ _
    (λ was rest before o e now seen.
    let g = goes_at o e c.loop-count._count c.args.limit now _ _ _ _ (omega arith) (before o e now seen) in
    (g.goes, g.seen))
    c.loop-count.invariant.told
