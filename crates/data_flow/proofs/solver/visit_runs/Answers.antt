use Rattle.std.proofs.Common.{◌-◌, ◌∙◌, get_or, arith, refl}
use Rattle.std.proofs.lemmas.Option.{slice_get-get_or, slice_get_within}
use Rattle.data_flow.proofs.Solving.{grows_none, grows_on, covered_more}
use Rattle.data_flow.proofs.solver.visit_runs.Goals as goal

pub visit_run_unless-requires-clause-reached : goal.visit_run_unless-requires-clause-reached
visit_run_unless-requires-clause-reached c f =
    let i = c.loop-left.left - 1 in
    c.requires.reached _ (
      i,
      slice_get-get_or c.args.nodes.now i 0
          (let w = c.loop-left.invariant.within in omega (arith, w, c.loop-left-test.true)),
    ) f

pub loop-left-init : goal.loop-left-init
loop-left-init c = record {
  within = omega arith;
  found = c.requires.found;
  grows = grows_none _ _ _;
  covered = λ k v le h f. let l = slice_get_within c.args.nodes.now k v h in absurd (omega (arith, l, le));
  size = refl;
}

pub loop-left-preserved : goal.loop-left-preserved
loop-left-preserved c =
    let r = c.in_ok-visit_run_unless.ensures in
    let old = c.loop-left.invariant in
    let i = c.loop-left.left - 1 in
    let nodes = c.args.nodes.now in
    let w = old.within in
    record {
      within = omega (arith, w);
      found = r.found;
      grows = grows_on _ _ _ _ _ _ _ _ _ old.grows r.grows;
      covered = covered_more nodes c.args.but.now _ _ i (get_or nodes i 0)
          (slice_get-get_or nodes i 0 (omega (arith, w, c.loop-left-test.true)))
          (λ k v le h f. old.covered k v (omega (arith, le, c.loop-left-test.true)) h f) r.grows.covered r.covered;
      size = r.size ∙ old.size;
    }

pub returns-clause-covered : goal.returns-clause-covered
returns-clause-covered c v h f =
    c.loop-left.invariant.covered h.0 v (omega (arith, c.loop-left-test.false)) h.1 f
