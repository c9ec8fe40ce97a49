use Rattle.std.proofs.Common.{◌≡◌, ℕ, List, ⊎_elim, ◌+◌, ◌<◌, ◌≤◌, length, arith, sym, subst, ap, ◌∙◌, true≢false, refl}
use Rattle.std.proofs.Common.{Some}
use Rattle.std.specs.Prelude.{slice_get}
use Rattle.std.proofs.lemmas.Option.{slice_get-get_or}
use Rattle.data_flow.specs.Relations.{Has}
use Rattle.data_flow.specs.Reached.{Begins, Flows}
use Rattle.data_flow.proofs.Solving.{Solving, found_none, solving_begins, solving_more, solved_closed, solved_least}
use Rattle.data_flow.proofs.solver.least_runs.Goals as goal

pub visit_runs-requires-clause-reached : goal.visit_runs-requires-clause-reached
visit_runs-requires-clause-reached c v h f = Begins v h

pub visit_runs-requires-clause-found : goal.visit_runs-requires-clause-found
visit_runs-requires-clause-found c =
    found_none _ _ _ _ _ _ c.new-firsts.ensures.items c.new-runs.ensures.items c.clear.ensures.empty

pub loop-done-init : goal.loop-done-init
loop-done-init c = record {
  solving = solving_begins c.args.edges.now c.args.generated.now c.args.killed.now c.clear-2.new.self
      c.insert_all.new.set c.visit_runs.new.begun c.visit_runs.new.firsts.items c.visit_runs.new.runs.items
      c.clear-2.ensures.empty c.in_ok-visit_runs.ensures.found c.in_ok-visit_runs.ensures.covered;
  kills = record {
    has = c.insert_all.ensures.has;
    only = λ v h. ⊎_elim (λ q. absurd (true≢false (sym q ∙ c.clear-2.ensures.empty v))) (λ q. q)
        (c.insert_all.ensures.only v h);
  };
  begun_size = refl;
  killing_size = c.insert_all.ensures.size ∙ c.clear-2.ensures.size ∙ c.requires.same_size ∙ sym c.clear.ensures.size
      ∙ sym c.visit_runs.ensures.size;
}

pub visit_runs-requires-in-loop-done-clause-inside : goal.visit_runs-requires-in-loop-done-clause-inside
visit_runs-requires-in-loop-done-clause-inside c k x h =
    let e = c.loop-done.invariant.begun_size ∙ c.visit_runs.ensures.size ∙ c.clear.ensures.size in
    subst (λ n. x < n) (sym e)
    (c.requires.edges_inside c.index-first.result.now x (k, ap (λ l. slice_get l k) (sym c.images.ensures) ∙ h))

pub visit_runs-requires-in-loop-done-clause-reached : goal.visit_runs-requires-in-loop-done-clause-reached
visit_runs-requires-in-loop-done-clause-reached c v h f =
    let u = c.index-first.result.now in
    let g = c.loop-done.invariant in
    let here : slice_get c.loop-done.firsts.items c.loop-done.done ≡ Some u =
    slice_get-get_or c.loop-done.firsts.items c.loop-done.done u (omega (arith, c.loop-done-test.true))
    ∙ ap Some (sym c.index-first.ensures)
    in
    Flows u v (g.solving.found.reached c.loop-done.done u here)
    (subst (λ (l : List ℕ). Has l v) c.images.ensures h)
    (λ kill. true≢false (sym (g.kills.has v kill) ∙ f))

-- what holds when the edges of one first node more were followed
followed : (c : goal.In_ok-visit_runs-2)
    → Solving c.args.edges.now c.args.generated.now c.args.killed.now c.insert_all.new.set
    c.visit_runs-in-loop-done.new.begun c.visit_runs-in-loop-done.new.firsts.items
    c.visit_runs-in-loop-done.new.runs.items (c.loop-done.done + 1)
followed c =
    let u = c.index-first.result.now in
    let r = c.in_ok-visit_runs-2.ensures in
    let here : slice_get c.loop-done.firsts.items c.loop-done.done ≡ Some u =
    slice_get-get_or c.loop-done.firsts.items c.loop-done.done u (omega (arith, c.loop-done-test.true))
    ∙ ap Some (sym c.index-first.ensures)
    in
    solving_more c.args.edges.now c.args.generated.now c.args.killed.now c.insert_all.new.set c.loop-done.begun
    c.visit_runs-in-loop-done.new.begun c.loop-done.firsts.items c.visit_runs-in-loop-done.new.firsts.items
    c.loop-done.runs.items c.visit_runs-in-loop-done.new.runs.items c.loop-done.done u
    c.loop-done.invariant.solving here r.found r.grows
    (λ v h. r.covered v (subst (λ (l : List ℕ). Has l v) (sym c.images.ensures) h))

pub loop-done-smaller : goal.loop-done-smaller
loop-done-smaller c =
    let t = c.in_ok-visit_runs-2.ensures.grows.total in
    let w : c.loop-done.done + 1 ≤ length c.visit_runs-in-loop-done.new.firsts.items = (followed c).within in
    omega (arith, t, w, c.loop-done-test.true)

pub loop-done-preserved : goal.loop-done-preserved
loop-done-preserved c = record {
  solving = followed c;
  kills = c.loop-done.invariant.kills;
  begun_size = c.in_ok-visit_runs-2.ensures.size ∙ c.loop-done.invariant.begun_size;
  killing_size = c.loop-done.invariant.killing_size;
}

pub returns-clause-closed : goal.returns-clause-closed
returns-clause-closed c = solved_closed c.args.edges.now c.args.generated.now c.args.killed.now c.insert_all.new.set
    c.loop-done.begun c.loop-done.firsts.items c.loop-done.runs.items c.loop-done.done c.loop-done.invariant.kills
    c.loop-done.invariant.solving (omega (arith, c.loop-done-test.false))

pub returns-clause-least : goal.returns-clause-least
returns-clause-least c = solved_least c.args.edges.now c.args.generated.now c.args.killed.now c.loop-done.begun
    c.loop-done.firsts.items c.loop-done.runs.items c.loop-done.invariant.solving.found

pub returns-clause-last : goal.returns-clause-last
returns-clause-last c k r h =
    let f = c.loop-done.invariant.solving.found.found k r h in
    f.reached r.last f.run.stretch.forward (omega arith)
