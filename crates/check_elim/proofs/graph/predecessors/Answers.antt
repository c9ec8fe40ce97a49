use Rattle.std.proofs.Common.{◌≡◌, ◌<◌, ℕ, ◌∙◌, ap, sym, length, Some, arith, [], List}
use Rattle.std.specs.Prelude.{slice_get}
use Rattle.std.proofs.lemmas.Option.{slice_get_within}
use Rattle.data_flow.specs.Relations.{Has}
use Rattle.check_elim.specs.Searches.{IsFollowed}
use Rattle.check_elim.proofs.Worklists.{has_more, one_more, done_on, all_done, node_at}
use Rattle.check_elim.proofs.Exploring.{has_predecessors}
use Rattle.check_elim.proofs.graph.predecessors.Goals as goal

none_of : {A : Type 0} (xs : List ℕ) (n : ℕ) → xs ≡ [] → Has xs n → A
none_of xs n e h = let clash : slice_get [] h.0 ≡ Some n = ap (λ l. slice_get l h.0) (sym e) ∙ h.1 in absurd cc

pub loop-done-init : goal.loop-done-init
loop-done-init c = record {
  exploring = record {
    list = c.in_ok-reached.ensures.list;
    rows = c.in_ok-before.ensures.size ∙ ap length c.as_slice-count.ensures;
    paths = c.in_ok-reached.ensures.paths;
    only = λ m n h. none_of _ n (c.in_ok-before.ensures.none m) h;
  };
  entry = c.in_ok-reached.ensures.entry;
  done = λ k v lt. absurd (omega (arith, lt));
}

pub follow-requires-clause-here : goal.follow-requires-clause-here
follow-requires-clause-here c =
    c.loop-done.invariant.exploring.list.inside _ (
      c.loop-done.done,
      node_at c.loop-done.reached.nodes.items c.loop-done.done c.index-node.result.now
          (omega (arith, c.loop-done-test.true, c.len.ensures)) c.index-node.ensures,
    )

pub follow-requires-clause-path : goal.follow-requires-clause-path
follow-requires-clause-path c =
    c.loop-done.invariant.exploring.paths _ (
      c.loop-done.done,
      node_at c.loop-done.reached.nodes.items c.loop-done.done c.index-node.result.now
          (omega (arith, c.loop-done-test.true, c.len.ensures)) c.index-node.ensures,
    )

pub loop-done-smaller : goal.loop-done-smaller
loop-done-smaller c =
    let r = c.in_ok-follow.ensures in
    let t = r.grows.total in
    let here = node_at c.loop-done.reached.nodes.items c.loop-done.done c.index-node.result.now
    (omega (arith, c.loop-done-test.true, c.len.ensures)) c.index-node.ensures in
    let w = slice_get_within c.follow.new.reached.nodes.items c.loop-done.done _
    (r.grows.kept c.loop-done.done _ here) in
    omega (arith, t, w, c.loop-done-test.true)

pub loop-done-preserved : goal.loop-done-preserved
loop-done-preserved c =
    let r = c.in_ok-follow.ensures in
    let old = c.loop-done.invariant in
    let below : c.loop-done.done < length c.loop-done.reached.nodes.items =
    omega (arith, c.loop-done-test.true, c.len.ensures) in
    let here = node_at c.loop-done.reached.nodes.items c.loop-done.done c.index-node.result.now below
    c.index-node.ensures in
    record {
      exploring = r.exploring;
      entry = λ lt. has_more r.grows _ (old.entry lt);
      done = one_more (IsFollowed c.args.function.now c.follow.new.reached c.follow.new.before)
          c.follow.new.reached.nodes.items c.loop-done.done c.index-node.result.now
          (r.grows.kept c.loop-done.done _ here)
          (done_on (IsFollowed c.args.function.now c.loop-done.reached c.loop-done.before)
          (IsFollowed c.args.function.now c.follow.new.reached c.follow.new.before) c.loop-done.done below r.grows r.kept
          old.done) r.followed;
    }

pub returns : goal.returns
returns c = has_predecessors c.args.function.now c.loop-done.reached c.loop-done.before
    c.loop-done.invariant.exploring c.loop-done.invariant.entry
    (all_done (IsFollowed c.args.function.now c.loop-done.reached c.loop-done.before) c.loop-done.reached.nodes.items
    c.loop-done.done (omega (arith, c.loop-done-test.false, c.len.ensures)) c.loop-done.invariant.done)
