use Rattle.std.proofs.Common.{◌<◌, length, arith, subst, sym}
use Rattle.std.proofs.lemmas.Option.{slice_get_within}
use Rattle.check_elim.specs.Searches.{IsDone}
use Rattle.check_elim.specs.Seeking.{fact_of}
use Rattle.check_elim.specs.Worklists.{IsWorklist}
use Rattle.check_elim.proofs.Worklists.{one_more, all_done, done_on, node_at}
use Rattle.check_elim.proofs.Searching.{at_entry, none_open, searching_begins, done_more}
use Rattle.check_elim.proofs.search.is_open.Goals as goal

pub loop-done-init : goal.loop-done-init
loop-done-init c = record {
  searching = searching_begins c.args.sought.now.function.now (fact_of c.args.sought.now) c.args.node _ _
      c.clear.ensures.empty
      (subst (λ n. IsWorklist n c.put.new.self) (c.clear.ensures.list _ c.requires.list.size).size
      c.in_ok-put.ensures.list)
      c.in_ok-put.ensures.puts;
  done = λ k v lt. absurd (omega (arith, lt));
}

pub put-requires-clause-list : goal.put-requires-clause-list
put-requires-clause-list c =
    let l = c.clear.ensures.list _ c.requires.list.size in
    subst (λ n. IsWorklist n c.clear.new.self) (sym l.size) l

pub put-requires-clause-inside : goal.put-requires-clause-inside
put-requires-clause-inside c =
    let l = (c.clear.ensures.list _ c.requires.list.size).size in
    omega (arith, l, c.requires.inside)

pub returns-then-from-sought-clause-open_there : goal.returns-then-from-sought-clause-open_there
returns-then-from-sought-clause-open_there c x =
    let here = node_at c.loop-done.visited.nodes.items c.loop-done.done c.index-from.result.now
    (omega (arith, c.loop-done-test.true, c.len.ensures)) c.index-from.ensures in
    at_entry c.args.sought.now.function.now (fact_of c.args.sought.now) c.args.before.now c.requires.graph c.args.node
    c.loop-done.visited _ c.loop-done.invariant.searching (c.loop-done.done, here) c.if-from-sought.true

pub step_back_from-requires-clause-here : goal.step_back_from-requires-clause-here
step_back_from-requires-clause-here c = (
  c.loop-done.done,
  node_at c.loop-done.visited.nodes.items c.loop-done.done c.index-from.result.now
      (omega (arith, c.loop-done-test.true, c.len.ensures)) c.index-from.ensures,
)

pub loop-done-smaller : goal.loop-done-smaller
loop-done-smaller c =
    let r = c.in_ok-step_back_from.ensures in
    let t = r.grows.total in
    let here = node_at c.loop-done.visited.nodes.items c.loop-done.done c.index-from.result.now
    (omega (arith, c.loop-done-test.true, c.len.ensures)) c.index-from.ensures in
    let w = slice_get_within c.step_back_from.new.visited.nodes.items c.loop-done.done _
    (r.grows.kept c.loop-done.done _ here) in
    omega (arith, t, w, c.loop-done-test.true)

pub loop-done-preserved : goal.loop-done-preserved
loop-done-preserved c =
    let r = c.in_ok-step_back_from.ensures in
    let old = c.loop-done.invariant in
    let below : c.loop-done.done < length c.loop-done.visited.nodes.items =
    omega (arith, c.loop-done-test.true, c.len.ensures) in
    let here = node_at c.loop-done.visited.nodes.items c.loop-done.done c.index-from.result.now below
    c.index-from.ensures in
    record {
      searching = r.searching;
      done = one_more (IsDone c.args.sought.now.function.now (fact_of c.args.sought.now) c.step_back_from.new.visited)
          c.step_back_from.new.visited.nodes.items c.loop-done.done c.index-from.result.now
          (r.grows.kept c.loop-done.done _ here)
          (done_on (IsDone c.args.sought.now.function.now (fact_of c.args.sought.now) c.loop-done.visited)
          (IsDone c.args.sought.now.function.now (fact_of c.args.sought.now) c.step_back_from.new.visited)
          c.loop-done.done below r.grows
          (λ v d. done_more c.args.sought.now.function.now (fact_of c.args.sought.now) v r.grows d) old.done)
          (r.done c.if-branch.false);
    }

pub returns-clause-closed : goal.returns-clause-closed
returns-clause-closed c x =
    none_open c.args.sought.now.function.now (fact_of c.args.sought.now) c.args.before.now c.requires.graph c.args.node
    c.loop-done.visited c.loop-done.invariant.searching
    (all_done (IsDone c.args.sought.now.function.now (fact_of c.args.sought.now) c.loop-done.visited)
    c.loop-done.visited.nodes.items c.loop-done.done (omega (arith, c.loop-done-test.false, c.len.ensures))
    c.loop-done.invariant.done)
