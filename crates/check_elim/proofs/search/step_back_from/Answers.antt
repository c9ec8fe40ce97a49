use Rattle.std.proofs.Common.{◌≡◌, ◌<◌, ℕ, length, Some, get_or, arith, ◌∙◌, sym, ap, List}
use Rattle.std.specs.Prelude.{slice_get}
use Rattle.std.proofs.lemmas.Option.{slice_get-get_or, slice_get_within}
use Rattle.data_flow.specs.Relations.{images}
use Rattle.tac_ir.specs.declared.instruction.Instruction.{Instruction}
use Rattle.check_elim.specs.Searches.{IsSeen}
use Rattle.check_elim.specs.Seeking.{fact_of}
use Rattle.check_elim.proofs.Worklists.{grows_then, has_more, one_more}
use Rattle.check_elim.proofs.Searching.{searching_on, found_open, inside, seen_more}
use Rattle.check_elim.proofs.search.step_back_from.Goals as goal

edge_at : (l xs : List ℕ) (k : ℕ) → l ≡ xs → k < length l → slice_get xs k ≡ Some (get_or l k 0)
edge_at l xs k e lt = ap (λ z. slice_get z k) (sym e) ∙ slice_get-get_or l k 0 lt

pub step_back-requires-clause-inside : goal.step_back-requires-clause-inside
step_back-requires-clause-inside c =
    let e : slice_get (images c.args.before.now c.args.from) c.loop-other.other-index
    ≡ Some (get_or c.images-other-items.result.now c.loop-other.other-index 0) =
    edge_at _ _ _ c.loop-other.invariant.items c.loop-other-test.true in
    inside c.args.sought.now.function.now (fact_of c.args.sought.now) c.args.before.now c.requires.graph c.args.node
    c.args.from _ (c.loop-other.other-index, e)

pub returns-then-branch-clause-found : goal.returns-then-branch-clause-found
returns-then-branch-clause-found c x =
    let r = c.in_ok-step_back.ensures.ends c.if-branch.true in
    let e : slice_get (images c.args.before.now c.args.from) c.loop-other.other-index
    ≡ Some (get_or c.images-other-items.result.now c.loop-other.other-index 0) =
    edge_at _ _ _ c.loop-other.invariant.items c.loop-other-test.true in
    found_open c.args.sought.now.function.now (fact_of c.args.sought.now) c.args.before.now c.requires.graph c.args.node
    c.loop-other.visited c.args.from _ c.loop-other.invariant.searching
    (has_more c.loop-other.invariant.grows c.args.from c.requires.here) (c.loop-other.other-index, e) r.0 r.1 r.2 r.3

pub returns-then-branch-clause-searching : goal.returns-then-branch-clause-searching
returns-then-branch-clause-searching c =
    let r = c.in_ok-step_back.ensures in
    let e : slice_get (images c.args.before.now c.args.from) c.loop-other.other-index
    ≡ Some (get_or c.images-other-items.result.now c.loop-other.other-index 0) =
    edge_at _ _ _ c.loop-other.invariant.items c.loop-other-test.true in
    searching_on c.args.sought.now.function.now (fact_of c.args.sought.now) c.args.before.now c.requires.graph
    c.args.node c.loop-other.visited _ c.args.from _ c.loop-other.invariant.searching
    (has_more c.loop-other.invariant.grows c.args.from c.requires.here) (c.loop-other.other-index, e) r.list r.grows
    r.new

pub loop-other-preserved : goal.loop-other-preserved
loop-other-preserved c =
    let r = c.in_ok-step_back.ensures in
    let old = c.loop-other.invariant in
    let e : slice_get (images c.args.before.now c.args.from) c.loop-other.other-index
    ≡ Some (get_or c.images-other-items.result.now c.loop-other.other-index 0) =
    edge_at _ _ _ c.loop-other.invariant.items c.loop-other-test.true in
    record {
      items = old.items;
      searching = searching_on c.args.sought.now.function.now (fact_of c.args.sought.now) c.args.before.now
          c.requires.graph c.args.node c.loop-other.visited _ c.args.from _ old.searching
          (has_more old.grows c.args.from c.requires.here) (c.loop-other.other-index, e) r.list r.grows r.new;
      grows = grows_then old.grows r.grows;
      seen = one_more
          (λ u. (i : Instruction) → slice_get c.args.sought.now.function.now.code u ≡ Some i
          → IsSeen c.args.sought.now.function.now (fact_of c.args.sought.now) c.step_back.new.visited u i)
          (images c.args.before.now c.args.from) c.loop-other.other-index _ e
          (λ k u lt h i at. seen_more c.args.sought.now.function.now (fact_of c.args.sought.now) u i r.grows
          (old.seen k u lt h i at))
          (r.seen c.if-branch.false);
    }

pub returns-clause-done : goal.returns-clause-done
returns-clause-done c x = record {
  inner = c.requires.inner;
  before = λ n i p has to.
      let q = c.requires.graph.has n c.args.from i p has to
      (c.requires.searching.list.inside c.args.from c.requires.here) in
      let lt = slice_get_within (images c.args.before.now c.args.from) q.0 n q.1 in
      c.loop-other.invariant.seen q.0 n
      (let same = ap length c.loop-other.invariant.items in omega (arith, lt, same, c.loop-other-test.false)) q.1 i has;
}
