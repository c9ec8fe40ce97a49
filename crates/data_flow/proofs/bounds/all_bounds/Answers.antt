use Rattle.std.proofs.Common.{ℕ, ◌+◌, ◌≤◌, List, length, length-append, ap, sym, subst, ◌∙◌}
use Rattle.data_flow.specs.declared.runs.Run.{Run}
use Rattle.data_flow.specs.Relations.{Has, IsRelated}
use Rattle.data_flow.proofs.Lists.{each_more}
use Rattle.data_flow.proofs.bounds.all_bounds.Goals as goal

pub loop-node-preserved : goal.loop-node-preserved
loop-node-preserved c =
    let old = c.loop-node.invariant in
    let edges = c.args.edges.now in
    let e = c.in_ok-push.ensures.items in
    let b = c.bounds_of-next.ensures in
    record {
      size = ap length e ∙ length-append c.loop-node.bounds.items _ ∙ ap (λ n. n + 1) old.size;
      bounds = record {
        least = λ u v r h q. each_more (λ (k : ℕ) (x : Run). (w : ℕ) → IsRelated edges k w → x.first ≤ w)
            c.loop-node.bounds.items _ c.loop-node.node c.bounds_of-next.result old.size e
            (λ k x g w. old.bounds.least k w x g)
            (λ w g. b.least w (subst (λ (l : List ℕ). Has l w) (sym c.images.ensures) g)) u r h v q;
        greatest = λ u v r h q. each_more (λ (k : ℕ) (x : Run). (w : ℕ) → IsRelated edges k w → w ≤ x.last)
            c.loop-node.bounds.items _ c.loop-node.node c.bounds_of-next.result old.size e
            (λ k x g w. old.bounds.greatest k w x g)
            (λ w g. b.greatest w (subst (λ (l : List ℕ). Has l w) (sym c.images.ensures) g)) u r h v q;
      };
    }
