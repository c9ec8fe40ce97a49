use Rattle.std.proofs.Common.{ℕ, ◌+◌, length, length-append, ap, ◌∙◌}
use Rattle.data_flow.specs.declared.stretches.Starts.{Starts}
use Rattle.data_flow.specs.Stretches.{AreStarts}
use Rattle.data_flow.proofs.Lists.{each_more}
use Rattle.data_flow.proofs.stretches.Stretches.new.Goals as goal

pub loop-node-preserved : goal.loop-node-preserved
loop-node-preserved c =
    let old = c.loop-node.invariant in
    let edges = c.args.edges.now in
    let e = c.in_ok-push.ensures.items in
    record {
      size = ap length e ∙ length-append c.loop-node.stretches.starts.items _ ∙ ap (λ n. n + 1) old.size;
      stretches = record {
        each = each_more (λ (k : ℕ) (x : Starts). AreStarts edges x k) c.loop-node.stretches.starts.items _
            c.loop-node.node c.starts_of-starts.result old.size e old.stretches.each c.starts_of-starts.ensures;
      };
    }
