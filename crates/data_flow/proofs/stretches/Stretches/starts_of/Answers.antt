use Rattle.data_flow.proofs.Joining.{joined}
use Rattle.data_flow.proofs.stretches.Stretches.starts_of.Goals as goal

pub returns : goal.returns
returns c =
    let edges = c.args.graph.now.edges.now in
    record {
      nearest = c.nearest-nearest.ensures;
      skip = joined edges c.skip_of.result c.nearest-nearest.result c.args.node
          (c.skip_of.ensures edges c.requires.stretches) c.nearest-nearest.ensures;
      inner = c.inner_of-inner.ensures;
    }
