use Rattle.data_flow.proofs.Joining.{alone, joined}
use Rattle.data_flow.proofs.stretches.Stretches.skip_of.Goals as goal

pub returns-then-from : goal.returns-then-from
returns-then-from c edges s =
    joined edges c.at-far.result.skip c.at-near.result.skip c.args.nearest
    (c.at-far.ensures edges s).skip (c.at-near.ensures edges s).skip

pub returns : goal.returns
returns c edges s = alone edges c.args.nearest
