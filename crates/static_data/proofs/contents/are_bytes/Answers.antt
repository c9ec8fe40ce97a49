use Rattle.static_data.proofs.Laying.{are_bytes}
use Rattle.static_data.proofs.contents.are_bytes.Goals as goal

pub returns : goal.returns
returns c = are_bytes c.args.bytes.now (λ k. (c.type_inv.bytes k).fits)
