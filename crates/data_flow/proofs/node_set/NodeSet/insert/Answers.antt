use Rattle.std.proofs.Common.{◌≡◌, ◌+◌, not, if◌then◌else◌, Bool, subst, sym}
use Rattle.data_flow.specs.NodeSets.{others, absent}
use Rattle.std.specs.Prelude.{slice_set}
use Rattle.data_flow.proofs.Lists.{others-set}
use Rattle.data_flow.proofs.node_set.NodeSet.insert.Goals as goal

pub returns-clause-fewer : goal.returns-clause-fewer
returns-clause-fewer c =
    let s = c.args.self.now in
    let P : Bool → Type 0 = λ b. others s.current (slice_set s.stamps.items c.args.node s.current)
    + (if not b then 1 else 0) ≡ absent s in
    subst P (sym c.contains-is_new.ensures) (others-set s.current s.stamps.items c.args.node c.requires)
