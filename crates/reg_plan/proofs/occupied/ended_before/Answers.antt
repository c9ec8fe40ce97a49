use Rattle.std.proofs.Common.{rules, leb}
use Rattle.std.proofs.lemmas.List.Sorted.{IsPartitionPoint-from_clause, IsPartitionedBy-leb}
use Rattle.reg_plan.proofs.Order.{parted}
use Rattle.reg_plan.proofs.Spreading.{ends_ascend}
use Rattle.reg_plan.proofs.occupied.ended_before.Goals as goal

pub returns-clause-parted : goal.returns-clause-parted
returns-clause-parted c =
    let xs = c.args.used.now in
    let by = IsPartitionedBy-leb (λ i. i.end) xs c.args.place (ends_ascend xs c.requires) in
    let point = IsPartitionPoint-from_clause (λ i. leb i.end c.args.place) xs _
    c.partition_point.ensures.partitioned by (λ a r q k. search rules) in
    parted xs c.args.place c.partition_point.result point.0 point.1
