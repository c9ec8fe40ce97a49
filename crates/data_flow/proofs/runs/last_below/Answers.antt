use Rattle.std.proofs.Common.{arith, rules, ltb}
use Rattle.std.proofs.lemmas.List.Sorted.{IsPartitionPoint-from_clause, IsPartitionedBy-ltb}
use Rattle.data_flow.proofs.Starts.{none_below, last_is}
use Rattle.data_flow.proofs.runs.last_below.Goals as goal

pub returns-then-count-eq0 : goal.returns-then-count-eq0
returns-then-count-eq0 c =
    let xs = c.args.list.now in
    let parted = IsPartitionedBy-ltb (λ x. x) xs c.args.bound c.requires in
    let point = IsPartitionPoint-from_clause (λ x. ltb x c.args.bound) xs _ c.partition_point-count.ensures.partitioned
    parted (λ a r q k. search rules) in
    none_below xs c.args.bound c.partition_point-count.result c.if-count-eq0.true point.1

pub returns : goal.returns
returns c =
    let xs = c.args.list.now in
    let parted = IsPartitionedBy-ltb (λ x. x) xs c.args.bound c.requires in
    let point = IsPartitionPoint-from_clause (λ x. ltb x c.args.bound) xs _ c.partition_point-count.ensures.partitioned
    parted (λ a r q k. search rules) in
    last_is xs c.args.bound c.partition_point-count.result c.requires
    (omega (arith, c.if-count-eq0.false))
    c.partition_point-count.ensures.bound point.0 point.1
