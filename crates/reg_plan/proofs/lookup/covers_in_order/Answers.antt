use Rattle.std.proofs.Common.{rules, leb, length, refl, ap, ◌∙◌}
use Rattle.std.proofs.lemmas.Option.{slice_get_read, slice_get_past}
use Rattle.std.proofs.lemmas.List.Sorted.{IsPartitionPoint-from_clause, IsPartitionedBy-leb}
use Rattle.reg_plan.proofs.Order.{first_covers, none_covers}
use Rattle.reg_plan.proofs.lookup.covers_in_order.Goals as goal

pub returns-in-Some : goal.returns-in-Some
returns-in-Some c =
    let xs = c.args.range.now in
    let parted = IsPartitionedBy-leb (λ i. i.end) xs c.args.place c.requires.ends in
    let point = IsPartitionPoint-from_clause (λ i. leb i.end c.args.place) xs _
    c.partition_point-before.ensures.partitioned parted (λ a r q k. search rules) in
    ap (λ n. leb n c.args.place) c.from.ensures
    ∙ first_covers xs c.args.place c.partition_point-before.result c.in-Some.interval.now c.requires point.0 point.1
    (slice_get_read xs (length xs) c.partition_point-before.result c.in-Some.interval.now refl
    c.in-Some.ensures.lookup.3.0 c.in-Some.ensures.lookup.1)

pub returns-in-None : goal.returns-in-None
returns-in-None c =
    let xs = c.args.range.now in
    let parted = IsPartitionedBy-leb (λ i. i.end) xs c.args.place c.requires.ends in
    let point = IsPartitionPoint-from_clause (λ i. leb i.end c.args.place) xs _
    c.partition_point-before.ensures.partitioned parted (λ a r q k. search rules) in
    none_covers xs c.args.place c.partition_point-before.result point.0 point.1
    (slice_get_past xs c.partition_point-before.result c.in-None.ensures.lookup.3)
