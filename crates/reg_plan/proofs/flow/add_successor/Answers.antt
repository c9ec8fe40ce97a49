use Rattle.std.proofs.Common.{◌≡◌, true, refl, arith}
use Rattle.reg_plan.specs.Effects.{is_among}
use Rattle.reg_plan.proofs.Flows.{adds_successor}
use Rattle.reg_plan.proofs.flow.add_successor.Goals as goal

pub returns-in_ok-relate_span-in-Some-clause-adds :
    goal.returns-in_ok-relate_span-in-Some-clause-adds
returns-in_ok-relate_span-in-Some-clause-adds c =
    let r = c.in_ok-relate-in-Some.ensures in
    adds_successor c.args.problem.now
    (record {
      edges = c.relate.new.self;
      generated = c.relate_span.new.relation;
      killed = c.args.problem.now.killed;
    }) (λ y. is_among c.args.made y ≡ true) c.args.place c.args.to c.args.count c.in-Some.next c.in-Some.is
    (omega (arith, c.if-next-from.true, c.from.ensures)) r.added r.others
    c.in_ok-relate_span-in-Some.ensures.gains refl
