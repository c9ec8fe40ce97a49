use Rattle.reg_plan.proofs.Flows.{gains_read}
use Rattle.reg_plan.proofs.flow.relate_reads.Goals as goal

pub returns-clause-gains : goal.returns-clause-gains
returns-clause-gains c =
    gains_read c.args.relation.now c.relate_span.new.relation c.relate_span-2.new.relation c.relate_span-3.new.relation
    c.args.reads c.args.node c.in_ok-relate_span.ensures.gains
    c.in_ok-relate_span-2.ensures.gains c.in_ok-relate_span-3.ensures.gains
