use Rattle.reg_plan.proofs.closed.flows.Goals as goal

pub returns-then-are_live-clause-no : goal.returns-then-are_live-clause-no
returns-then-are_live-clause-no c h = c.none_is_lost.ensures.no
    (h c.in-Some.next c.in-Some.is c.if-next-count.true).rest

pub returns-else-are_live-clause-no : goal.returns-else-are_live-clause-no
returns-else-are_live-clause-no c h = c.are_live.ensures.no (h c.in-Some.next c.in-Some.is c.if-next-count.true).live
