use Rattle.std.proofs.Common.{sym, ◌∙◌}
use Rattle.source_interp.proofs.Heaping.{has_no_place, has_place}
use Rattle.source_interp.proofs.machine.Machine.block_place.Goals as goal

pub returns-then-is_below : goal.returns-then-is_below
returns-then-is_below c g o limits =
    has_place g o c.args.limits.now c.args.self.now c.args.size c.count.result limits c.count.ensures
    c.seek.result (sym c.is_below.ensures ∙ c.if-is_below.true) c.seek.ensures.gap c.seek.ensures.failed

pub returns-else-is_below : goal.returns-else-is_below
returns-else-is_below c g o limits =
    has_no_place g o c.args.limits.now c.args.self.now c.args.size c.count.result limits c.count.ensures (sym
    c.is_below.ensures ∙ c.if-is_below.false)
