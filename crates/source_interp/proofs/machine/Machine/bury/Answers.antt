use Rattle.std.proofs.Common.{sym, ◌∙◌}
use Rattle.source_interp.proofs.machine.Machine.bury.Goals as goal

pub returns-then-is_live_block : goal.returns-then-is_live_block
returns-then-is_live_block c g o =
    c.bury_block.ensures (sym c.is_live_block.ensures ∙ c.if-is_live_block.true) g o

pub returns-else-is_live_block : goal.returns-else-is_live_block
returns-else-is_live_block c g o =
    c.bury_other.ensures (sym c.is_live_block.ensures ∙ c.if-is_live_block.false) g o
