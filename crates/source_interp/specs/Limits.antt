-- The budgets of a run, and where its memory lies.
use Rattle.std.specs.Prelude.{◌≡◌}
use Rattle.source_meaning.specs.State.{Setting}
use Rattle.source_meaning.specs.Places.{heap_first, heap_last, stack_end}
use Rattle.source_interp.specs.declared.limits.Limits.{Limits}

-- the limits of code are those of what a run stands on
pub record AreLimits (l : Limits) (g : Setting) : Type 0 where
  pub keys : l.keys ≡ g.sizes.budgets.keys
  pub calls : l.calls ≡ g.sizes.budgets.calls
  pub blocks : l.blocks ≡ g.sizes.budgets.blocks
  pub stack_end : l.stack_end ≡ stack_end g
  pub heap_first : l.heap_first ≡ heap_first g
  pub heap_last : l.heap_last ≡ heap_last g
