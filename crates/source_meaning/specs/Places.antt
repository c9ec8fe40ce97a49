-- Where static, automatic and allocated objects stand.
use Rattle.std.specs.Prelude.{ℕ}
use Rattle.addr_map.specs.declared.region.Region.TheVariants.{Globals, Stack, Heap}
use Rattle.addr_map.specs.Places.{region_start, region_end, region_last}
use Rattle.source_meaning.specs.State.{Setting}

-- the first address of static objects
abbrev pub statics_first : Setting → ℕ
statics_first g = region_start g.sizes Globals

-- the first address of automatic objects, and the first behind them
abbrev pub stack_first : Setting → ℕ
stack_first g = region_start g.sizes Stack

abbrev pub stack_end : Setting → ℕ
stack_end g = region_end g.sizes Stack

-- the first and the last address of allocated objects
abbrev pub heap_first : Setting → ℕ
heap_first g = region_start g.sizes Heap

abbrev pub heap_last : Setting → ℕ
heap_last g = region_last g.sizes Heap
