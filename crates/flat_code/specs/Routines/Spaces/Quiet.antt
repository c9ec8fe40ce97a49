-- Code without jumps that uses the spaces of the runtime alone.
use Rattle.std.specs.Prelude.{ℕ, ◌+◌, ◌≤◌, List, [], ◌∷◌}
use Rattle.addr_map.specs.declared.region.Region.TheVariants.{Cells}
use Rattle.addr_map.specs.Places.{spaces_begin, region_end}
use Rattle.rv_isa.specs.Results.{load_bytes, store_bytes}
use Rattle.flat_code.specs.declared.instruction.FlatInstruction.{FlatInstruction}
use Rattle.flat_code.specs.declared.instruction.FlatInstruction.TheVariants.{Constant, Move, Operate, Operate32}
use Rattle.flat_code.specs.declared.instruction.FlatInstruction.TheVariants.{Load, Store}
use Rattle.flat_code.specs.State.{State}
use Rattle.flat_code.specs.Meaning.{Context, address_in}
use Rattle.flat_code.specs.Routines.Effects.{effect}

-- so many bytes from an address on lie in the spaces of the runtime
pub record IsInSpaces (context : Context) (address count : ℕ) : Type 0 where
  pub begins : spaces_begin ≤ address
  pub ends : address + count ≤ region_end context.sizes Cells

-- an instruction computes, or loads or stores there
abbrev pub IsQuiet : Context → FlatInstruction → State → Type 0
IsQuiet c (Constant x n) s = Unit {0}
IsQuiet c (Move x y) s = Unit {0}
IsQuiet c (Operate op x y z) s = Unit {0}
IsQuiet c (Operate32 op x y z) s = Unit {0}
IsQuiet c (Load op x y offset) s = IsInSpaces c (address_in s y offset) (load_bytes op)
IsQuiet c (Store op y offset x) s = IsInSpaces c (address_in s y offset) (store_bytes op)
IsQuiet c _ s = ⊥

abbrev pub AreQuiet : Context → List FlatInstruction → State → Type 0
AreQuiet c [] s = Unit {0}
AreQuiet c (i ∷ is) s = IsQuiet c i s × AreQuiet c is (effect c i s)
