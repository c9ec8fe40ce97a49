-- `free` in flat code.
use Rattle.std.specs.Prelude.{◌≡◌, ℕ, ◌<◌, ◌≤◌, List, [], ◌∷◌, ◌++◌}
use Rattle.sb_base.specs.declared.ending.Ending.TheVariants.{Temporal, BadFree}
use Rattle.rv_isa.specs.declared.instruction.BranchOp.TheVariants.{Beq, Bne}
use Rattle.rv_isa.specs.declared.instruction.LoadOp.TheVariants.{Ld}
use Rattle.addr_map.specs.declared.region.Region.TheVariants.{StructureValues}
use Rattle.addr_map.specs.Places.{MapSizes, spaces_begin, region_start}
use Rattle.source_meaning.specs.Heap.{free}
use Rattle.source_meaning.specs.Library.{argument}
use Rattle.flat_code.specs.declared.instruction.RightOperand.TheVariants.{Register, Number}
use Rattle.flat_code.specs.declared.instruction.FlatInstruction.{FlatInstruction}
use Rattle.flat_code.specs.declared.instruction.FlatInstruction.TheVariants.{Load, Branch, End}
use Rattle.flat_code.specs.Memory.{Bytes, load}
use Rattle.flat_code.specs.declared.registers.Held.{Held}
use Rattle.flat_code.specs.Routines.Routine.{unless_code}
use Rattle.flat_code.specs.Routines.Metadata.{View, IsObjectWord}
use Rattle.lock_space.specs.Locks.{key_counter}
use Rattle.lock_space.specs.Routines.{OtherLocksStay}
use Rattle.heap_space.specs.Rows.{without_row}
use Rattle.heap_space.specs.Table.{block_rows}
use Rattle.flat_actions.specs.Actions.{AreSpacesGood, Pointer, Nowhere, IsAction, runtime_basis}

-- within 20 steps and 26 for each unit of work
abbrev pub IsFreeRoutine : MapSizes → View → (Bytes → Type 0) → (pointer : Held) → (line scratch : ℕ)
    → List FlatInstruction → Type 0
IsFreeRoutine map entry IsGood h line t r =
    IsAction (runtime_basis map entry IsGood) (λ vs. free (argument 0 vs) line) (Pointer h ∷ []) Nowhere t 20 26 r

-- ---- its instructions

-- What has no lock word is no object: it has no tag, or that of a function. Where the lock word does not hold the key,
-- the object is dead.
abbrev pub life_test : Held → (line word : ℕ) → List FlatInstruction
life_test h line x =
    Branch Bne h.tag.lock (Number 0) 1
    ∷ End (BadFree line)
    ∷ Load Ld x h.tag.lock 0
    ∷ Branch Beq x (Register h.tag.key) 1
    ∷ End (Temporal line)
    ∷ []

-- where no live block has the address and the key, it is the start of none
abbrev pub found_test : (found line : ℕ) → List FlatInstruction
found_test found line = Branch Bne found (Number 0) 1 ∷ End (BadFree line) ∷ []

-- what is done for a pointer other than null
abbrev pub end_code : (find unlist unlock : List FlatInstruction) → (pointer : Held) → (line word found : ℕ)
    → List FlatInstruction
end_code find unlist unlock h line x found =
    life_test h line x ++ (find ++ (found_test found line ++ (unlist ++ unlock)))

-- over the routines that find a block, take it from the table and release a lock word
abbrev pub free_code : (find unlist unlock : List FlatInstruction) → (pointer : Held) → (line word found : ℕ)
    → List FlatInstruction
free_code find unlist unlock h line x found =
    unless_code Beq h.value (Number 0) (end_code find unlist unlock h line x found)

-- ---- what is made of the memory

-- the block that starts at an address has no row any more, and its lock word holds no key
pub record IsBlockEnded (map : MapSizes) (entry : View) (IsGood : Bytes
    → Type 0) (start lock : ℕ) (before after : Bytes)
    : Type 0 where
  pub low : (b : ℕ) → b < spaces_begin → after b ≡ before b
  pub entries : (b : ℕ) → IsObjectWord map b → entry after b ≡ entry before b
  pub released : load 8 after lock ≡ 0
  pub others : OtherLocksStay map lock before after
  pub counter : key_counter map after ≡ key_counter map before
  pub rows : block_rows map after ≡ without_row start (block_rows map before)
  pub good : AreSpacesGood map IsGood after
  pub behind : (b : ℕ) → region_start map StructureValues ≤ b → after b ≡ before b
