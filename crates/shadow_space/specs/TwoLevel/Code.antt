-- The instructions of the form in two levels.
use Rattle.std.specs.Prelude.{ℕ, ◌+◌, ◌-◌, ◌/◌, List, [], ◌∷◌, ◌++◌}
use Rattle.rv_isa.specs.declared.instruction.BranchOp.TheVariants.{Beq, Bne, Bgeu}
use Rattle.rv_isa.specs.declared.instruction.RegOp.TheVariants.{Add, Sll, Srl}
use Rattle.rv_isa.specs.declared.instruction.LoadOp.TheVariants.{Ld}
use Rattle.rv_isa.specs.declared.instruction.StoreOp.TheVariants.{Sd}
use Rattle.addr_map.specs.Places.{MapSizes, objects_begin, spaces_begin}
use Rattle.flat_code.specs.declared.instruction.RightOperand.TheVariants.{Register, Number}
use Rattle.flat_code.specs.declared.instruction.FlatInstruction.{FlatInstruction}
use Rattle.flat_code.specs.declared.instruction.FlatInstruction.TheVariants.{Constant, Move, Operate, Load, Store}
use Rattle.flat_code.specs.declared.instruction.FlatInstruction.TheVariants.{Branch}
use Rattle.flat_code.specs.declared.registers.Entry.{Entry}
use Rattle.flat_code.specs.Routines.Routine.{unless_code, until_code}
use Rattle.shadow_space.specs.Direct.{load_entry, store_entry, same_register}
use Rattle.shadow_space.specs.TwoLevel.Tables.{first_table}

-- The offset of a word's entry, the cell of its page, and the table. Objects begin at a whole page, so the address
-- itself has the offset within the page.
abbrev pub look_up : (at table cell offset : ℕ) → List FlatInstruction
look_up a t f u =
    Operate Srl f a (Number 12)
    ∷ Operate Sll u a (Number 52)
    ∷ Operate Srl u u (Number 50)
    ∷ Operate Sll f f (Number 3)
    ∷ Operate Add f f (Number (spaces_begin + 8 - objects_begin / 512))
    ∷ Load Ld t f 0
    ∷ []

-- the entry, or none where the page has no table
abbrev pub two_level_read : (at : ℕ) → Entry → (table cell offset : ℕ) → List FlatInstruction
two_level_read a e t f u =
    (look_up a t f u ++ Constant e.base 0 ∷ Constant e.bound 0 ∷ Constant e.key 0 ∷ Constant e.lock 0 ∷ [])
    ++ unless_code Beq t (Number 0) (Operate Add t t (Register u) ∷ load_entry t e)

-- its own registers stand behind the first that may be written
abbrev pub two_level_read_behind : MapSizes → (at : ℕ) → Entry → (scratch : ℕ) → List FlatInstruction
two_level_read_behind map a e t = two_level_read a e t (t + 1) (t + 2)

-- the next table of the reserve is taken for the page
abbrev pub take_table : MapSizes → (table cell taken next : ℕ) → List FlatInstruction
take_table map t f z y =
    Constant z spaces_begin
    ∷ Load Ld t z 0
    ∷ Operate Add y t (Number 16384)
    ∷ Store Sd z 0 y
    ∷ Operate Add t t (Number (first_table map))
    ∷ Store Sd f 0 t
    ∷ []

-- a page without a table takes one where the entry is not none, and else nothing is to be written
abbrev pub two_level_write : MapSizes → (at : ℕ) → Entry → (table cell offset taken next : ℕ) → List FlatInstruction
two_level_write map a e t f u z y =
    look_up a t f u
    ++ (Branch Bne t (Number 0) 10
    ∷ Branch Bne e.base (Number 0) 3
    ∷ Branch Bne e.bound (Number 0) 2
    ∷ Branch Bne e.key (Number 0) 1
    ∷ Branch Beq e.lock (Number 0) 11
    ∷ (take_table map t f z y ++ Operate Add t t (Register u) ∷ store_entry t e))

abbrev pub two_level_write_behind : MapSizes → (at : ℕ) → Entry → (scratch : ℕ) → List FlatInstruction
two_level_write_behind map a e t = two_level_write map a e t (t + 1) (t + 2) (t + 3) (t + 4)

-- an entry is cleared where the page has a table
abbrev pub clear_word : (cursor zero table cell offset : ℕ) → List FlatInstruction
clear_word c z t f u =
    (look_up c t f u
    ++ unless_code Beq t (Number 0) (Operate Add t t (Register u) ∷ store_entry t (same_register z)))
    ++ Operate Add c c (Number 8) ∷ []

abbrev pub two_level_clear : (first bytes cursor end zero table cell offset : ℕ) → List FlatInstruction
two_level_clear a n c e z t f u =
    (Move c a ∷ Operate Add e a (Register n) ∷ Constant z 0 ∷ [])
    ++ until_code Bgeu c (Register e) (clear_word c z t f u)
