-- The direct form: the entry of a word stands at four times its address. Objects begin at 0x10000000, and the shadow
-- space
-- at four times that.
use Rattle.std.specs.Prelude.{ℕ, ◌-◌, ◌*◌, List, [], ◌∷◌, ◌++◌, replicate}
use Rattle.addr_map.specs.Places.{MapSizes, objects_begin, whole_pages}
use Rattle.rv_isa.specs.declared.instruction.BranchOp.TheVariants.{Bgeu}
use Rattle.rv_isa.specs.declared.instruction.RegOp.TheVariants.{Add, Sll}
use Rattle.rv_isa.specs.declared.instruction.LoadOp.TheVariants.{Ld}
use Rattle.rv_isa.specs.declared.instruction.StoreOp.TheVariants.{Sd}
use Rattle.flat_code.specs.declared.instruction.RightOperand.TheVariants.{Register, Number}
use Rattle.flat_code.specs.declared.instruction.FlatInstruction.{FlatInstruction}
use Rattle.flat_code.specs.declared.instruction.FlatInstruction.TheVariants.{Constant, Operate, Load, Store}
use Rattle.flat_code.specs.declared.registers.Entry.{Entry}
use Rattle.flat_code.specs.Routines.Routine.{until_code}
use Rattle.flat_code.specs.Routines.Metadata.{View, metadata_at}
use Rattle.shadow_space.specs.declared.start.StartEntry.{StartEntry}
use Rattle.shadow_space.specs.Start.{metadata_of, with_entry, begun}

abbrev pub direct_entry : View
direct_entry m a = metadata_at m (4 * a)

-- the entry at the address in a register is loaded, and stored
abbrev pub load_entry : (at : ℕ) → Entry → List FlatInstruction
load_entry t e = Load Ld e.base t 0 ∷ Load Ld e.bound t 8 ∷ Load Ld e.key t 16 ∷ Load Ld e.lock t 24 ∷ []

abbrev pub store_entry : (at : ℕ) → Entry → List FlatInstruction
store_entry t e = Store Sd t 0 e.base ∷ Store Sd t 8 e.bound ∷ Store Sd t 16 e.key ∷ Store Sd t 24 e.lock ∷ []

abbrev pub direct_read : (at : ℕ) → Entry → (scratch : ℕ) → List FlatInstruction
direct_read at into t = Operate Sll t at (Number 2) ∷ load_entry t into

abbrev pub direct_write : (at : ℕ) → Entry → (scratch : ℕ) → List FlatInstruction
direct_write at from t = Operate Sll t at (Number 2) ∷ store_entry t from

-- the register z for all four words
abbrev pub same_register : ℕ → Entry
same_register z = record { base = z; bound = z; key = z; lock = z }

-- the places of the first entry and behind the last, and zero, are put into registers
abbrev pub begin_clear : (first bytes cursor end zero : ℕ) → List FlatInstruction
begin_clear first bytes c e z =
    Operate Sll c first (Number 2) ∷ Operate Sll e bytes (Number 2) ∷ Operate Add e e (Register c) ∷ Constant z 0 ∷ []

abbrev pub clear_one : (cursor zero : ℕ) → List FlatInstruction
clear_one c z = store_entry c (same_register z) ++ Operate Add c c (Number 32) ∷ []

abbrev pub direct_clear : (first bytes cursor end zero : ℕ) → List FlatInstruction
direct_clear first bytes c e z =
    begin_clear first bytes c e z ++ until_code Bgeu c (Register e) (clear_one c z)

-- the entries that stand in bytes, from the first of object space on
abbrev pub direct_put : List ℕ → StartEntry → List ℕ
direct_put bytes e = with_entry (4 * (e.at - objects_begin)) (metadata_of e) bytes

-- four bytes for each of static objects
abbrev pub direct_start : MapSizes → List StartEntry → List ℕ
direct_start map es = begun direct_put es (replicate (4 * whole_pages map.global_bytes) 0)
