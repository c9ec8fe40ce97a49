-- What the blocks of calls and returns do to the machine.
use Rattle.std.specs.Prelude.{◌≡◌, ◌≢◌, ℕ, ◌+◌, ◌-◌, ◌*◌, ◌<◌, ◌≤◌, ◌⊎◌, Bool, true, List, length}
use Rattle.addr_map.specs.Places.{spaces_begin}
use Rattle.rv_isa.specs.declared.instruction.Instr.{Instr}
use Rattle.flat_code.specs.Memory.{load, KeepsBut}
use Rattle.machine_laws.specs.View.Views.{View, performs, AllGoOn}
use Rattle.machine_laws.specs.declared.location.Location.{Location}
use Rattle.machine_laws.specs.declared.location.Location.TheVariants.{Frame}
use Rattle.machine_laws.specs.Blocks.Effects.{IsIn, AreApart, kept, IsNoScratch}
use Rattle.machine_laws.specs.Calls.Calls.{Keeping, give}

-- the values that are live together have places and homes of their own within the record; one that is kept in no
-- register is kept in its home
pub record AreKept (keeping : Keeping) (live : ℕ → Bool) : Type 0 where
  pub inside : (y : ℕ) → live y ≡ true → IsIn keeping.room (keeping.place y)
  pub low : (y : ℕ) → live y ≡ true → 8 ≤ keeping.home y
  pub high : (y : ℕ) → live y ≡ true → keeping.home y + 8 ≤ keeping.room
  pub own : (y o : ℕ) → live y ≡ true → keeping.place y ≡ Frame o → o ≡ keeping.home y
  pub homes : (x y : ℕ) → live x ≡ true → live y ≡ true → x ≢ y
      → (keeping.home x + 8 ≤ keeping.home y) ⊎ (keeping.home y + 8 ≤ keeping.home x)
  pub apart : (x y : ℕ) → live x ≡ true → live y ≡ true → x ≢ y → AreApart (keeping.place x) (keeping.place y)

-- what is wanted has places of its own
pub record AreOwn (room : ℕ) (place : ℕ → Location) (wanted : ℕ → Bool) : Type 0 where
  pub inside : (y : ℕ) → wanted y ≡ true → IsIn room (place y)
  pub apart : (x y : ℕ) → wanted x ≡ true → wanted y ≡ true → x ≢ y → AreApart (place x) (place y)

-- the words of arguments, of which there are at least so many, lie before the activation record
pub record HasArguments (view : View) (area count fp : ℕ) : Type 0 where
  pub is : view.registers 3 ≡ area
  pub low : spaces_begin ≤ area
  pub below : area + 8 * count ≤ fp

module _ (object_bytes space_bytes fp : ℕ) (k : Keeping) where
  -- so many values stand in the words of arguments
  pub record Given (area first n : ℕ) (v : View) : Type 0 where
    pub go : AllGoOn object_bytes space_bytes (give k first n) v
    pub pc : (performs (give k first n) v).pc ≡ v.pc + 4 * length (give k first n)
    pub others : (r : ℕ) → IsNoScratch r → (performs (give k first n) v).registers r ≡ v.registers r
    pub set : (j : ℕ) → j < n
        → load 8 (performs (give k first n) v).memory (area + 8 * j) ≡ kept fp v (k.place (first + j))
    pub memory : KeepsBut area (8 * n) v.memory (performs (give k first n) v).memory
    pub accesses : (performs (give k first n) v).accesses ≡ v.accesses

  -- those that are live come from there to their places
  pub record Taken (is : List Instr) (area pc first n : ℕ) (v : View) : Type 0 where
    pub go : AllGoOn object_bytes space_bytes is v
    pub pc_is : (performs is v).pc ≡ v.pc + 4 * length is
    pub low : (r : ℕ) → r < 5 → (performs is v).registers r ≡ v.registers r
    pub set : (j : ℕ) → j < n → k.live pc (first + j) ≡ true
        → kept fp (performs is v) (k.place (first + j)) ≡ load 8 v.memory (area + 8 * j)
    pub others : (y : Location) → IsIn k.room y
        → ((j : ℕ) → j < n → k.live pc (first + j) ≡ true → AreApart y (k.place (first + j)))
        → kept fp (performs is v) y ≡ kept fp v y
    pub memory : KeepsBut (fp + 8) (k.room - 8) v.memory (performs is v).memory
    pub accesses : (performs is v).accesses ≡ v.accesses

  -- what is wanted lies in its home
  pub record Saved (is : List Instr) (live wanted : ℕ → Bool) (n : ℕ) (v : View) : Type 0 where
    pub go : AllGoOn object_bytes space_bytes is v
    pub pc : (performs is v).pc ≡ v.pc + 4 * length is
    pub others : (r : ℕ) → r ≢ 7 → (performs is v).registers r ≡ v.registers r
    pub held : (y : ℕ) → live y ≡ true → kept fp (performs is v) (k.place y) ≡ kept fp v (k.place y)
    pub saved : (y : ℕ) → y < n → wanted y ≡ true
        → load 8 (performs is v).memory (fp + k.home y) ≡ kept fp v (k.place y)
    pub memory : KeepsBut (fp + 8) (k.room - 8) v.memory (performs is v).memory
    pub accesses : (performs is v).accesses ≡ v.accesses

  -- and has come back from there
  pub record Restored (is : List Instr) (wanted : ℕ → Bool) (n : ℕ) (v : View) : Type 0 where
    pub go : AllGoOn object_bytes space_bytes is v
    pub pc : (performs is v).pc ≡ v.pc + 4 * length is
    pub low : (r : ℕ) → r < 8 → (performs is v).registers r ≡ v.registers r
    pub set : (y : ℕ) → y < n → wanted y ≡ true
        → kept fp (performs is v) (k.place y) ≡ load 8 v.memory (fp + k.home y)
    pub memory : (performs is v).memory ≡ v.memory
    pub accesses : (performs is v).accesses ≡ v.accesses
