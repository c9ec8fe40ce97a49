-- What the routines on the table of live blocks do.
use Rattle.std.specs.Prelude.{◌≡◌, ℕ, ◌+◌, ◌*◌, List, [], ◌∷◌, ◌++◌, Option, Some, None}
use Rattle.rv_isa.specs.declared.instruction.BranchOp.TheVariants.{Beq, Bne, Bltu, Bgeu}
use Rattle.rv_isa.specs.declared.instruction.RegOp.TheVariants.{Add, Sub, Sll, Srl, Sltu}
use Rattle.rv_isa.specs.declared.instruction.LoadOp.TheVariants.{Ld}
use Rattle.rv_isa.specs.declared.instruction.StoreOp.TheVariants.{Sd}
use Rattle.addr_map.specs.declared.region.Region.TheVariants.{Heap, Blocks}
use Rattle.addr_map.specs.Places.{MapSizes, region_start, region_last, region_end}
use Rattle.flat_code.specs.declared.instruction.RightOperand.TheVariants.{Register, Number}
use Rattle.flat_code.specs.declared.instruction.FlatInstruction.{FlatInstruction}
use Rattle.flat_code.specs.declared.instruction.FlatInstruction.TheVariants.{Constant, Move, Operate, Load, Store}
use Rattle.flat_code.specs.declared.instruction.FlatInstruction.TheVariants.{Branch, JumpForward}
use Rattle.flat_code.specs.Memory.{Bytes}
use Rattle.flat_code.specs.State.{State}
use Rattle.flat_code.specs.Routines.Registers.{OthersStay}
use Rattle.flat_code.specs.Routines.Routine.{unless_code, until_code}
use Rattle.flat_code.specs.Routines.Metadata.{ShowsNothing}
use Rattle.flat_code.specs.Routines.Objects.StandsFor.{BlockRow}
use Rattle.shadow_space.specs.Form.{DoesAnywhere}
use Rattle.heap_space.specs.Rows.{with_row, without_row, HasStart, size_of, row_place}
use Rattle.heap_space.specs.Table.{block_total, block_rows, IsTableGood, KeepsButTable}

-- ---- a block is found

-- the size of the block with a start and a key, or that there is none
abbrev pub IsFound : (answer : Option ℕ) → (size found : ℕ) → Type 0
IsFound None size found = found ≡ 0
IsFound (Some n) size found = (found ≡ 1) × (size ≡ n)

pub record HasFound (map : MapSizes) (start key size found scratch : ℕ) (before after : State) : Type 0 where
  pub answer : IsFound (size_of (before.values start) (before.values key) (block_rows map before.memory))
      (after.values size)
      (after.values found)
  pub memory : after.memory ≡ before.memory
  pub shows : ShowsNothing before after
  pub others : OthersStay (size ∷ found ∷ []) scratch before after

-- ---- a block is removed

pub record HasRemoved (map : MapSizes) (start scratch : ℕ) (before after : State) : Type 0 where
  pub rows : block_rows map after.memory ≡ without_row (before.values start) (block_rows map before.memory)
  pub good : IsTableGood map after.memory
  pub memory : KeepsButTable map before.memory after.memory
  pub shows : ShowsNothing before after
  pub others : OthersStay [] scratch before after

-- ---- a block is placed

-- its place, with its row in the table; or null, and the memory stays
abbrev pub IsPlacedIn : MapSizes → (place : Option ℕ) → (size key address : ℕ) → Bytes → Bytes → Type 0
IsPlacedIn map None size key a m m' = (a ≡ 0) × (m' ≡ m)
IsPlacedIn map (Some p) size key a m m' =
    (a ≡ p) × (block_rows map m' ≡ with_row (record { start = p; size = size; key = key }) (block_rows map m))

abbrev pub place_of : MapSizes → (size : ℕ) → List BlockRow → Option ℕ
place_of map size rows = row_place (region_start map Heap) (region_end map Heap) map.budgets.blocks size rows

pub record HasPlaced (map : MapSizes) (size key into scratch : ℕ) (before after : State) : Type 0 where
  pub placed : IsPlacedIn map (place_of map (before.values size) (block_rows map before.memory)) (before.values size)
      (before.values key)
      (after.values into) before.memory after.memory
  pub good : IsTableGood map after.memory
  pub memory : KeepsButTable map before.memory after.memory
  pub shows : ShowsNothing before after
  pub others : OthersStay (into ∷ []) scratch before after

-- ---- with so many live blocks, within a number of steps for each

abbrev pub HasBlocks : MapSizes → (count : ℕ) → Bytes → Type 0
HasBlocks map n m = IsTableGood map m × (block_total map m ≡ n)

abbrev pub IsFindRoutine : MapSizes → (start key size found scratch : ℕ) → List FlatInstruction → Type 0
IsFindRoutine map start key size found scratch r =
    (count : ℕ) → DoesAnywhere map r (λ s. HasBlocks map count s.memory) (8 + 10 * count)
    (HasFound map start key size found scratch)

abbrev pub IsReleaseRoutine : MapSizes → (start scratch : ℕ) → List FlatInstruction → Type 0
IsReleaseRoutine map start scratch r =
    (count : ℕ)
    → DoesAnywhere map r (λ s. HasBlocks map count s.memory × HasStart (s.values start) (block_rows map s.memory))
    (16 + 16 * count) (HasRemoved map start scratch)

abbrev pub IsPlaceRoutine : MapSizes → (size key into scratch : ℕ) → List FlatInstruction → Type 0
IsPlaceRoutine map size key into scratch r =
    (count : ℕ) → DoesAnywhere map r (λ s. HasBlocks map count s.memory) (32 + 20 * count)
    (HasPlaced map size key into scratch)

-- ---- their instructions

-- the first row and the end of the rows
abbrev pub begin_rows : MapSizes → (cursor end : ℕ) → List FlatInstruction
begin_rows map e l =
    Constant e (region_start map Blocks)
    ∷ Load Ld l e 0
    ∷ Operate Sll l l (Number 5)
    ∷ Operate Add e e (Number 8)
    ∷ Operate Add l l (Register e)
    ∷ []

-- a row is looked at; where it is the one, it is the last
abbrev pub look_at : (start key size found cursor end word : ℕ) → List FlatInstruction
look_at a k n f e l x =
    Load Ld x e 0
    ∷ Branch Bne x (Register a) 5
    ∷ Load Ld x e 16
    ∷ Branch Bne x (Register k) 3
    ∷ Load Ld n e 8
    ∷ Constant f 1
    ∷ Move l e
    ∷ Operate Add e e (Number 32)
    ∷ []

abbrev pub find_code : MapSizes → (start key size found cursor end word : ℕ) → List FlatInstruction
find_code map a k n f e l x =
    (Constant f 0 ∷ begin_rows map e l) ++ until_code Bgeu e (Register l) (look_at a k n f e l x)

-- the room of a block: a size of 0 counts as 1, and it is rounded up to a multiple of 16
abbrev pub round_size : (size room : ℕ) → List FlatInstruction
round_size a n =
    Operate Sltu n a (Number 1)
    ∷ Operate Add n n (Register a)
    ∷ Operate Add n n (Number 15)
    ∷ Operate Srl n n (Number 4)
    ∷ Operate Sll n n (Number 4)
    ∷ []

-- where the next row leaves room, the search stops; else the place is the end of its room
abbrev pub seek_one : (room place cursor stop word end : ℕ) → List FlatInstruction
seek_one n p e q x g =
    Load Ld x e 0
    ∷ Operate Add g p (Register n)
    ∷ Branch Bgeu x (Register g) 3
    ∷ Load Ld p e 24
    ∷ Operate Add e e (Number 32)
    ∷ JumpForward 1
    ∷ Move q e
    ∷ []

-- the row below the end is moved up by one
abbrev pub move_up : (end word : ℕ) → List FlatInstruction
move_up l x =
    Operate Sub l l (Number 32)
    ∷ Load Ld x l 0
    ∷ Store Sd l 32 x
    ∷ Load Ld x l 8
    ∷ Store Sd l 40 x
    ∷ Load Ld x l 16
    ∷ Store Sd l 48 x
    ∷ Load Ld x l 24
    ∷ Store Sd l 56 x
    ∷ []

-- the new row is written, and counted
abbrev pub write_row : MapSizes → (size key into place cursor count end : ℕ) → List FlatInstruction
write_row map a k o p e l g =
    Store Sd e 0 p
    ∷ Store Sd e 8 a
    ∷ Store Sd e 16 k
    ∷ Store Sd e 24 g
    ∷ Constant e (region_start map Blocks)
    ∷ Load Ld l e 0
    ∷ Operate Add l l (Number 1)
    ∷ Store Sd e 0 l
    ∷ Move o p
    ∷ []

abbrev pub insert_code : MapSizes → (size key into place cursor end word room_end : ℕ) → List FlatInstruction
insert_code map a k o p e l x g = until_code Beq l (Register e) (move_up l x) ++ write_row map a k o p e l g

-- the first gap is sought, and the row inserted where it lies in the heap
abbrev pub seek_code : MapSizes → (size key into last room place cursor end stop word room_end : ℕ)
    → List FlatInstruction
seek_code map a k o t n p e l q x g =
    (Operate Sll l l (Number 5)
    ∷ Operate Add e e (Number 8)
    ∷ Operate Add l l (Register e)
    ∷ Constant p (region_start map Heap)
    ∷ Move q l
    ∷ [])
    ++ (until_code Bgeu e (Register q) (seek_one n p e q x g)
    ++ ((Operate Add g p (Register n) ∷ Operate Sub x g (Number 1) ∷ [])
    ++ unless_code Bltu t (Register x) (insert_code map a k o p e l x g)))

-- where as many blocks live as may, nothing is sought
abbrev pub count_code : MapSizes → (size key into last room place cursor end stop word room_end : ℕ)
    → List FlatInstruction
count_code map a k o t n p e l q x g =
    (round_size a n ++ Constant e (region_start map Blocks) ∷ Load Ld l e 0 ∷ [])
    ++ unless_code Bgeu l (Number map.budgets.blocks) (seek_code map a k o t n p e l q x g)

-- nor for a size that is larger than every address of the heap
abbrev pub place_code : MapSizes → (size key into last room place cursor end stop word room_end : ℕ)
    → List FlatInstruction
place_code map a k o t n p e l q x g =
    (Constant o 0 ∷ Constant t (region_last map Heap) ∷ [])
    ++ unless_code Bltu t (Register a) (count_code map a k o t n p e l q x g)

-- the row with the start is sought
abbrev pub seek_start : (start cursor word : ℕ) → List FlatInstruction
seek_start a e x = Operate Add e e (Number 32) ∷ Load Ld x e 0 ∷ []

-- the row behind the cursor is moved down by one
abbrev pub move_down : (cursor word : ℕ) → List FlatInstruction
move_down e x =
    Load Ld x e 32
    ∷ Store Sd e 0 x
    ∷ Load Ld x e 40
    ∷ Store Sd e 8 x
    ∷ Load Ld x e 48
    ∷ Store Sd e 16 x
    ∷ Load Ld x e 56
    ∷ Store Sd e 24 x
    ∷ Operate Add e e (Number 32)
    ∷ []

abbrev pub release_code : MapSizes → (start cursor end word : ℕ) → List FlatInstruction
release_code map a e l x =
    (begin_rows map e l ++ Operate Sub l l (Number 32) ∷ Load Ld x e 0 ∷ [])
    ++ (until_code Beq x (Register a) (seek_start a e x)
    ++ (until_code Beq e (Register l) (move_down e x)
    ++ Constant e (region_start map Blocks) ∷ Load Ld l e 0 ∷ Operate Sub l l (Number 1) ∷ Store Sd e 0 l ∷ []))
