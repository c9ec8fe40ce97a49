-- What the routines on lock words do.
use Rattle.std.specs.Prelude.{◌≡◌, ◌≢◌, ℕ, suc, ◌+◌, ◌^◌, ◌<◌, List, [], ◌∷◌}
use Rattle.rv_isa.specs.declared.instruction.RegOp.TheVariants.{Add, Sub, Sll}
use Rattle.rv_isa.specs.declared.instruction.LoadOp.TheVariants.{Ld}
use Rattle.rv_isa.specs.declared.instruction.StoreOp.TheVariants.{Sd}
use Rattle.addr_map.specs.declared.region.Region.TheVariants.{Locks, FreeLocks}
use Rattle.addr_map.specs.Places.{MapSizes, region_start}
use Rattle.flat_code.specs.declared.instruction.RightOperand.TheVariants.{Register, Number}
use Rattle.flat_code.specs.declared.instruction.FlatInstruction.{FlatInstruction}
use Rattle.flat_code.specs.declared.instruction.FlatInstruction.TheVariants.{Constant, Operate, Load, Store}
use Rattle.flat_code.specs.Memory.{Bytes, load}
use Rattle.flat_code.specs.State.{State}
use Rattle.flat_code.specs.Routines.Registers.{OthersStay}
use Rattle.flat_code.specs.Routines.Metadata.{ShowsNothing}
use Rattle.flat_code.specs.Routines.Objects.StandsFor.{IsLock, global_lock}
use Rattle.shadow_space.specs.Form.{DoesAnywhere}
use Rattle.lock_space.specs.Locks.{key_counter, IsFree, AreLocksGood, KeepsButLocks}

-- every lock word but one stays
abbrev pub OtherLocksStay : MapSizes → (lock : ℕ) → Bytes → Bytes → Type 0
OtherLocksStay map a m m' = (b : ℕ) → IsLock map b → b ≢ a → load 8 m' b ≡ load 8 m b

-- ---- the key that will be made next

pub record HasNext (map : MapSizes) (key scratch : ℕ) (before after : State) : Type 0 where
  pub next_key : after.values key ≡ key_counter map before.memory
  pub memory : after.memory ≡ before.memory
  pub shows : ShowsNothing before after
  pub others : OthersStay (key ∷ []) scratch before after

-- fewer than 2 ^ 62 keys were made
abbrev pub FewKeys : MapSizes → Bytes → Type 0
FewKeys map m = key_counter map m < 2 ^ 62 + 2

-- ---- a new key in a free lock word

pub record HasFresh (map : MapSizes) (key lock scratch : ℕ) (before after : State) : Type 0 where
  pub new_key : after.values key ≡ key_counter map before.memory
  pub counter : key_counter map after.memory ≡ suc (key_counter map before.memory)
  pub was_free : IsFree map before.memory (after.values lock)
  pub locked : load 8 after.memory (after.values lock) ≡ key_counter map before.memory
  pub other_locks : OtherLocksStay map (after.values lock) before.memory after.memory
  pub good : AreLocksGood map after.memory
  pub memory : KeepsButLocks map before.memory after.memory
  pub shows : ShowsNothing before after
  pub others : OthersStay (key ∷ lock ∷ []) scratch before after

-- some lock word is free
pub record CanFresh (map : MapSizes) (memory : Bytes) : Type 0 where
  pub good : AreLocksGood map memory
  pub some : ℕ
  pub some_free : IsFree map memory some
  pub few : FewKeys map memory

-- ---- a lock word that is used no more

pub record HasReleased (map : MapSizes) (lock scratch : ℕ) (before after : State) : Type 0 where
  pub counter : key_counter map after.memory ≡ key_counter map before.memory
  pub released : load 8 after.memory (before.values lock) ≡ 0
  pub other_locks : OtherLocksStay map (before.values lock) before.memory after.memory
  pub good : AreLocksGood map after.memory
  pub memory : KeepsButLocks map before.memory after.memory
  pub shows : ShowsNothing before after
  pub others : OthersStay [] scratch before after

-- a lock word, not the global one, that holds a key
pub record CanRelease (map : MapSizes) (memory : Bytes) (address : ℕ) : Type 0 where
  pub good : AreLocksGood map memory
  pub lock : IsLock map address
  pub not_global : address ≢ global_lock map
  pub used : load 8 memory address ≢ 0

-- ---- within 3, 14 and 11 steps

abbrev pub IsNextRoutine : MapSizes → (key scratch : ℕ) → List FlatInstruction → Type 0
IsNextRoutine map key scratch r = DoesAnywhere map r (λ s. FewKeys map s.memory) 3 (HasNext map key scratch)

abbrev pub IsFreshRoutine : MapSizes → (key lock scratch : ℕ) → List FlatInstruction → Type 0
IsFreshRoutine map key lock scratch r =
    DoesAnywhere map r (λ s. CanFresh map s.memory) 14 (HasFresh map key lock scratch)

abbrev pub IsReleaseRoutine : MapSizes → (lock scratch : ℕ) → List FlatInstruction → Type 0
IsReleaseRoutine map lock scratch r =
    DoesAnywhere map r (λ s. CanRelease map s.memory (s.values lock)) 11 (HasReleased map lock scratch)

-- ---- their instructions

abbrev pub next_code : MapSizes → (key scratch : ℕ) → List FlatInstruction
next_code map key t =
    Constant t (region_start map FreeLocks) ∷ Load Ld key t 0 ∷ Operate Add key key (Number 2) ∷ []

-- the keys made and the lock words in use are counted, and the next lock word of the list gets the key
abbrev pub fresh_code : MapSizes → (key lock cell number : ℕ) → List FlatInstruction
fresh_code map key lock t u =
    Constant t (region_start map FreeLocks)
    ∷ Load Ld key t 0
    ∷ Operate Add u key (Number 1)
    ∷ Store Sd t 0 u
    ∷ Operate Add key key (Number 2)
    ∷ Load Ld u t 8
    ∷ Operate Add u u (Number 1)
    ∷ Store Sd t 8 u
    ∷ Operate Sll u u (Number 3)
    ∷ Operate Add t t (Register u)
    ∷ Load Ld lock t 8
    ∷ Operate Add lock lock (Register u)
    ∷ Operate Add lock lock (Number (region_start map Locks))
    ∷ Store Sd lock 0 key
    ∷ []

-- the lock word is emptied, and put into the list below those that are free
abbrev pub release_code : MapSizes → (lock cell number rest : ℕ) → List FlatInstruction
release_code map lock t u z =
    Constant u 0
    ∷ Store Sd lock 0 u
    ∷ Constant t (region_start map FreeLocks)
    ∷ Load Ld u t 8
    ∷ Operate Sub z u (Number 1)
    ∷ Store Sd t 8 z
    ∷ Operate Sll u u (Number 3)
    ∷ Operate Add t t (Register u)
    ∷ Operate Add u u (Number (region_start map Locks))
    ∷ Operate Sub u lock (Register u)
    ∷ Store Sd t 8 u
    ∷ []
