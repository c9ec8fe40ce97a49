-- The memory with which a run begins.
use Rattle.std.specs.Prelude.{◌≡◌, ◌≢◌, ℕ, ◌<◌, [], true, length}
use Rattle.obj_memory.specs.declared.object.Storage.TheVariants.{Static}
use Rattle.obj_memory.specs.Objects.{Objects, object_at}
use Rattle.obj_memory.specs.Sound.{IsSound, AreDisjoint}
use Rattle.flat_code.specs.Memory.{Bytes, load}
use Rattle.flat_code.specs.Routines.Objects.StandsFor.{Views, Keys, IsPlaced, IsLock, global_lock, IsHere}

-- no key was made, and every static object has key 1 and the global lock word
abbrev pub start_keys : Views → Keys
start_keys g = record { made = 0; own = λ n. 0; held = λ n. record { key = 1; lock = global_lock g.sizes } }

-- All objects are static and live and stand in the memory with their bytes and entries. The global lock word holds 1
-- and
-- every other 0, the counter of keys is 2, and no block is live.
pub record IsStart (views : Views) (objects : Objects) (memory : Bytes) : Type 0 where
  pub sound : IsSound views.functions objects
  pub disjoint : AreDisjoint objects
  pub static : (n : ℕ) → (object_at objects n).storage ≡ Static
  pub live : (n : ℕ) → n < length objects → (object_at objects n).is_live ≡ true
  pub placed : (n : ℕ) → n < length objects → IsPlaced views.sizes (object_at objects n)
  pub here : (n : ℕ) → n < length objects → IsHere views (start_keys views) memory (object_at objects n)
  pub global : load 8 memory (global_lock views.sizes) ≡ 1
  pub unused : (a : ℕ) → IsLock views.sizes a → a ≢ global_lock views.sizes → load 8 memory a ≡ 0
  pub counter : views.counter memory ≡ 2
  pub blocks : views.blocks memory ≡ []
