-- The call of the function that makes the objects of a block that is entered.
use Rattle.std.specs.Prelude.{◌≡◌, ℕ, ◌+◌, ◌*◌, ◌<◌, ◌≤◌, ◌⊎◌, List, length}
use Rattle.addr_map.specs.declared.region.Region.TheVariants.{StructureValues}
use Rattle.addr_map.specs.Places.{MapSizes, spaces_begin, region_start}
use Rattle.obj_memory.specs.Heap.{rounded_up}
use Rattle.c_tree.specs.declared.program.Variable.{Variable}
use Rattle.source_meaning.specs.State.{State as Source, Outcome as Completed, Gives, Ended, Paused, Home, Setting}
use Rattle.source_meaning.specs.Blocks.{Block, enter_block}
use Rattle.flat_code.specs.declared.function.FlatProgram.{FlatProgram}
use Rattle.flat_code.specs.Memory.{Bytes}
use Rattle.flat_code.specs.State.{Stage}
use Rattle.flat_code.specs.Words.{IsOfWords}
use Rattle.flat_code.specs.Routines.Objects.StandsFor.{Views, Keys}
use Rattle.flat_actions.specs.Actions.{IsFor, KeepsHeld, work_of}
use Rattle.lib_wrappers.specs.AllocatingRoutines.Entering.{block_bytes, AreOfLock, CanEnter}
use Rattle.runtime_functions.specs.Calls.{CallSite, calling_steps}
use Rattle.runtime_functions.specs.Actions.{IsBehind, HasTold, HasExited, ComesBehind, work_of_call}

-- the caller's state stands for one of the source, and its registers hold the end of the object stack and the bytes of
-- the block
pub record IsToEnter (map : MapSizes) (views : Views) (keys : Keys) (IsGood : Bytes → Type 0) (site : CallSite)
    (source : Source) (variables : List Variable) : Type 0 where
  pub words : IsOfWords site.state
  pub stands : IsFor views keys IsGood source site.state
  pub top : site.state.values site.first ≡ source.stacked
  pub bytes : site.state.values (site.first + 1) ≡ block_bytes variables
  pub can : CanEnter map variables source

-- It was entered: behind the status stand where the first object begins, where the last ends, the key and the lock word
-- of all. Of object space only the bytes of the block may have changed.
pub record HasEnteredBlock (views : Views) (keys : Keys) (IsGood : Bytes → Type 0) (site : CallSite) (bound : ℕ)
    (before : Source) (homes : List Home) (after : Source) (stage : Stage) : Type 0 where
  pub behind : IsBehind site 4 bound stage
  pub status : behind.state.values site.into ≡ 0
  pub keys_after : Keys
  pub kept : KeepsHeld before.objects keys keys_after
  pub stands : IsFor views keys_after IsGood after behind.state
  pub first_is : behind.state.values (site.into + 1) ≡ rounded_up 16 before.stacked
  pub end_is : behind.state.values (site.into + 2) ≡ after.stacked
  pub key_is : behind.state.values (site.into + 3) ≡ 2 + keys.made
  pub share : (n : ℕ) → length before.objects ≤ n → keys_after.held n
      ≡ record { key = behind.state.values (site.into + 3); lock = behind.state.values (site.into + 4) }
  pub of_lock : AreOfLock keys_after after homes (behind.state.values (site.into + 4))
  pub low : (b : ℕ) → b < spaces_begin → (b < rounded_up 16 before.stacked) ⊎ (after.stacked ≤ b)
      → behind.state.memory b ≡ site.state.memory b
  pub elsewhere : (b : ℕ) → region_start views.sizes StructureValues ≤ b
      → behind.state.memory b ≡ site.state.memory b

-- by what comes of entering the block at the line of the call
abbrev pub IsBlockServed : Views → Keys → (Bytes → Type 0) → CallSite → (bound line : ℕ) → Source → Completed Block
    → Stage → Type 0
IsBlockServed g k IsGood s b line x (Gives block x') stage = HasEnteredBlock g k IsGood s b x block.homes x' stage
IsBlockServed g k IsGood s b line x (Ended e x') stage =
    HasTold g.sizes e line s 4 b x' stage ⊎ HasExited g.sizes e s x' stage
IsBlockServed g k IsGood s b line x (Paused x') stage = ⊥

-- the steps of the routine
abbrev pub entering_steps : Setting → List Variable → (line : ℕ) → Source → ℕ
entering_steps set vs line x = 100 + 40 * work_of (enter_block set vs line) x

abbrev pub ServesBlock : MapSizes → FlatProgram → Views → Keys → (Bytes → Type 0) → CallSite → Setting → List Variable
    → (line : ℕ) → Source → Type 0
ServesBlock m p g k IsGood s set vs line x =
    ComesBehind m p s (entering_steps set vs line x + calling_steps)
    (IsBlockServed g k IsGood s (work_of_call 2 4 1 (entering_steps set vs line x)) line x (enter_block set vs line x))
