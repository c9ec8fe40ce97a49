-- A list of flat instructions as a whole action: what it does to a memory that stands for the objects of a source is
-- what a run of the source does to these objects.
use Rattle.std.specs.Prelude.{◌≡◌, ℕ, ◌+◌, ◌-◌, ◌*◌, ◌<◌, ◌≤◌, ◌⊎◌, Bool, true, false, List, [], ◌∷◌, length}
use Rattle.sb_base.specs.declared.ending.Ending.{Ending}
use Rattle.sb_base.specs.Endings.{code_of, report_of}
use Rattle.addr_map.specs.declared.region.Region.TheVariants.{StructureValues}
use Rattle.addr_map.specs.Places.{MapSizes, spaces_begin, region_start}
use Rattle.obj_memory.specs.declared.value.Value.{Value}
use Rattle.obj_memory.specs.Objects.{Objects, object_at}
use Rattle.obj_memory.specs.Sound.{IsSoundTag}
use Rattle.source_meaning.specs.State.{State as Source, Outcome as Completed, Gives, Ended, Paused, Run}
use Rattle.source_meaning.specs.Acting.{state_of}
use Rattle.flat_code.specs.declared.instruction.FlatInstruction.{FlatInstruction}
use Rattle.flat_code.specs.Memory.{Bytes}
use Rattle.flat_code.specs.State.{State, Values}
use Rattle.flat_code.specs.Meaning.{Context}
use Rattle.flat_code.specs.declared.registers.Held.{Held}
use Rattle.flat_code.specs.Routines.Registers.{OthersStay}
use Rattle.flat_code.specs.Routines.Routine.{Does, Outcome, Continues, Halts}
use Rattle.flat_code.specs.Routines.Metadata.{View, ShowsNothing, held_registers}
use Rattle.flat_code.specs.Routines.Objects.StandsFor.{Views, Keys, Spells, StandsFor}
use Rattle.lock_space.specs.Locks.{key_counter, AreLocksGood}
use Rattle.heap_space.specs.Table.{block_rows, IsTableGood}

-- ---- the runtime's spaces

-- how they are read, under a form of the shadow space
abbrev pub views_of : MapSizes → (functions : ℕ) → (types : ℕ → ℕ) → View → Views
views_of map functions types entry = record {
  sizes = map;
  functions = functions;
  types = types;
  entry = entry;
  counter = key_counter map;
  blocks = block_rows map;
}

-- what holds of them between actions
pub record AreSpacesGood (map : MapSizes) (IsGood : Bytes → Type 0) (memory : Bytes) : Type 0 where
  pub shadow : IsGood memory
  pub locks : AreLocksGood map memory
  pub table : IsTableGood map memory

-- ---- states

-- what a run of flat code has shown is what one of the source has
pub record IsShown (source : Source) (state : State) : Type 0 where
  pub input : state.input ≡ source.input
  pub output : state.output ≡ source.output
  pub taken : state.taken ≡ source.taken
  pub accesses : state.accesses ≡ source.accesses

-- a state of flat code stands for one of the source
pub record IsFor (views : Views) (k : Keys) (IsGood : Bytes → Type 0) (source : Source) (state : State) : Type 0 where
  pub objects : StandsFor views k source.objects state.memory
  pub spaces : AreSpacesGood views.sizes IsGood state.memory
  pub keys : k.made ≡ source.keys
  pub shown : IsShown source state

-- ---- values in registers

-- a value is held in one register, or as a pointer with its tag; or there is none to hold
pub data Holder : Type 0 where
  Nowhere : Holder
  Word : (register : ℕ) → Holder
  Pointer : (registers : Held) → Holder

abbrev pub registers_of : Holder → List ℕ
registers_of Nowhere = []
registers_of (Word r) = r ∷ []
registers_of (Pointer h) = held_registers h

-- an argument is held: of a pointer the tag is sound
abbrev pub IsHeldBy : Views → Keys → Objects → Holder → Value → Values → Type 0
IsHeldBy g k objects Nowhere v values = Unit {0}
IsHeldBy g k objects (Word r) v values = values r ≡ v.word
IsHeldBy g k objects (Pointer h) v values = Spells g k v h values × IsSoundTag g.functions objects v.tag

abbrev pub AreHeldBy : Views → Keys → Objects → List Holder → List Value → Values → Type 0
AreHeldBy g k objects [] [] values = Unit {0}
AreHeldBy g k objects (h ∷ hs) (v ∷ vs) values = IsHeldBy g k objects h v values × AreHeldBy g k objects hs vs values
AreHeldBy g k objects _ _ values = ⊥

-- a result is held
abbrev pub IsGivenIn : Views → Keys → Holder → Value → Values → Type 0
IsGivenIn g k Nowhere v values = Unit {0}
IsGivenIn g k (Word r) v values = values r ≡ v.word
IsGivenIn g k (Pointer h) v values = Spells g k v h values

-- ---- what an action leaves

-- of object space all that no object has which lives then, and of the runtime's spaces all behind the table of blocks
pub record StaysElsewhere (map : MapSizes) (objects : Objects) (before after : Bytes) : Type 0 where
  pub low : (a : ℕ) → a < spaces_begin
      → ((n : ℕ) → (object_at objects n).is_live ≡ true
      → (a < (object_at objects n).address) ⊎ ((object_at objects n).address + (object_at objects n).size ≤ a))
      → after a ≡ before a
  pub behind : (a : ℕ) → region_start map StructureValues ≤ a → after a ≡ before a

-- objects made before keep their keys and lock words
pub record KeepsHeld (objects : Objects) (before after : Keys) : Type 0 where
  pub own : (n : ℕ) → n < length objects → after.own n ≡ before.own n
  pub held : (n : ℕ) → n < length objects → after.held n ≡ before.held n

-- it went on: the state stands for that of the source, and a value is held where it is given
pub record HasGiven (views : Views) (k : Keys) (IsGood : Bytes
    → Type 0) (result : Holder) (scratch : ℕ) (before : Source)
    (f : State) (value : Value) (after : Source) (f' : State) : Type 0 where
  pub keys : Keys
  pub held : KeepsHeld before.objects k keys
  pub stands : IsFor views keys IsGood after f'
  pub given : IsGivenIn views keys result value f'.values
  pub turns : f'.turns ≡ f.turns
  pub elsewhere : StaysElsewhere views.sizes after.objects f.memory f'.memory
  pub others : OthersStay (registers_of result) scratch f f'

-- of object space nothing was written, nor of the runtime's spaces behind the table of blocks
pub record StaysUnwritten (map : MapSizes) (before after : Bytes) : Type 0 where
  pub low : (a : ℕ) → a < spaces_begin → after a ≡ before a
  pub behind : (a : ℕ) → region_start map StructureValues ≤ a → after a ≡ before a

-- It ended the run, with the status and the report of an ending. It was judged before anything was written.
pub record HasEnded (map : MapSizes) (ending : Ending) (source : Source) (status : ℕ) (report : List ℕ)
    (before after : State) : Type 0 where
  pub status_is : status ≡ code_of ending
  pub report_is : report ≡ report_of ending
  pub shown : IsShown source after
  pub turns : after.turns ≡ before.turns
  pub unwritten : StaysUnwritten map before.memory after.memory

-- neither memory nor what is shown changed
pub record ChangesNothing (before after : State) : Type 0 where
  pub memory : after.memory ≡ before.memory
  pub shows : ShowsNothing before after

-- just as the run of the source does
abbrev pub Leaves : Views → Keys → (IsGood : Bytes → Type 0) → (result : Holder) → (scratch : ℕ) → Source → State
    → Completed Value → Outcome → Type 0
Leaves g k IsGood result t x f (Gives v x') (Continues f') = HasGiven g k IsGood result t x f v x' f'
Leaves g k IsGood result t x f (Ended e x') (Halts status report f') = HasEnded g.sizes e x' status report f f'
Leaves g k IsGood result t x f (Gives v x') (Halts status report f') = ⊥
Leaves g k IsGood result t x f (Ended e x') (Continues f') = ⊥
Leaves g k IsGood result t x f (Paused x') o = ⊥

-- the work that a run does from a state on
abbrev pub work_of : {A : Type 0} → Run A → Source → ℕ
work_of run x = (state_of (run x)).work - x.work

-- ---- actions

-- the map, how entries are read, what holds of the shadow space, and whether the action is in a function of the
-- runtime: then its accesses of object space are not shown
pub record Basis : Type 1 where
  pub map : MapSizes
  pub entry : View
  pub IsGood : Bytes → Type 0
  pub is_runtime : Bool

-- a function of the runtime; and one of the program, where each access of object space is shown
abbrev pub runtime_basis : MapSizes → View → (Bytes → Type 0) → Basis
runtime_basis map entry IsGood = record { map = map; entry = entry; IsGood = IsGood; is_runtime = true }

abbrev pub program_basis : MapSizes → View → (Bytes → Type 0) → Basis
program_basis map entry IsGood = record { map = map; entry = entry; IsGood = IsGood; is_runtime = false }

abbrev pub context_in : Basis → (charge weight : ℕ) → Context
context_in basis charge weight =
    record { sizes = basis.map; is_runtime = basis.is_runtime; charge = charge; weight = weight }

-- From every state that stands for one of the source, with values in registers that do for the arguments, where P holds
-- of the source's state and these values, it leaves what the run leaves, within so many steps and so many for each unit
-- of the work of the run; whatever the types of the program's functions, and its calls.
abbrev pub IsActionIn : Basis → (P : Source → List Value → Type 0) → (run : List Value → Run Value)
    → (arguments : List Holder) → (result : Holder) → (scratch constant factor : ℕ) → List FlatInstruction → Type 0
IsActionIn basis P run arguments result t constant factor r =
    (functions : ℕ) (types : ℕ → ℕ) (k : Keys) (x : Source) (vs : List Value) (charge weight : ℕ) →
    let g = views_of basis.map functions types basis.entry in
    Does (context_in basis charge weight) r
    (λ f. IsFor g k basis.IsGood x f × AreHeldBy g k x.objects arguments vs f.values × P x vs)
    (λ f. constant + factor * work_of (run vs) x) (λ f. Leaves g k basis.IsGood result t x f (run vs x))

abbrev pub IsAction : Basis → (run : List Value → Run Value) → (arguments : List Holder) → (result : Holder)
    → (scratch constant factor : ℕ) → List FlatInstruction → Type 0
IsAction basis = IsActionIn basis (λ x vs. Unit {0})
