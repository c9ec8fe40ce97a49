-- Blocks that are entered and left, in flat code: all objects of a block are born under one lock word with one key, and
-- die together.
use Rattle.std.specs.Prelude.{◌≡◌, ℕ, ◌+◌, ◌*◌, ◌<◌, ◌≤◌, ◌⊎◌, Bool, true, List, [], ◌∷◌, ◌++◌, length}
use Rattle.sb_base.specs.declared.ending.Ending.TheVariants.{Stack as StackSpent}
use Rattle.rv_isa.specs.declared.instruction.BranchOp.TheVariants.{Bgeu}
use Rattle.rv_isa.specs.declared.instruction.RegOp.TheVariants.{Add, Sub, Sll, Srl}
use Rattle.addr_map.specs.declared.region.Region.TheVariants.{Heap, StructureValues}
use Rattle.addr_map.specs.Places.{MapSizes, spaces_begin, region_start}
use Rattle.obj_memory.specs.declared.object.Storage.TheVariants.{Automatic, Allocated}
use Rattle.obj_memory.specs.Objects.{object_at}
use Rattle.obj_memory.specs.Heap.{rounded_up}
use Rattle.obj_memory.specs.Sound.{Continues as ObjectsContinue}
use Rattle.c_tree.specs.declared.program.Variable.{Variable}
use Rattle.c_tree.specs.Kinds.{size_of_kind}
use Rattle.source_meaning.specs.State.{State as Source, Outcome as Completed, Gives, Ended, Paused, Home, NoObject}
use Rattle.source_meaning.specs.State.{InObject, Setting}
use Rattle.source_meaning.specs.Blocks.{objects_end, has_objects, Block, enter_block, leave_block}
use Rattle.source_meaning.specs.Keeping.{AreSeparate}
use Rattle.flat_code.specs.declared.instruction.RightOperand.TheVariants.{Register, Number}
use Rattle.flat_code.specs.declared.instruction.FlatInstruction.{FlatInstruction}
use Rattle.flat_code.specs.declared.instruction.FlatInstruction.TheVariants.{Constant, Operate, Branch, End}
use Rattle.flat_code.specs.Memory.{Bytes}
use Rattle.flat_code.specs.State.{State}
use Rattle.flat_code.specs.Routines.Registers.{OthersStay}
use Rattle.flat_code.specs.Routines.Routine.{Does, Outcome, Continues, Halts, Either, Never}
use Rattle.flat_code.specs.Routines.Metadata.{View}
use Rattle.flat_code.specs.Routines.Objects.StandsFor.{Views, Keys}
use Rattle.lock_space.specs.Routines.{release_code}
use Rattle.flat_actions.specs.Actions.{IsFor, KeepsHeld, HasEnded, views_of, context_in, work_of, runtime_basis}
use Rattle.lib_wrappers.specs.declared.allocating.entering.EntryRegisters.{EntryRegisters}
use Rattle.lib_wrappers.specs.AllocatingRoutines.Premises.{HaveBytes}
use Rattle.lib_wrappers.specs.AllocatingRoutines.Allocating.{keys_code, key_test}

-- ---- the objects of a block

-- an object is among the homes of a block
abbrev pub IsHomeOf : (n : ℕ) → List Home → Type 0
IsHomeOf n [] = ⊥
IsHomeOf n (NoObject ∷ hs) = IsHomeOf n hs
IsHomeOf n (InObject o ∷ hs) = (n ≡ o) ⊎ IsHomeOf n hs

-- The live objects under a lock word are just those of the block, of which some live, and which are automatic.
pub record AreOfLock (keys : Keys) (source : Source) (homes : List Home) (lock : ℕ) : Type 0 where
  pub some : ℕ
  pub some_live : (object_at source.objects some).is_live ≡ true
  pub some_home : IsHomeOf some homes
  pub under : (n : ℕ) → IsHomeOf n homes
      → (n < length source.objects) × ((object_at source.objects n).storage ≡ Automatic) × ((keys.held n).lock ≡ lock)
  pub home : (n : ℕ) → (object_at source.objects n).is_live ≡ true → (keys.held n).lock ≡ lock → IsHomeOf n homes

-- objects are made with keys of their own: blocks of the heap have them alone, and others later ones
pub record AreNewlyKeyed (before after : Source) (k k' : Keys) : Type 0 where
  pub held : KeepsHeld before.objects k k'
  pub continues : ObjectsContinue before.objects after.objects
  pub later : (n : ℕ) → length before.objects ≤ n → (object_at after.objects n).is_live ≡ true
      → ((object_at after.objects n).storage ≡ Allocated)
      ⊎ (((k'.held n).key ≡ 2 + k'.own n) × (k.made ≤ k'.own n))

-- ---- a block is entered

-- each variable that is an object has a byte
abbrev pub AreSized : List Variable → Type 0
AreSized [] = Unit {0}
AreSized (v ∷ vs) = (v.is_object ≡ true → 1 ≤ size_of_kind v.kind) × AreSized vs

-- The bytes from the first of a block's objects to the end of the last, each at a multiple of 16: as many wherever the
-- object stack ends.
abbrev pub block_bytes : List Variable → ℕ
block_bytes vs = objects_end vs 0

-- what it relies on: the block has objects, all with bytes, and live objects stand as in the states of a run
pub record CanEnter (map : MapSizes) (vs : List Variable) (source : Source) : Type 0 where
  pub some : has_objects vs ≡ true
  pub sized : AreSized vs
  pub separate : AreSeparate map source.stacked source.objects
  pub bytes : HaveBytes source.objects

abbrev pub registers_in : EntryRegisters → List ℕ
registers_in r = r.first ∷ r.end ∷ r.key ∷ r.lock ∷ []

-- it was entered; of object space only the bytes of the block may have changed
pub record HasEntered (views : Views) (k : Keys) (IsGood : Bytes
    → Type 0) (to : EntryRegisters) (scratch : ℕ) (before : Source)
    (f : State) (homes : List Home) (after : Source) (f' : State) : Type 0 where
  pub keys : Keys
  pub held : KeepsHeld before.objects k keys
  pub stands : IsFor views keys IsGood after f'
  pub first_is : f'.values to.first ≡ rounded_up 16 before.stacked
  pub end_is : f'.values to.end ≡ after.stacked
  pub key_is : f'.values to.key ≡ 2 + k.made
  pub share : (n : ℕ) → length before.objects ≤ n
      → keys.held n ≡ record { key = f'.values to.key; lock = f'.values to.lock }
  pub of_lock : AreOfLock keys after homes (f'.values to.lock)
  pub turns : f'.turns ≡ f.turns
  pub low : (a : ℕ) → a < spaces_begin → (a < rounded_up 16 before.stacked) ⊎ (after.stacked ≤ a)
      → f'.memory a ≡ f.memory a
  pub behind : (a : ℕ) → region_start views.sizes StructureValues ≤ a → f'.memory a ≡ f.memory a
  pub others : OthersStay (registers_in to) scratch f f'

abbrev pub IsEntered : Views → Keys → (IsGood : Bytes → Type 0) → EntryRegisters → (scratch : ℕ) → Source → State
    → Completed Block → Outcome → Type 0
IsEntered g k IsGood to t x f (Gives b x') (Continues f') = HasEntered g k IsGood to t x f b.homes x' f'
IsEntered g k IsGood to t x f (Ended e x') (Halts status report f') = HasEnded g.sizes e x' status report f f'
IsEntered g k IsGood to t x f (Gives b x') (Halts status report f') = ⊥
IsEntered g k IsGood to t x f (Ended e x') (Continues f') = ⊥
IsEntered g k IsGood to t x f (Paused x') o = ⊥

-- Registers hold the end of the object stack and the bytes of the block: within 100 steps and 40 for each unit of work.
abbrev pub IsEnterRoutine : MapSizes → View → (Bytes → Type 0) → (top bytes : ℕ) → EntryRegisters → (line scratch : ℕ)
    → List FlatInstruction → Type 0
IsEnterRoutine map entry IsGood top bytes to line t r =
    (set : Setting) → set.sizes ≡ map
    → (functions : ℕ) (types : ℕ → ℕ) (k : Keys) (x : Source) (vs : List Variable) (charge weight : ℕ) →
    let g = views_of map functions types entry in
    Does (context_in (runtime_basis map entry IsGood) charge weight) r
    (λ f. IsFor g k IsGood x f × (f.values top ≡ x.stacked) × (f.values bytes ≡ block_bytes vs) × CanEnter map vs x)
    (λ f. 100 + 40 * work_of (enter_block set vs line) x)
    (λ f. IsEntered g k IsGood to t x f (enter_block set vs line x))

-- ---- its instructions

-- the least multiple of 16 at or above the end of the object stack
abbrev pub round_code : (top first : ℕ) → List FlatInstruction
round_code top first =
    Operate Add first top (Number 15) ∷ Operate Srl first first (Number 4) ∷ Operate Sll first first (Number 4) ∷ []

-- the bytes from an address to the end of the object stack, where the heap begins; the run ends where they are too few
abbrev pub room_code : MapSizes → (first room : ℕ) → List FlatInstruction
room_code map first x = Constant x (region_start map Heap) ∷ Operate Sub x x (Register first) ∷ []

abbrev pub room_test : (bytes room line : ℕ) → List FlatInstruction
room_test bytes x line = Branch Bgeu x (Register bytes) 1 ∷ End (StackSpent line) ∷ []

abbrev pub end_of_block : (first bytes end : ℕ) → List FlatInstruction
end_of_block first bytes end = Operate Add end first (Register bytes) ∷ []

-- over the routines that take a key and make a range zero
abbrev pub enter_code : MapSizes → (fresh zero : List FlatInstruction) → (top bytes : ℕ) → EntryRegisters
    → (line left key : ℕ) → List FlatInstruction
enter_code map fresh zero top bytes to line left key =
    (round_code top to.first ++ room_code map to.first left)
    ++ (room_test bytes left line
    ++ (keys_code map left key
    ++ (key_test left line ++ (fresh ++ (zero ++ end_of_block to.first bytes to.end)))))

-- ---- a block is left

pub record HasLeft (views : Views) (keys : Keys) (IsGood : Bytes
    → Type 0) (scratch : ℕ) (source : Source) (before after : State) : Type 0
  where
    pub stands : IsFor views keys IsGood source after
    pub turns : after.turns ≡ before.turns
    pub low : (a : ℕ) → a < spaces_begin → after.memory a ≡ before.memory a
    pub behind : (a : ℕ) → region_start views.sizes StructureValues ≤ a → after.memory a ≡ before.memory a
    pub others : OthersStay [] scratch before after

-- its lock word is released
abbrev pub leave_code : MapSizes → (lock scratch : ℕ) → List FlatInstruction
leave_code map lock t = release_code map lock t (t + 1) (t + 2)

-- A register holds the lock word of the block: within 11 steps its objects die, in functions of the program and of the
-- runtime.
abbrev pub IsLeaveRoutine : MapSizes → View → (Bytes → Type 0) → (lock scratch : ℕ) → List FlatInstruction → Type 0
IsLeaveRoutine map entry IsGood lock t r =
    (runtime : Bool) (functions : ℕ) (types : ℕ → ℕ) (k : Keys) (x : Source) (b : Block) (charge weight : ℕ) →
    let g = views_of map functions types entry in
    Does (record { sizes = map; is_runtime = runtime; charge = charge; weight = weight }) r
    (λ f. IsFor g k IsGood x f × AreOfLock k x b.homes (f.values lock)) (λ f. 11)
    (λ f. Either (HasLeft g k IsGood t (leave_block b x) f) Never)
