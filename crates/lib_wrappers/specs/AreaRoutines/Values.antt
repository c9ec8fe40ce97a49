-- The contents of structure values in flat code, in terms of the runs of the source.
use Rattle.std.specs.Prelude.{◌≡◌, ℕ, ◌+◌, ◌-◌, ◌*◌, ◌≤◌, Bool, List, [], Option, Some, None}
use Rattle.addr_map.specs.Places.{MapSizes}
use Rattle.obj_memory.specs.declared.value.Value.{Value}
use Rattle.obj_memory.specs.declared.judgement.Verdict.TheVariants.{Inside}
use Rattle.obj_memory.specs.Objects.{ObjectState}
use Rattle.obj_memory.specs.Judgement.{place_in}
use Rattle.obj_memory.specs.Sound.{IsSoundObject}
use Rattle.c_tree.specs.declared.expression.Kind.TheVariants.{Structure}
use Rattle.source_meaning.specs.State.{State as Source, Outcome as Completed, Gives, Ended, Paused, Rvalue, Run}
use Rattle.source_meaning.specs.State.{◌>>◌, done}
use Rattle.source_meaning.specs.Actions.{integer, verdict_on}
use Rattle.source_meaning.specs.Acting.{state_of}
use Rattle.source_meaning.specs.Keeping.{IsDirect}
use Rattle.source_meaning.specs.Structures.{taken, make_zero, copy_value}
use Rattle.flat_code.specs.declared.instruction.FlatInstruction.{FlatInstruction}
use Rattle.flat_code.specs.Memory.{Bytes, KeepsBut}
use Rattle.flat_code.specs.State.{State}
use Rattle.flat_code.specs.declared.registers.Held.{Held}
use Rattle.flat_code.specs.Routines.Registers.{OthersStay}
use Rattle.flat_code.specs.Routines.Routine.{Does, Outcome, Continues, Halts}
use Rattle.flat_code.specs.Routines.Metadata.{View}
use Rattle.flat_code.specs.Routines.Objects.StandsFor.{Views, Keys}
use Rattle.flat_actions.specs.Actions.{IsFor, Nowhere, Leaves, views_of, context_in, runtime_basis, work_of}
use Rattle.lib_wrappers.specs.AreaRoutines.Areas.{IsAreaPlace, IsArea, HoldsPart, area_bytes}
use Rattle.lib_wrappers.specs.AreaRoutines.Zeroing.{IsToZeroArea}

-- ---- what is left

-- an area holds contents; all else in memory is as it was
pub record HasGivenArea (views : Views) (keys : Keys) (IsGood : Bytes → Type 0) (address scratch : ℕ)
    (contents : ObjectState) (f : State) (after : Source) (f' : State) : Type 0 where
  pub stands : IsFor views keys IsGood after f'
  pub area : IsArea views keys contents address f'.memory
  pub beside : KeepsBut address (area_bytes contents.size) f.memory f'.memory
  pub turns : f'.turns ≡ f.turns
  pub others : OthersStay [] scratch f f'

abbrev pub GivesArea : Views → Keys → (Bytes → Type 0) → (address scratch : ℕ) → Option ObjectState → State → Source
    → State → Type 0
GivesArea g k IsGood a t None f x' f' = ⊥
GivesArea g k IsGood a t (Some c) f x' f' = HasGivenArea g k IsGood a t c f x' f'

-- just as the run of the source does, which gives contents
abbrev pub LeavesArea : Views → Keys → (Bytes → Type 0) → (address scratch : ℕ) → State → Completed Rvalue → Outcome
    → Type 0
LeavesArea g k IsGood a t f (Gives v x') (Continues f') = GivesArea g k IsGood a t v.contents f x' f'
LeavesArea g k IsGood a t f (Gives v x') (Halts status report f') = ⊥
LeavesArea g k IsGood a t f (Ended e x') o = ⊥
LeavesArea g k IsGood a t f (Paused x') o = ⊥

-- the work that a run does from a state on
abbrev pub work_from : Run Rvalue → Source → ℕ
work_from run x = (state_of (run x)).work - x.work

-- ---- a structure taken from its place

-- registers hold where the area begins, the address of the structure, which lies in a live object, and its bytes
pub record IsToTakePlace (map : MapSizes) (source : Source) (value : Value) (size to from bytes : ℕ) (state : State)
    : Type 0 where
  pub word : state.values from ≡ value.word
  pub size_is : state.values bytes ≡ size
  pub place : IsAreaPlace map size (state.values to)
  pub direct : IsDirect source.objects value size

-- within 48 steps and 16 for each byte
abbrev pub IsTakeRoutine : MapSizes → View → (Bytes → Type 0) → (to from bytes scratch : ℕ) → List FlatInstruction
    → Type 0
IsTakeRoutine map entry IsGood to from bytes t r =
    (functions : ℕ) (types : ℕ → ℕ) (k : Keys) (x : Source) (v : Value) (size line charge weight : ℕ) →
    let g = views_of map functions types entry in
    Does (context_in (runtime_basis map entry IsGood) charge weight) r
    (λ f. IsFor g k IsGood x f × IsToTakePlace map x v size to from bytes f)
    (λ f. 48 + 16 * work_from (taken None size v line) x)
    (λ f. LeavesArea g k IsGood (f.values to) t f (taken None size v line x))

-- ---- a structure of zeros

-- within 16 steps and 5 for each byte
abbrev pub IsMakeZeroRoutine : MapSizes → View → (Bytes → Type 0) → (at bytes scratch : ℕ) → List FlatInstruction
    → Type 0
IsMakeZeroRoutine map entry IsGood at bytes t r =
    (functions : ℕ) (types : ℕ → ℕ) (k : Keys) (x : Source) (size charge weight : ℕ) →
    let g = views_of map functions types entry in
    Does (context_in (runtime_basis map entry IsGood) charge weight) r
    (λ f. IsFor g k IsGood x f × IsToZeroArea map at bytes size f)
    (λ f. 16 + 5 * work_from (make_zero (Structure size)) x)
    (λ f. LeavesArea g k IsGood (f.values at) t f (make_zero (Structure size) x))

-- ---- contents put to a place

-- Registers hold the address of a place in a live object, the bytes that are put, and a part of contents in an area. A
-- place that is judged is found inside.
pub record IsToPutPlace (views : Views) (keys : Keys) (source : Source) (is_judged : Bool) (value : Value)
    (contents : ObjectState) (offset size a : ℕ) (to : ℕ) (held : Held) (bytes : ℕ) (state : State) : Type 0 where
  pub word : state.values to ≡ value.word
  pub size_is : state.values bytes ≡ size
  pub part : HoldsPart held contents.size offset a state.values
  pub room : offset + size ≤ contents.size
  pub place : IsAreaPlace views.sizes contents.size a
  pub area : IsArea views keys contents a state.memory
  pub sound : IsSoundObject views.functions source.objects contents
  pub direct : IsDirect source.objects value size
  pub inside : verdict_on is_judged size value source.objects ≡ Inside (place_in source.objects direct.object value.word)

-- the run of the source
abbrev pub putting : ObjectState → (size : ℕ) → (is_judged : Bool) → Value → (line : ℕ) → Value → Run Value
putting c size is_judged p line v = copy_value (Some c) size is_judged p line v >> done (integer 0)

-- within 40 steps and 16 for each byte
abbrev pub IsPutRoutine : MapSizes → View → (Bytes → Type 0) → (to : ℕ) → Held → (bytes scratch : ℕ)
    → List FlatInstruction → Type 0
IsPutRoutine map entry IsGood to h bytes t r =
    (functions : ℕ) (types : ℕ → ℕ) (k : Keys) (x : Source) (is_judged : Bool) (p : Value) (c : ObjectState) (v : Value)
    (size line a charge weight : ℕ) →
    let g = views_of map functions types entry in
    Does (context_in (runtime_basis map entry IsGood) charge weight) r
    (λ f. IsFor g k IsGood x f × IsToPutPlace g k x is_judged p c v.word size a to h bytes f)
    (λ f. 40 + 16 * work_of (putting c size is_judged p line v) x)
    (λ f. Leaves g k IsGood Nowhere t x f (putting c size is_judged p line v x))
