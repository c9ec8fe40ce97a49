-- Parts of contents: narrowed in place to members, and taken to an area.
use Rattle.std.specs.Prelude.{◌≡◌, ℕ, ◌+◌, ◌*◌, ◌≤◌, Bool, List, [], ◌∷◌, Some}
use Rattle.addr_map.specs.Places.{MapSizes, AreMapped}
use Rattle.obj_memory.specs.declared.value.Value.{Value}
use Rattle.obj_memory.specs.Objects.{ObjectState}
use Rattle.obj_memory.specs.Judgement.{narrowed}
use Rattle.obj_memory.specs.Sound.{IsSoundObject}
use Rattle.source_meaning.specs.State.{State as Source}
use Rattle.source_meaning.specs.Structures.{taken}
use Rattle.flat_code.specs.declared.instruction.RightOperand.{RightOperand}
use Rattle.flat_code.specs.declared.instruction.FlatInstruction.{FlatInstruction}
use Rattle.flat_code.specs.Memory.{Bytes}
use Rattle.flat_code.specs.State.{State}
use Rattle.flat_code.specs.Meaning.{right_value}
use Rattle.flat_code.specs.declared.registers.Held.{Held}
use Rattle.flat_code.specs.Routines.Registers.{OthersStay}
use Rattle.flat_code.specs.Routines.Routine.{Does, Either, Never}
use Rattle.flat_code.specs.Routines.Metadata.{View, ShowsNothing}
use Rattle.flat_code.specs.Routines.Objects.StandsFor.{Views, Keys}
use Rattle.flat_actions.specs.Actions.{IsFor, views_of, context_in, runtime_basis}
use Rattle.lib_wrappers.specs.AreaRoutines.Areas.{IsAreaPlace, IsArea, HoldsPart}
use Rattle.lib_wrappers.specs.AreaRoutines.Moving.{IsToMoveArea}
use Rattle.lib_wrappers.specs.AreaRoutines.Values.{LeavesArea, work_from}

-- ---- in place

-- Registers hold a part of contents of some size, the offset of which is the value's word, and in it a member begins.
pub record IsToNarrowPart (map : MapSizes) (value : Value) (size offset a : ℕ) (held : Held) (state : State) : Type 0
  where
    pub part : HoldsPart held size value.word a state.values
    pub place : IsAreaPlace map size a
    pub inside : value.word + offset ≤ size

-- they hold the part of another value, and nothing else changed but registers from scratch on
pub record HasNarrowedPart (value : Value) (size a : ℕ) (held : Held) (scratch : ℕ) (before after : State) : Type 0
  where
    pub part : HoldsPart held size value.word a after.values
    pub memory : after.memory ≡ before.memory
    pub shows : ShowsNothing before after
    pub others : OthersStay (held.value ∷ []) scratch before after

-- in functions of the program and of the runtime: within 8 steps the part becomes its member, which is the value that
-- the source narrows the part's to
abbrev pub IsNarrowPartRoutine : Held → (offset : RightOperand) → (scratch : ℕ) → List FlatInstruction → Type 0
IsNarrowPartRoutine h by t r =
    (map : MapSizes) (v : Value) (size offset bytes a : ℕ) (runtime : Bool) (charge weight : ℕ) → AreMapped map
    → Does (record { sizes = map; is_runtime = runtime; charge = charge; weight = weight }) r
    (λ s. IsToNarrowPart map v size offset a h s × (right_value by s.values ≡ offset)) (λ s. 8)
    (λ s. Either (HasNarrowedPart (narrowed offset bytes v) size a h t s) Never)

-- ---- taken to an area

-- registers hold where an area begins, a part of contents, and its bytes
pub record IsToTakePart (views : Views) (keys : Keys) (source : Source) (contents : ObjectState)
    (offset size a to : ℕ) (held : Held) (bytes : ℕ) (state : State) : Type 0 where
  pub ready : IsToMoveArea views.sizes to held bytes size contents.size offset a state
  pub area : IsArea views keys contents a state.memory
  pub sound : IsSoundObject views.functions source.objects contents

-- within 40 steps and 13 for each byte
abbrev pub IsTakePartRoutine : MapSizes → View → (Bytes → Type 0) → (to : ℕ) → Held → (bytes scratch : ℕ)
    → List FlatInstruction → Type 0
IsTakePartRoutine map entry IsGood to h bytes t r =
    (functions : ℕ) (types : ℕ → ℕ) (k : Keys) (x : Source) (c : ObjectState) (v : Value)
    (size line a charge weight : ℕ) →
    let g = views_of map functions types entry in
    Does (context_in (runtime_basis map entry IsGood) charge weight) r
    (λ f. IsFor g k IsGood x f × IsToTakePart g k x c v.word size a to h bytes f)
    (λ f. 40 + 13 * work_from (taken (Some c) size v line) x)
    (λ f. LeavesArea g k IsGood (f.values to) t f (taken (Some c) size v line x))
