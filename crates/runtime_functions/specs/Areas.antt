-- The calls of the functions on areas of structure values, in the source's terms: a structure is taken from its place or
-- from other contents, made of zeros, or put to a place (C99 6.5.2.2 paragraph 4, 6.5.16.1, 6.8.6.4 paragraph 3).
use Rattle.std.specs.Prelude.{◌≡◌, ℕ, ◌+◌, ◌*◌, Bool, Option, Some, None}
use Rattle.addr_map.specs.Places.{MapSizes}
use Rattle.obj_memory.specs.declared.value.Value.{Value}
use Rattle.obj_memory.specs.Objects.{ObjectState}
use Rattle.source_meaning.specs.State.{State as Source, Outcome as Completed, Gives, Ended, Paused, Rvalue, Run}
use Rattle.flat_code.specs.declared.function.FlatProgram.{FlatProgram}
use Rattle.flat_code.specs.Memory.{Bytes, KeepsBut}
use Rattle.flat_code.specs.State.{Stage}
use Rattle.flat_code.specs.Words.{IsOfWords}
use Rattle.flat_code.specs.Routines.Objects.StandsFor.{Views, Keys}
use Rattle.flat_actions.specs.Actions.{Nowhere, IsFor, work_of}
use Rattle.lib_wrappers.specs.AreaRoutines.Areas.{IsArea, area_bytes}
use Rattle.lib_wrappers.specs.AreaRoutines.Values.{putting, work_from}
use Rattle.runtime_functions.specs.Calls.{CallSite, calling_steps}
use Rattle.runtime_functions.specs.Actions.{IsBehind, ComesBehind, IsServed, work_of_call}

-- the caller's state stands for one of the source
pub record IsAtCall (views : Views) (keys : Keys) (IsGood : Bytes → Type 0) (site : CallSite) (source : Source) : Type 0
  where
    pub words : IsOfWords site.state
    pub stands : IsFor views keys IsGood source site.state

-- ---- contents are left in an area

-- The call went on: an area holds the contents, and all else in memory is as it was.
pub record HasAreaBehind (views : Views) (keys : Keys) (IsGood : Bytes → Type 0) (site : CallSite) (bound address : ℕ)
    (contents : ObjectState) (after : Source) (stage : Stage) : Type 0 where
  pub behind : IsBehind site 0 bound stage
  pub status : behind.state.values site.into ≡ 0
  pub stands : IsFor views keys IsGood after behind.state
  pub area : IsArea views keys contents address behind.state.memory
  pub beside : KeepsBut address (area_bytes contents.size) site.state.memory behind.state.memory

abbrev pub HasContentsBehind : Views → Keys → (Bytes → Type 0) → CallSite → (bound address : ℕ) → Option ObjectState
    → Source → Stage → Type 0
HasContentsBehind g k IsGood s b a None x' stage = ⊥
HasContentsBehind g k IsGood s b a (Some c) x' stage = HasAreaBehind g k IsGood s b a c x' stage

-- by what comes of the run of the source, which gives contents
abbrev pub IsAreaServed : Views → Keys → (Bytes → Type 0) → CallSite → (bound address : ℕ) → Completed Rvalue → Stage
    → Type 0
IsAreaServed g k IsGood s b a (Gives v x') stage = HasContentsBehind g k IsGood s b a v.contents x' stage
IsAreaServed g k IsGood s b a (Ended e x') stage = ⊥
IsAreaServed g k IsGood s b a (Paused x') stage = ⊥

-- with so many parameters, so many steps and so many for each unit of the work of the run; the first parameter is where
-- the area begins
abbrev pub ServesArea : MapSizes → FlatProgram → Views → Keys → (Bytes → Type 0) → CallSite
    → (parameters constant factor : ℕ) → Source → Run Rvalue → Type 0
ServesArea m p g k IsGood s a constant factor x run =
    ComesBehind m p s (constant + factor * work_from run x + calling_steps)
    (IsAreaServed g k IsGood s (work_of_call a 0 1 (constant + factor * work_from run x)) (s.state.values s.first)
    (run x))

-- ---- contents are put to a place

abbrev pub placing_steps : ObjectState → (size : ℕ) → (is_judged : Bool) → Value → (line : ℕ) → Value → Source → ℕ
placing_steps c size is_judged p line v x = 40 + 16 * work_of (putting c size is_judged p line v) x

abbrev pub ServesPlace : MapSizes → FlatProgram → Views → Keys → (Bytes → Type 0) → CallSite → ObjectState
    → (size : ℕ) → (is_judged : Bool) → Value → (line : ℕ) → Value → Source → Type 0
ServesPlace m p g k IsGood s c size is_judged to line v x =
    let steps = placing_steps c size is_judged to line v x in
    ComesBehind m p s (steps + calling_steps)
    (IsServed g k IsGood Nowhere s 7 0 (work_of_call 7 0 1 steps) line x (putting c size is_judged to line v x))
