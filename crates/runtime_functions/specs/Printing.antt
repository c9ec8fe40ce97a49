-- The calls of the functions that a print is put together of, in the source's terms: a string is scanned, bytes that
-- were scanned are put out, and so are those of an argument (C99 7.19.6.1).
use Rattle.std.specs.Prelude.{◌≡◌, ◌≢◌, ℕ, ◌+◌, ◌*◌, ◌%◌, ◌^◌, ◌<◌, ◌⊎◌, List, length, get_or}
use Rattle.addr_map.specs.Places.{MapSizes}
use Rattle.obj_memory.specs.declared.value.Value.{Value}
use Rattle.c_tree.specs.declared.format.Directive.{Directive}
use Rattle.c_tree.specs.declared.format.Directive.TheVariants as directive
use Rattle.source_meaning.specs.State.{State as Source, Outcome as Completed, Gives, Ended, Paused}
use Rattle.source_meaning.specs.Acting.{state_of}
use Rattle.source_meaning.specs.Actions.{put_bytes}
use Rattle.source_meaning.specs.Strings.{scan}
use Rattle.source_meaning.specs.Printing.{argument_bytes}
use Rattle.flat_code.specs.declared.function.FlatProgram.{FlatProgram}
use Rattle.flat_code.specs.Memory.{Bytes}
use Rattle.flat_code.specs.State.{Stage}
use Rattle.flat_code.specs.Words.{IsOfWords}
use Rattle.flat_code.specs.Routines.Objects.StandsFor.{Views, Keys}
use Rattle.flat_actions.specs.Actions.{Pointer, IsHeldBy, IsFor, work_of}
use Rattle.flat_actions.specs.Ranges.{IsObjectRange}
use Rattle.runtime_functions.specs.Calls.{CallSite, calling_steps}
use Rattle.runtime_functions.specs.Library.{held_from}
use Rattle.runtime_functions.specs.Actions.{argument_register, over_registers, IsBehind, HasTold, HasExited}
use Rattle.runtime_functions.specs.Actions.{ComesBehind, work_of_call}

-- ---- what all of them leave

-- The call went on, and no memory changed: the state stands for one of the source.
pub record HasGoneBehind (views : Views) (keys : Keys) (IsGood : Bytes → Type 0) (site : CallSite) (results bound : ℕ)
    (after : Source) (stage : Stage) : Type 0 where
  pub behind : IsBehind site results bound stage
  pub status : behind.state.values site.into ≡ 0
  pub stands : IsFor views keys IsGood after behind.state
  pub memory : behind.state.memory ≡ site.state.memory

-- these bytes stand in object space from an address on
pub record AreBytesAt (map : MapSizes) (memory : Bytes) (address : ℕ) (bytes : List ℕ) : Type 0 where
  pub range : IsObjectRange map address (length bytes)
  pub there : (i : ℕ) → i < length bytes → memory (address + i) ≡ get_or bytes i 0

-- ---- a string is scanned

-- the caller's state stands for one of the source, and its registers hold a pointer
pub record IsToScan (views : Views) (keys : Keys) (IsGood : Bytes → Type 0) (site : CallSite) (source : Source)
    (string : Value) : Type 0 where
  pub words : IsOfWords site.state
  pub stands : IsFor views keys IsGood source site.state
  pub held : IsHeldBy views keys source.objects (over_registers (argument_register site) (Pointer (held_from 0))) string
      site.state.values

-- its bytes stand in memory, and behind the status stands the address of the 0 byte behind them
pub record HasFoundEnd (views : Views) (keys : Keys) (IsGood : Bytes → Type 0) (site : CallSite) (bound : ℕ)
    (string : Value) (bytes : List ℕ) (after : Source) (stage : Stage) : Type 0 where
  pub gone : HasGoneBehind views keys IsGood site 1 bound after stage
  pub end_is : gone.behind.state.values (site.into + 1) ≡ string.word + length bytes
  pub found : AreBytesAt views.sizes site.state.memory string.word bytes

-- by what comes of the scan at the line of the call
abbrev pub IsScanServed : Views → Keys → (Bytes → Type 0) → CallSite → (bound line : ℕ) → Value → Completed (List ℕ)
    → Stage → Type 0
IsScanServed g k IsGood s b line v (Gives bytes x') stage = HasFoundEnd g k IsGood s b v bytes x' stage
IsScanServed g k IsGood s b line v (Ended e x') stage =
    HasTold g.sizes e line s 1 b x' stage ⊎ HasExited g.sizes e s x' stage
IsScanServed g k IsGood s b line v (Paused x') stage = ⊥

abbrev pub scanning_steps : Value → (line : ℕ) → Source → ℕ
scanning_steps v line x = 16 + 8 * work_of (scan v line) x

abbrev pub ServesScan : MapSizes → FlatProgram → Views → Keys → (Bytes → Type 0) → CallSite → Value → (line : ℕ)
    → Source → Type 0
ServesScan m p g k IsGood s v line x =
    ComesBehind m p s (scanning_steps v line x + calling_steps)
    (IsScanServed g k IsGood s (work_of_call 5 1 2 (scanning_steps v line x)) line v (scan v line x))

-- ---- bytes are put out

-- registers hold where they begin and where they end
pub record IsToPutBytes (views : Views) (keys : Keys) (IsGood : Bytes → Type 0) (site : CallSite) (source : Source)
    (address : ℕ) (bytes : List ℕ) : Type 0 where
  pub words : IsOfWords site.state
  pub stands : IsFor views keys IsGood source site.state
  pub from : site.state.values site.first ≡ address
  pub to : site.state.values (site.first + 1) ≡ address + length bytes
  pub there : AreBytesAt views.sizes site.state.memory address bytes

-- the state of the source where some bytes were put out
abbrev pub with_bytes : List ℕ → Source → Source
with_bytes bytes x = state_of (put_bytes bytes x)

abbrev pub putting_steps : (bytes : List ℕ) → ℕ
putting_steps bytes = 2 + 5 * length bytes

abbrev pub ServesPut : MapSizes → FlatProgram → Views → Keys → (Bytes → Type 0) → CallSite → (bytes : List ℕ) → Source
    → Type 0
ServesPut m p g k IsGood s bytes x =
    ComesBehind m p s (putting_steps bytes + calling_steps)
    (HasGoneBehind g k IsGood s 0 (work_of_call 2 0 2 (putting_steps bytes)) (with_bytes bytes x))

-- ---- an argument is put out

-- a register holds one that is no string, whose bytes the source gives
pub record IsToPutArgument (views : Views) (keys : Keys) (IsGood : Bytes → Type 0) (site : CallSite) (source : Source)
    (d : Directive) (argument : Value) (line : ℕ) (bytes : List ℕ) : Type 0 where
  pub words : IsOfWords site.state
  pub stands : IsFor views keys IsGood source site.state
  pub held : site.state.values site.first ≡ argument.word
  pub no_string : d ≢ directive.String
  pub bytes_are : argument_bytes d argument line source ≡ Gives bytes source

-- behind the status stands how many bytes were put out, in a word
pub record HasPutArgument (views : Views) (keys : Keys) (IsGood : Bytes → Type 0) (site : CallSite) (bound : ℕ)
    (bytes : List ℕ) (after : Source) (stage : Stage) : Type 0 where
  pub gone : HasGoneBehind views keys IsGood site 1 bound after stage
  pub counted : gone.behind.state.values (site.into + 1) ≡ length bytes % 2 ^ 64

abbrev pub number_steps : (bytes : List ℕ) → ℕ
number_steps bytes = 12 + 15 * length bytes

abbrev pub ServesArgument : MapSizes → FlatProgram → Views → Keys → (Bytes → Type 0) → CallSite → (bytes : List ℕ)
    → Source → Type 0
ServesArgument m p g k IsGood s bytes x =
    ComesBehind m p s (number_steps bytes + calling_steps)
    (HasPutArgument g k IsGood s (work_of_call 1 1 2 (number_steps bytes)) bytes (with_bytes bytes x))
