-- When a run of flat code is where a run of three-address code is.
use Rattle.std.specs.Prelude.{◌≡◌, ℕ, ◌+◌, ◌*◌, ◌<◌, ◌≤◌, List, [], ◌∷◌, length, Some, slice_get, get_or}
use Rattle.sb_base.specs.Endings.{code_of, report_of}
use Rattle.obj_memory.specs.declared.value.Value.{Value}
use Rattle.source_meaning.specs.State.{State, Home, NoObject, InObject, Setting}
use Rattle.source_meaning.specs.Actions.{integer}
use Rattle.source_meaning.specs.Structures.{rvalue}
use Rattle.source_meaning.specs.Places.{stack_first}
use Rattle.source_meaning.specs.Meaning.{fresh}
use Rattle.tac_ir.specs.declared.function.CodeFunction.{CodeFunction}
use Rattle.tac_ir.specs.declared.function.Tac.{Tac}
use Rattle.tac_ir.specs.Stage.{Temps, Waiting, Frame, Waits, Entered, Stage, Begins, Stands, Over}
use Rattle.tac_ir.specs.Meaning.{objects_before}
use Rattle.flat_code.specs.declared.function.FlatProgram.{FlatProgram}
use Rattle.flat_code.specs.Memory.{Bytes}
use Rattle.flat_code.specs.State as flat
use Rattle.flat_code.specs.Calls.{function_in, charged}
use Rattle.flat_code.specs.Meaning.{body_of, started}
use Rattle.flat_code.specs.Words.{HasWords}
use Rattle.flat_code.specs.Routines.Objects.StandsFor.{Views, Keys, StandsFor}
use Rattle.metadata_plan.specs.Registers.{all_variables, most_temporaries, variable_register, temporary_register}
use Rattle.metadata_plan.specs.Part.{IsSafeFrom}
use Rattle.metadata_plan.specs.Expanded.{Leads}

-- how many units of work flat code does at most for each of three-address code
abbrev pub factor : ℕ
factor = 21

-- the registers of a function hold the values of its temporaries and plain variables, which are integers
pub record Holds (function : CodeFunction) (temps : Temps) (plain : List Value) (values : flat.Values) : Type 0 where
  pub temporaries : (i : ℕ) → i < most_temporaries function.code
      → temps i ≡ rvalue (integer (values (temporary_register function i)))
  pub variables : (x : ℕ) → x < length (all_variables function)
      → get_or plain x (integer 0) ≡ integer (values (variable_register function x))
  pub count : length plain ≡ length (all_variables function)

-- no variable is an object
abbrev pub AreNoObjects : List Home → Type 0
AreNoObjects [] = Unit {0}
AreNoObjects (NoObject ∷ homes) = AreNoObjects homes
AreNoObjects (InObject o ∷ homes) = ⊥

pub record HaveNoObjects (homes : List Home) : Type 0 where
  pub by : AreNoObjects homes

-- both have the same input, output and accesses, and flat code has begun as many turns, with those before its first
-- call
pub record IsAlike (state : State) (v : flat.State) : Type 0 where
  pub input : v.input ≡ state.input
  pub output : v.output ≡ state.output
  pub taken : v.taken ≡ state.taken
  pub accesses : v.accesses ≡ state.accesses
  pub turns : state.turns ≤ v.turns

-- a caller waits as a record does: behind its call the code leads to its node, and its result comes to the register of
-- its temporary
pub record WaitsAs (setting : Setting) (t : Tac) (address : (function node : ℕ)
    → ℕ) (program : FlatProgram) (waiting : Waiting)
    (frame : flat.Frame) (xs : List flat.Frame) : Type 0 where
  pub function : frame.function ≡ waiting.function
  pub code : CodeFunction
  pub there : slice_get t.functions waiting.function ≡ Some code
  pub leads : Leads (body_of (function_in program waiting.function)) frame.next (address waiting.function waiting.node)
  pub low : waiting.place < most_temporaries code.code
  pub into : frame.into ≡ temporary_register code waiting.place
  pub holds : Holds code waiting.temps waiting.caller.plain frame.values
  pub safe : IsSafeFrom t code waiting.node
  pub homes : HaveNoObjects waiting.caller.frame
  pub stacked : waiting.caller.stacked ≡ stack_first setting
  pub charge : waiting.caller.charged ≡ charged program waiting.function xs
  pub fits : waiting.caller.charged ≤ setting.sizes.budgets.calls

-- under `main` waits the function with which the run began, to exit with the result
abbrev pub EntryWaits : FlatProgram → flat.Frame → Type 0
EntryWaits p x = (x.function ≡ p.entry) × (x.next ≡ 7) × (x.into ≡ 0)

abbrev pub AllWait : Setting → Tac → (address : (function node : ℕ) → ℕ) → FlatProgram → List Frame → List flat.Frame
    → Type 0
AllWait g t address p ws [] = ⊥
AllWait g t address p [] (x ∷ []) = EntryWaits p x
AllWait g t address p [] (x ∷ y ∷ xs) = ⊥
AllWait g t address p (Waits w ∷ ws) (x ∷ xs) = WaitsAs g t address p w x xs × AllWait g t address p ws xs
AllWait g t address p (Entered n b ∷ ws) (x ∷ xs) = ⊥

pub record Wait (setting : Setting) (code : Tac) (address : (function node : ℕ)
    → ℕ) (program : FlatProgram) (ws : List Frame)
    (xs : List flat.Frame) : Type 0 where
  pub by : AllWait setting code address program ws xs

-- both stand at a node of a function. The calls of the program's functions are charged their records, and the memory
-- stands for the objects
pub record IsAt (views : Views) (setting : Setting) (t : Tac) (address : (function node : ℕ)
    → ℕ) (program : FlatProgram)
    (u n : ℕ) (temps : Temps) (ws : List Frame) (state : State) (f pc : ℕ) (v : flat.State)
    (xs : List flat.Frame) : Type 0
  where
    pub function : f ≡ u
    pub place : pc ≡ address u n
    pub code : CodeFunction
    pub there : slice_get t.functions u ≡ Some code
    pub holds : Holds code temps state.plain v.values
    pub safe : IsSafeFrom t code n
    pub alike : IsAlike state v
    pub work : v.work ≤ factor * state.work
    pub homes : HaveNoObjects state.frame
    pub stacked : state.stacked ≡ stack_first setting
    pub charge : state.charged ≡ charged program u xs
    pub fits : state.charged ≤ setting.sizes.budgets.calls
    pub keys : Keys
    pub stands : StandsFor views keys state.objects v.memory
    pub wait : Wait setting t address program ws xs

-- both are at the start
pub record IsFirst (views : Views) (setting : Setting) (code : Tac) (program : FlatProgram) (state : State)
    (x : flat.Stage) : Type 0 where
  pub input : List ℕ
  pub memory : Bytes
  pub keys : Keys
  pub fresh_is : state ≡ fresh setting (objects_before code setting) input
  pub started_is : x ≡ started program memory input
  pub stands : StandsFor views keys (objects_before code setting) memory

-- both have ended, with the same status and report
pub record HaveEnded (status : ℕ) (report : List ℕ) (expected : ℕ) (reported : List ℕ) (state : State)
    (v : flat.State) :
    Type 0 where
  pub status_is : status ≡ expected
  pub report_is : report ≡ reported
  pub alike : IsAlike state v
  pub work : v.work ≤ factor * (state.work + length reported)

abbrev pub MatchesBy : Views → Setting → Tac → (address : (function node : ℕ) → ℕ) → FlatProgram → Stage → flat.Stage
    → Type 0
MatchesBy views g t address p (Begins s) x = IsFirst views g t p s x
MatchesBy views g t address p (Stands u n temps ws s) (flat.Stands f pc v xs) =
    IsAt views g t address p u n temps ws s f pc v xs
MatchesBy views g t address p (Over e s) (flat.Over status report v) =
    HaveEnded status report (code_of e) (report_of e) s v
MatchesBy views g t address p _ _ = ⊥

pub record Matches (views : Views) (setting : Setting) (code : Tac) (address : (function node : ℕ)
    → ℕ) (program : FlatProgram)
    (stage : Stage) (x : flat.Stage) : Type 0 where
  pub matches : MatchesBy views setting code address program stage x
  pub words : HasWords x
