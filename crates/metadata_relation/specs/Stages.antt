-- When a run of flat code is where a run of three-address code is, of any program.
use Rattle.std.specs.Prelude.{◌≡◌, ℕ, ◌+◌, ◌*◌, ◌<◌, ◌≤◌, true, false, List, length, Some, slice_get}
use Rattle.sb_base.specs.Endings.{code_of, report_of}
use Rattle.addr_map.specs.Places.{MapSizes}
use Rattle.obj_memory.specs.Objects.{object_at}
use Rattle.obj_memory.specs.Sound.{Continues}
use Rattle.c_tree.specs.Programs.{Program}
use Rattle.source_meaning.specs.State.{State, Setting}
use Rattle.source_meaning.specs.Places.{stack_first}
use Rattle.source_meaning.specs.Meaning.{fresh}
use Rattle.tac_ir.specs.declared.function.CodeFunction.{CodeFunction}
use Rattle.tac_ir.specs.Stage.{Temps, Frame, Stage, Begins, Stands, Over}
use Rattle.tac_ir.specs.Meaning.{objects_before}
use Rattle.flat_code.specs.Memory.{Bytes, load, store}
use Rattle.flat_code.specs.State as flat
use Rattle.flat_code.specs.Calls.{charged}
use Rattle.flat_code.specs.Meaning.{started}
use Rattle.flat_code.specs.Words.{HasWords}
use Rattle.flat_code.specs.Routines.Metadata.{View}
use Rattle.flat_code.specs.Routines.Objects.StandsFor.{Views, Keys, StandsFor, global_lock}
use Rattle.flat_code.specs.Routines.Objects.Start.{start_keys}
use Rattle.flat_actions.specs.Actions.{views_of, AreSpacesGood, IsShown, IsFor}
use Rattle.lib_wrappers.specs.AllocatingRoutines.Premises.{HaveBytes}
use Rattle.metadata_relation.specs.Blocks.{Expansion, top_cell}
use Rattle.metadata_relation.specs.Holding.{World, Activation, Holds}
use Rattle.metadata_relation.specs.Scopes.{Names, AreGood}
use Rattle.metadata_relation.specs.Waiting.{Layout, Level, Wait}

-- how many units of work flat code does at most for each of three-address code
abbrev pub factor : ℕ
factor = 21

-- What the relation stands on: a typed program, the setting of its code, how entries are read under the form of the shadow
-- space, and the flat program with the places of its nodes.
pub record Compiled : Type 0 where
  pub typed : Program
  pub setting : Setting
  pub entry : View
  pub layout : Layout

abbrev pub expansion_of : Compiled → Expansion
expansion_of c = c.layout.expansion

abbrev pub map_of : Compiled → MapSizes
map_of c = c.layout.expansion.map

abbrev pub views : Compiled → Views
views c = views_of c.layout.expansion.map (length c.setting.functions) c.layout.expansion.types c.entry

abbrev pub names : Compiled → Names
names c = record { typed = c.typed; tac = c.layout.expansion.code; sizes = c.layout.expansion.map }

-- what holds of a state of the source at every node: its states are good in the scope that they stand in, automatic objects
-- have bytes, no more keys were made than may be, and static objects live where they did before the run
pub record IsSteady (c : Compiled) (function : ℕ) (frames : List Frame) (state : State) : Type 0 where
  pub good : AreGood (names c) function frames state
  pub bytes : HaveBytes state.objects
  pub keys : state.keys ≤ (map_of c).budgets.keys
  pub statics : Continues (objects_before (expansion_of c).code c.setting) state.objects
  pub statics_live : (n : ℕ) → n < length (expansion_of c).code.statics → (object_at state.objects n).is_live ≡ true

-- the memory stands for the objects, and a cell has the end of the object stack
pub record StandsIn (c : Compiled) (IsGood : Bytes → Type 0) (keys : Keys) (state : State) (v : flat.State) : Type 0
  where
    pub for : IsFor (views c) keys IsGood state v
    pub top : load 8 v.memory (top_cell (map_of c)) ≡ state.stacked
    pub turns : state.turns ≤ v.turns

abbrev pub world : Compiled → Keys → State → flat.State → World
world c k s v = record { views = views c; keys = k; objects = s.objects; memory = v.memory }

-- where the function at a node runs
abbrev pub activation : Compiled → CodeFunction → (function node : ℕ) → State → Activation
activation c code u n s = record {
  tac = c.layout.expansion.code;
  code = code;
  charged = s.charged;
  entries = c.layout.expansion.entries u n;
  contents = c.layout.expansion.contents u n;
  unknown = λ i. false;
}

abbrev pub level : CodeFunction → State → flat.State → Level
level code s v = record {
  code = code;
  values = v.values;
  stacked = s.stacked;
  frame = s.frame;
  bound = length s.objects;
}

-- both stand at a node of a function
pub record IsAt (c : Compiled) (IsGood : Bytes → Type 0) (u n : ℕ) (temps : Temps) (ws : List Frame) (state : State)
    (f pc : ℕ) (v : flat.State) (xs : List flat.Frame) : Type 0
  where
    pub function : f ≡ u
    pub place : pc ≡ c.layout.address u n
    pub code : CodeFunction
    pub there : slice_get c.layout.expansion.code.functions u ≡ Some code
    pub work : v.work ≤ factor * state.work
    pub charge : state.charged ≡ charged c.layout.program u xs
    pub fits : state.charged ≤ (map_of c).budgets.calls
    pub keys : Keys
    pub stands : StandsIn c IsGood keys state v
    pub steady : IsSteady c u ws state
    pub holds : Holds (world c keys state v) (activation c code u n state) temps state.plain state.frame v.values
    pub wait : Wait (world c keys state v) state c.layout (stack_first c.setting) (level code state v) ws xs

-- Both are at the start: once the global lock word is stored, the memory stands for the static objects.
pub record IsFirst (c : Compiled) (IsGood : Bytes → Type 0) (state : State) (x : flat.Stage) : Type 0 where
  pub input : List ℕ
  pub memory : Bytes
  pub fresh_is : state ≡ fresh c.setting (objects_before (expansion_of c).code c.setting) input
  pub started_is : x ≡ started c.layout.program memory input
  pub stands : StandsFor (views c) (start_keys (views c)) (objects_before (expansion_of c).code c.setting)
      (store 8 memory (global_lock (map_of c)) 1)
  pub spaces : AreSpacesGood (map_of c) IsGood (store 8 memory (global_lock (map_of c)) 1)

-- both have ended, with the same status and report
pub record HaveEnded (status : ℕ) (report : List ℕ) (expected : ℕ) (reported : List ℕ) (state : State)
    (v : flat.State) : Type 0 where
  pub status_is : status ≡ expected
  pub report_is : report ≡ reported
  pub shown : IsShown state v
  pub turns : state.turns ≤ v.turns
  pub work : v.work ≤ factor * (state.work + length reported)

abbrev pub MatchesBy : Compiled → (Bytes → Type 0) → Stage → flat.Stage → Type 0
MatchesBy c IsGood (Begins s) x = IsFirst c IsGood s x
MatchesBy c IsGood (Stands u n temps ws s) (flat.Stands f pc v xs) = IsAt c IsGood u n temps ws s f pc v xs
MatchesBy c IsGood (Over e s) (flat.Over status report v) = HaveEnded status report (code_of e) (report_of e) s v
MatchesBy c IsGood _ _ = ⊥

pub record Matches (c : Compiled) (IsGood : Bytes → Type 0) (stage : Stage) (x : flat.Stage) : Type 0 where
  pub matches : MatchesBy c IsGood stage x
  pub words : HasWords x
