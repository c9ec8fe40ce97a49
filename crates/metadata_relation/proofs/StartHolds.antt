-- The static objects of a valid program are sound and lie in their region, and the memory of a file that has them stands
-- for the source.
use Rattle.std.proofs.Common.{◌≡◌, ℕ, suc, ◌+◌, ◌^◌, ◌<◌, ◌≤◌, true, List, [], ◌∷◌, length, refl, sym, ap, ◌∙◌}
use Rattle.std.proofs.Common.{subst, arith}
use Rattle.std.proofs.lemmas.List.{length-map}
use Rattle.sb_base.specs.Budgets.{BudgetSizes}
use Rattle.addr_map.specs.declared.region.Region.TheVariants.{Globals, Locks}
use Rattle.addr_map.specs.Places.{MapSizes, AreMapped, objects_begin, region_end, region_start, function_address}
use Rattle.addr_map.proofs.Order.{ends_low}
use Rattle.obj_memory.specs.declared.object.Storage.TheVariants.{Static}
use Rattle.obj_memory.specs.Objects.{ObjectState, Objects, object_at}
use Rattle.obj_memory.specs.Heap.{rounded_up, object_room}
use Rattle.obj_memory.specs.Sound.{IsSound}
use Rattle.c_tree.specs.Programs.{Program}
use Rattle.c_tree.specs.ValidProgram.{is_valid_program}
use Rattle.source_meaning.specs.State.{State as Source}
use Rattle.source_meaning.specs.Calls.{header_of}
use Rattle.source_meaning.specs.Keeping.{IsInRegion, ArePlaced, region_of}
use Rattle.source_meaning.specs.Meaning.{setting_of, initial_objects, fresh}
use Rattle.source_meaning.proofs.SureMeaning.{start_good, as_many}
use Rattle.source_meaning.proofs.ValidProgramNames.{valid_names}
use Rattle.tac_ir.specs.declared.function.StaticData.{StaticData}
use Rattle.tac_ir.specs.Meaning.{placed_data, objects_before}
use Rattle.flat_code.specs.Memory.{Bytes, store}
use Rattle.flat_code.specs.State.{State}
use Rattle.flat_code.specs.Routines.Metadata.{View, KeepsShadow, IsObjectWord}
use Rattle.flat_code.specs.Routines.Objects.StandsFor.{StandsFor, global_lock}
use Rattle.flat_code.specs.Routines.Objects.Start.{start_keys}
use Rattle.flat_actions.specs.Actions.{AreSpacesGood, IsFor, IsShown}
use Rattle.metadata_relation.specs.StartData.{statics_end, HoldsStatics, AreSpacesInFile, entries_of_statics}
use Rattle.metadata_relation.specs.Stages.{Compiled, map_of, expansion_of, views}
use Rattle.metadata_relation.specs.Steps.{IsCompiled}
use Rattle.metadata_relation.proofs.StartData.{are_start_entries, are_entries_of}
use Rattle.metadata_relation.proofs.StartFile.{are_statics, static_at, file_stands}

-- objects that end before an address end together there
ends_below : (first last : ℕ) (ds : List StaticData) (offset : ℕ) → first + offset ≤ last
    → ((n : ℕ) → n < length (placed_data first ds offset)
    → (object_at (placed_data first ds offset) n).address + (object_at (placed_data first ds offset) n).size ≤ last)
    → first + statics_end ds offset ≤ last
ends_below first last [] offset low ends = low
ends_below first last (d ∷ ds) offset low ends =
    let here = ends 0 (omega arith) in
    ends_below first last ds (rounded_up 16 offset + d.size) (omega (arith, here)) (λ n lt. ends (suc n) (omega (arith, lt)))

ends_in : (sizes : MapSizes) (o : ObjectState) → o.storage ≡ Static → IsInRegion sizes o
    → o.address + o.size ≤ region_end sizes Globals
ends_in sizes o static h =
    let end = subst (λ x. o.address + object_room x o.size ≤ region_end sizes (region_of x)) static h.end in
    omega (arith, end)

module _ (p : Program) (budgets : BudgetSizes) (mapped : AreMapped (setting_of p budgets).sizes)
    (valid : is_valid_program p ≡ true) where
  initial_sound : IsSound (length p.functions) (initial_objects p (setting_of p budgets))
  initial_sound =
      subst (λ n. IsSound n (initial_objects p (setting_of p budgets)))
      (as_many p budgets mapped (valid_names p valid) p.functions)
      (start_good p budgets mapped (valid_names p valid) []).kept.sound

  module _ (ds : List StaticData) (same : placed_data objects_begin ds 0 ≡ initial_objects p (setting_of p budgets)) where
    pub statics_sound : IsSound (length p.functions) (placed_data objects_begin ds 0)
    statics_sound = subst (IsSound (length p.functions)) (sym same) initial_sound

    end_of : (objects : Objects) → objects ≡ initial_objects p (setting_of p budgets) → (n : ℕ) → n < length objects
        → (object_at objects n).storage ≡ Static
        → (object_at objects n).address + (object_at objects n).size ≤ region_end (setting_of p budgets).sizes Globals
    end_of objects e n low static =
        let placed = subst (ArePlaced (setting_of p budgets).sizes) (sym e)
        (start_good p budgets mapped (valid_names p valid) []).separate.placed in
        ends_in (setting_of p budgets).sizes (object_at objects n) static (placed n low)

    pub statics_fit : objects_begin + statics_end ds 0 ≤ region_end (setting_of p budgets).sizes Globals
    unfolding region_start
    statics_fit =
        ends_below objects_begin (region_end (setting_of p budgets).sizes Globals) ds 0 (omega arith)
        (λ n low. end_of (placed_data objects_begin ds 0) same n low (static_at 0 [] (λ a. 0) ds 0 n))

-- A file with the static objects and their entries, in which all else up to the areas of structures is zero, stands for
-- the source once the global lock word is stored.
module _ (c : Compiled) (IsGood : Bytes → Type 0) (right : IsCompiled c IsGood)
    (local : (m m' : Bytes) → KeepsShadow (map_of c) m m' → IsGood m
    → IsGood m' × ((a : ℕ) → IsObjectWord (map_of c) a → c.entry m' a ≡ c.entry m a)) (memory : Bytes)
    (holds : HoldsStatics (expansion_of c).code.statics memory) (file : AreSpacesInFile (map_of c) c.entry IsGood
    (entries_of_statics (expansion_of c).types (global_lock (map_of c)) objects_begin (expansion_of c).code.statics 0)
    memory) where
  abbrev map : MapSizes
  map = map_of c

  abbrev ds : List StaticData
  ds = (expansion_of c).code.statics

  abbrev functions : ℕ
  functions = length c.setting.functions

  abbrev objects : Objects
  objects = placed_data objects_begin ds 0

  same_sizes : (setting_of c.typed map.budgets).sizes ≡ map
  same_sizes = ap (λ g. g.sizes) (sym right.setting_is) ∙ right.sizes

  mapped : AreMapped (setting_of c.typed map.budgets).sizes
  mapped = subst AreMapped (sym same_sizes) right.mapped

  same_functions : length c.typed.functions ≡ functions
  same_functions = sym (length-map c.typed.functions header_of) ∙ ap length right.functions

  before : objects ≡ initial_objects c.typed (setting_of c.typed map.budgets)
  unfolding region_start
  before = right.before

  sound : IsSound functions objects
  sound =
      subst (λ n. IsSound n objects) same_functions (statics_sound c.typed map.budgets mapped right.valid ds before)

  fit : objects_begin + statics_end ds 0 ≤ region_end map Globals
  fit =
      subst (λ z. objects_begin + statics_end ds 0 ≤ region_end z Globals) same_sizes
      (statics_fit c.typed map.budgets mapped right.valid ds before)

  few : functions ≤ 2 ^ 32
  unfolding function_address
  few = let h = right.few in omega (arith, h)

  lock_low : global_lock map < 2 ^ 64
  lock_low = let low = ends_low map right.mapped Locks in omega (arith, low)

  stands : (x : Source) (f : State) → x.objects ≡ objects → x.keys ≡ 0 → f.memory ≡ store 8 memory (global_lock map) 1
      → IsShown x f → IsFor (views c) (start_keys (views c)) IsGood x f
  stands =
      file_stands map right.mapped functions (expansion_of c).types c.entry IsGood local
      (entries_of_statics (expansion_of c).types (global_lock map) objects_begin ds 0) objects memory
      (are_start_entries map functions (expansion_of c).types c.entry right.types few lock_low objects ds sound.at fit)
      (are_statics map functions ds memory sound fit holds)
      (are_entries_of map functions (expansion_of c).types c.entry right.types few lock_low objects ds sound.at) file

  abbrev state : State
  state = record {
    values = λ x. 0;
    memory = store 8 memory (global_lock map) 1;
    input = [];
    output = [];
    taken = 0;
    accesses = [];
    turns = 0;
    work = 0;
  }

  pub stands_at_start : IsFor (views c) (start_keys (views c)) IsGood (fresh c.setting objects []) state
  stands_at_start = stands (fresh c.setting objects []) state refl refl refl
      (record { input = refl; output = refl; taken = refl; accesses = refl })

-- under the form by which entries are read
pub holds_by : (c : Compiled) (IsGood : Bytes → Type 0) → IsCompiled c IsGood
    → ((m m' : Bytes) → KeepsShadow (map_of c) m m' → IsGood m
    → IsGood m' × ((a : ℕ) → IsObjectWord (map_of c) a → c.entry m' a ≡ c.entry m a)) → (entry : View)
    → c.entry ≡ entry → (memory : Bytes) → HoldsStatics (expansion_of c).code.statics memory
    → AreSpacesInFile (map_of c) entry IsGood (entries_of_statics (expansion_of c).types (global_lock (map_of c))
    objects_begin (expansion_of c).code.statics 0) memory
    → (StandsFor (views c) (start_keys (views c)) (objects_before (expansion_of c).code c.setting)
    (store 8 memory (global_lock (map_of c)) 1))
    × AreSpacesGood (map_of c) IsGood (store 8 memory (global_lock (map_of c)) 1)
unfolding region_start
holds_by c IsGood right local entry same memory holds file =
    let f = stands_at_start c IsGood right local memory holds
    (subst (λ z. AreSpacesInFile (map_of c) z IsGood (entries_of_statics (expansion_of c).types (global_lock (map_of c))
    objects_begin (expansion_of c).code.statics 0) memory) (sym same) file) in
    (f.objects, f.spaces)
