-- An image of a laid expansion does what its program means.
use Rattle.std.proofs.Common.{◌≡◌, ℕ, ◌+◌, ◌<◌, ◌≤◌, true, List, length, Some, refl, sym, ap, ◌∙◌, subst, arith}
use Rattle.std.specs.Prelude.{map, slice_get}
use Rattle.std.specs.List.{All}
use Rattle.std.proofs.lemmas.List.{length-map}
use Rattle.behaviours.specs.Behaviour.{Follows, IsSource}
use Rattle.behaviours.specs.Steps.{run, IsStepping}
use Rattle.behaviours.proofs.Following.{follows_trans}
use Rattle.behaviours.proofs.Running.{never_stuck}
use Rattle.sb_base.specs.Budgets.{BudgetSizes}
use Rattle.addr_map.specs.declared.region.Region.TheVariants.{Globals}
use Rattle.addr_map.specs.Places.{MapSizes, AreMapped, objects_begin, code_begin, function_address, region_start}
use Rattle.addr_map.specs.Places.{region_size, region_end}
use Rattle.obj_memory.specs.Sound.{IsSound}
use Rattle.c_tree.specs.Programs.{Program, FunctionType}
use Rattle.c_tree.specs.ValidProgram.{is_valid_program}
use Rattle.source_meaning.specs.State.{Setting}
use Rattle.source_meaning.specs.Calls.{header_of}
use Rattle.source_meaning.specs.Meaning.{meaning, setting_of, initial_objects}
use Rattle.tac_ir.specs.declared.function.CodeFunction.{CodeFunction}
use Rattle.tac_ir.specs.declared.function.Tac.{Tac}
use Rattle.tac_ir.specs.Meaning.{header_of_code, setting_of_code, objects_before, placed_data, tac_meaning, first_stage}
use Rattle.tac_ir.specs.Meaning.{step}
use Rattle.tac_ir.specs.Stage.{Stuck}
use Rattle.flat_code.specs.declared.function.FlatFunction.{FlatFunction}
use Rattle.flat_code.specs.declared.function.FlatProgram.{FlatProgram}
use Rattle.flat_code.specs.Memory.{Bytes, AreBytes, store}
use Rattle.flat_code.specs.State as flat
use Rattle.flat_code.specs.Meaning.{step as flat_step, started, flat_meaning}
use Rattle.flat_code.specs.Routines.Metadata.{View, KeepsShadow, IsObjectWord}
use Rattle.flat_code.specs.Routines.Objects.StandsFor.{StandsFor, global_lock}
use Rattle.flat_code.specs.Routines.Objects.Start.{start_keys}
use Rattle.flat_actions.specs.Actions.{AreSpacesGood}
use Rattle.shadow_space.specs.Form.{EntryCode}
use Rattle.runtime_functions.specs.Runtime.{runtime_list, AreOfRuntime}
use Rattle.machine_laws.specs.Following.Matching.{object_bytes, space_bytes}
use Rattle.rv_codegen.specs.MachineImages.Image.{filled, data_memory}
use Rattle.metadata_plan.specs.Entries.{AreAllClosed}
use Rattle.metadata_relation.specs.Blocks.{Expansion}
use Rattle.metadata_relation.specs.Contents.{AreKept}
use Rattle.metadata_relation.specs.FunctionTypes.{HaveTypeKeys}
use Rattle.metadata_relation.specs.InlineCode.{IsInlineCode}
use Rattle.metadata_relation.specs.InlineLists.{inline_lists}
use Rattle.metadata_relation.specs.Laid.{program_of, layout_of}
use Rattle.metadata_relation.specs.Expanded.{IsExpanded}
use Rattle.metadata_relation.specs.Stages.{Compiled, views}
use Rattle.metadata_relation.specs.StartData.{statics_end, bytes_of_statics, HoldsStatics, AreSpacesInFile}
use Rattle.metadata_relation.specs.Steps.{IsCompiled}
use Rattle.image_laws.specs.Images.Images.{sizes_of, IsChecked}
use Rattle.image_laws.specs.Images.Expansions.{Laid, compiled_of, start_entries, AreStartSpaces}
use Rattle.image_laws.specs.Images.Expansions.{IsLaidExpansion}
use Rattle.image_laws.proofs.Images.Checks.{same_as_lowered}
use Rattle.image_laws.proofs.Images.Data.{holds, has_spaces, statics_bytes, statics_length}

-- the functions, results and sizes of two settings are the same
same_settings : (g h : Setting) → g.functions ≡ h.functions → g.results ≡ h.results → g.sizes ≡ h.sizes → g ≡ h
same_settings g h functions results sizes =
    ap (λ x. record { functions = x; results = g.results; sizes = g.sizes }) functions
    ∙ (ap (λ x. record { functions = h.functions; results = x; sizes = g.sizes }) results
    ∙ ap (λ x. record { functions = h.functions; results = h.results; sizes = x }) sizes)

-- flat code from the data of its image follows a program and is never stuck
pub record IsFollowing (p : Program) (budgets : BudgetSizes) (m : MapSizes) (code : FlatProgram)
    (objects spaces : List ℕ) : Type 0 where
  pub few : length objects ≤ 0x400000
  pub objects_fit : length objects ≤ object_bytes m
  pub spaces_fit : length spaces ≤ space_bytes m
  pub bytes : All (λ b. b < 256) objects
  pub follows : AreBytes (data_memory (filled (object_bytes m) objects) (filled (space_bytes m) spaces))
      → (input : List ℕ) → Follows 168 (meaning p budgets input)
      (flat_meaning m code (data_memory (filled (object_bytes m) objects) (filled (space_bytes m) spaces)) input)
  pub runs : AreBytes (data_memory (filled (object_bytes m) objects) (filled (space_bytes m) spaces))
      → (input : List ℕ) (k : ℕ) → run (flat_step m code) k
      (started code (data_memory (filled (object_bytes m) objects) (filled (space_bytes m) spaces)) input) ≡ flat.Stuck
      → ⊥

module _ (p : Program) (budgets : BudgetSizes) (valid : is_valid_program p ≡ true)
    (mapped_program : AreMapped (sizes_of p budgets)) (count : length p.functions ≤ 4096) (read write : EntryCode)
    (entry : View) (Good : MapSizes → Bytes → Type 0) (l : Laid)
    (is_checked : IsChecked p l.expansion.code) (code : Tac)
    (h : IsLaidExpansion read write entry (Good (sizes_of p budgets)) (sizes_of p budgets) code l) where
  abbrev r : Tac
  r = l.expansion.code

  abbrev m : MapSizes
  m = l.expansion.map

  abbrev c : Compiled
  c = compiled_of p entry l

  map_is : m ≡ sizes_of p budgets
  map_is = h.is_expansion.map_is

  mapped : AreMapped m
  mapped = subst AreMapped (sym map_is) mapped_program

  headers : map header_of_code r.functions ≡ map header_of p.functions
  headers = (same_as_lowered p r is_checked).tables.headers ∙ is_checked.is_lowered.headers

  results : r.results ≡ map (λ (f : FunctionType). f.result) p.function_types
  results = (same_as_lowered p r is_checked).tables.results ∙ is_checked.is_lowered.results

  bytes : r.global_bytes ≡ (sizes_of p budgets).global_bytes
  bytes = (same_as_lowered p r is_checked).tables.bytes ∙ is_checked.is_lowered.bytes

  sizes : (setting_of_code r m.budgets).sizes ≡ m
  sizes =
      ap {B = MapSizes} (λ n. record { budgets = m.budgets; global_bytes = n })
      (bytes ∙ ap (λ (z : MapSizes). z.global_bytes) (sym map_is))

  setting_is : setting_of_code r m.budgets ≡ setting_of p m.budgets
  setting_is =
      same_settings (setting_of_code r m.budgets) (setting_of p m.budgets) headers results
      (ap {B = MapSizes} (λ n. record { budgets = m.budgets; global_bytes = n }) bytes)

  pub mapped_own : AreMapped (sizes_of p m.budgets)
  mapped_own = record { budgets = mapped.budgets; globals = mapped_program.globals }

  own_sizes : sizes_of p m.budgets ≡ m
  own_sizes = ap (λ (g : Setting). g.sizes) (sym setting_is) ∙ sizes

  -- the static objects as they are placed
  pub placed : placed_data objects_begin r.statics 0 ≡ initial_objects p (setting_of p m.budgets)
  unfolding region_start
  placed =
      ap (λ ds. placed_data objects_begin ds 0) (same_as_lowered p r is_checked).tables.statics
      ∙ is_checked.is_lowered.statics m.budgets

  before : objects_before r (setting_of p m.budgets) ≡ initial_objects p (setting_of p m.budgets)
  unfolding region_start
  before = placed

  few : function_address (length (map header_of_code r.functions)) ≤ code_begin
  unfolding function_address
  few =
      let same = ap length headers ∙ length-map p.functions header_of in
      omega (arith, same, count)

  module _ (inline : (z : MapSizes) → AreMapped z → IsInlineCode z entry (Good z) (inline_lists read write z))
      (expanded : (e : Expansion) (homes : CodeFunction → List ℕ) (runtime : List FlatFunction)
      → AreOfRuntime e.map entry (Good e.map) runtime_list runtime
      → HaveTypeKeys e.code.functions e.types → AreAllClosed e.code e.entries
      → ((u : ℕ) (k : CodeFunction) → slice_get e.code.functions u ≡ Some k → AreKept e.code k (e.contents u))
      → IsExpanded (layout_of e homes runtime) entry (Good e.map))
      (local : (z : MapSizes) (a b : Bytes) → AreMapped z → KeepsShadow z a b → Good z a
      → Good z b × ((w : ℕ) → IsObjectWord z w → entry b w ≡ entry a w)) where
    pub right : IsCompiled c (Good m)
    right = record {
      inline = subst (IsInlineCode m entry (Good m)) (sym (h.is_expansion.inline ∙ ap (inline_lists read write) (sym map_is)))
          (inline m mapped);
      expanded = expanded l.expansion l.homes l.runtime
          (subst (λ z. AreOfRuntime z entry (Good z) runtime_list l.runtime) (sym map_is) h.of_runtime)
          h.is_expansion.types h.is_expansion.entries h.is_expansion.contents;
      local = λ a b keeps good. local m a b mapped keeps good;
      mapped = mapped;
      sizes = sizes;
      functions = sym headers;
      few = few;
      types = h.is_expansion.low;
      valid = valid;
      setting_is = setting_is;
      before = before;
      results = refl;
      headers = headers;
      areas = h.is_expansion.areas;
    }

    module _ (source : (input : List ℕ) → IsSource (meaning p m.budgets input))
        (lowered : (input : List ℕ) → Follows 8 (meaning p m.budgets input) (tac_meaning r m.budgets input))
        (never : (input : List ℕ) (k : ℕ)
        → run (step (setting_of_code r m.budgets) r) k (first_stage r m.budgets input) ≡ Stuck → ⊥)
        (sound : IsSound (length p.functions) (placed_data objects_begin r.statics 0))
        (fit_own : objects_begin + statics_end r.statics 0 ≤ region_end (sizes_of p m.budgets) Globals)
        (steps : (z : MapSizes) (q : FlatProgram)
        → IsStepping (flat_step z q) flat.seen (λ (x : flat.Stage). x ≡ flat.Stuck))
        (file_stands : (memory : Bytes) → HoldsStatics r.statics memory
        → AreSpacesInFile m entry (Good m) (start_entries m l) memory
        → (StandsFor (views c) (start_keys (views c)) (objects_before r c.setting) (store 8 memory (global_lock m) 1))
        × AreSpacesGood m (Good m) (store 8 memory (global_lock m) 1))
        (followed : (memory : Bytes) → AreBytes memory
        → StandsFor (views c) (start_keys (views c)) (objects_before r c.setting) (store 8 memory (global_lock m) 1)
        → AreSpacesGood m (Good m) (store 8 memory (global_lock m) 1) → (input : List ℕ)
        → ((k : ℕ) → run (step (setting_of_code r m.budgets) r) k (first_stage r m.budgets input) ≡ Stuck → ⊥)
        → Follows 21 (tac_meaning r m.budgets input)
        (flat_meaning m (program_of l.expansion l.homes l.runtime) memory input))
        (spaces : List ℕ) (starts_program : AreStartSpaces (sizes_of p budgets) entry (Good (sizes_of p budgets)) l spaces)
      where
        starts : AreStartSpaces m entry (Good m) l spaces
        starts = subst (λ z. AreStartSpaces z entry (Good z) l spaces) (sym map_is) starts_program

        abbrev flat_code : FlatProgram
        flat_code = program_of l.expansion l.homes l.runtime

        abbrev memory : Bytes
        memory =
            data_memory (filled (object_bytes m) (bytes_of_statics r.statics 0)) (filled (space_bytes m) spaces)

        fit : objects_begin + statics_end r.statics 0 ≤ region_end m Globals
        fit = subst (λ z. objects_begin + statics_end r.statics 0 ≤ region_end z Globals) own_sizes fit_own

        stand : (StandsFor (views c) (start_keys (views c)) (objects_before r c.setting)
            (store 8 memory (global_lock m) 1)) × AreSpacesGood m (Good m) (store 8 memory (global_lock m) 1)
        stand =
            file_stands memory (holds m (bytes_of_statics r.statics 0) spaces r.statics refl mapped fit)
            (has_spaces m (bytes_of_statics r.statics 0) spaces entry (Good m) (start_entries m l) starts.starts starts.fit)

        objects_few : length (bytes_of_statics r.statics 0) ≤ 0x400000
        unfolding region_start region_size
        objects_few =
            let long = statics_length (length p.functions) (placed_data objects_begin r.statics 0) r.statics 0 sound.at in
            let g = mapped.globals in
            let f = fit in
            omega (arith, long, f, g)

        objects_fit : length (bytes_of_statics r.statics 0) ≤ object_bytes m
        unfolding region_start region_size
        objects_fit =
            let long = statics_length (length p.functions) (placed_data objects_begin r.statics 0) r.statics 0 sound.at in
            let f = fit in
            omega (arith, long, f)

        spaces_fit : length spaces ≤ space_bytes m
        unfolding region_start region_size
        spaces_fit = let f = starts.fit in omega (arith, f)

        objects_bytes : All (λ b. b < 256) (bytes_of_statics r.statics 0)
        objects_bytes = statics_bytes (length p.functions) (placed_data objects_begin r.statics 0) r.statics 0 sound.at

        code_follows : AreBytes memory → (input : List ℕ)
            → Follows 168 (meaning p m.budgets input) (flat_meaning m flat_code memory input)
        code_follows are input =
            follows_trans 8 21 (meaning p m.budgets input) (tac_meaning r m.budgets input)
            (flat_meaning m flat_code memory input) (lowered input)
            (followed memory are stand.0 stand.1 input (never input))

        code_runs : AreBytes memory → (input : List ℕ) (k : ℕ)
            → run (flat_step m flat_code) k (started flat_code memory input) ≡ flat.Stuck → ⊥
        code_runs are input k e =
            never_stuck (flat_step m flat_code) flat.seen (λ (x : flat.Stage). x ≡ flat.Stuck) (steps m flat_code) 168
            (meaning p m.budgets input) (started flat_code memory input) refl (source input) (code_follows are input) k e

        pub following : IsFollowing p budgets (sizes_of p budgets) flat_code (bytes_of_statics r.statics 0) spaces
        following =
            subst (λ (z : MapSizes). IsFollowing p z.budgets z flat_code (bytes_of_statics r.statics 0) spaces) map_is
            (record {
              few = objects_few;
              objects_fit = objects_fit;
              spaces_fit = spaces_fit;
              bytes = objects_bytes;
              follows = code_follows;
              runs = code_runs;
            })
