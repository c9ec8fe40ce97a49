-- Where a run begins: the global lock word and the end of the object stack are stored, and `main` is called.
use Rattle.std.proofs.Common.{◌≡◌, ⊎_elim, inl, ℕ, ◌+◌, ◌-◌, ◌*◌, ◌^◌, ◌<◌, ◌≤◌, Bool, true, false}
use Rattle.std.proofs.Common.{List, [], ◌∷◌, ◌++◌, length, map, Option, Some, None, refl, sym, ap, ◌∙◌, subst, arith}
use Rattle.std.proofs.Common.{le-leb, mod-eq_of_lt}
use Rattle.std.specs.Prelude.{slice_get, nat_le, nat_lt, not, ◌||◌, ◌&&◌, ◌==◌, if◌then◌else◌}
use Rattle.std.proofs.lemmas.Bool.{and_parts, cases_lt, eqb-true, lt-leb}
use Rattle.words.specs.TwosComplement.{low_bits}
use Rattle.behaviours.specs.Shown.{Write}
use Rattle.addr_map.specs.declared.region.Region.TheVariants.{Globals, Locks, Cells, Stack as StackRegion}
use Rattle.addr_map.specs.declared.region.Region.TheVariants.{StructureValues}
use Rattle.addr_map.specs.Places.{MapSizes, region_size, region_start, region_end, spaces_begin}
use Rattle.addr_map.proofs.Order.{ends_low}
use Rattle.sb_base.specs.declared.ending.Ending.{Ending}
use Rattle.sb_base.specs.declared.ending.Ending.TheVariants.{Keys, Stack}
use Rattle.sb_base.specs.Endings.{code_of, report_of}
use Rattle.obj_memory.specs.declared.object.Storage.TheVariants.{Static, Automatic}
use Rattle.obj_memory.specs.Objects.{Objects, object_at}
use Rattle.obj_memory.proofs.Continuing.{continues_same}
use Rattle.c_tree.specs.declared.program.Variable.{Variable}
use Rattle.source_meaning.specs.State.{Ended, Gives as GivesRun, Setting, State}
use Rattle.source_meaning.specs.Blocks.{has_objects, objects_end}
use Rattle.source_meaning.specs.Calls.{set_up}
use Rattle.source_meaning.specs.Keeping.{AreSeparate}
use Rattle.source_meaning.specs.Good.{IsGood as IsGoodState, IsSetUp, ArgumentsAre, file_scope, program_context}
use Rattle.source_meaning.specs.Meaning.{setting_of, fresh}
use Rattle.source_meaning.specs.Places.{stack_first, stack_end}
use Rattle.tac_ir.specs.declared.function.CodeFunction.{CodeFunction}
use Rattle.tac_ir.specs.declared.function.Tac.{Tac}
use Rattle.tac_ir.specs.Stage.{no_temps, Stage, Begins, Stands, Over, came}
use Rattle.tac_ir.specs.Costs.{spent, fourfold}
use Rattle.tac_ir.specs.Meaning.{function_in as code_in, header_of_code, begun, called_at, line_in, objects_before}
use Rattle.tac_ir.specs.Meaning.{step as tac_step}
use Rattle.rv_isa.specs.Results.{wrap}
use Rattle.rv_isa.specs.declared.instruction.StoreOp.TheVariants.{Sd}
use Rattle.flat_code.specs.declared.instruction.FlatInstruction.{FlatInstruction}
use Rattle.flat_code.specs.declared.instruction.FlatInstruction.TheVariants as flat_code
use Rattle.flat_code.specs.declared.function.FlatFunction.{FlatFunction}
use Rattle.flat_code.specs.declared.function.FlatProgram.{FlatProgram}
use Rattle.flat_code.specs.Memory.{Bytes, put, store}
use Rattle.flat_code.specs.Spaces.{is_of_objects, is_allowed}
use Rattle.flat_code.specs.State as flat
use Rattle.flat_code.specs.Calls.{function_in, charged}
use Rattle.flat_code.specs.Words.{HasWords}
use Rattle.flat_code.specs.Meaning.{Goes, Fails, body_of, started, weight_of, is_runtime_function, goes_to}
use Rattle.flat_code.proofs.Stored.{put_same, put_other, store_beside, load_stored}
use Rattle.flat_code.specs.Routines.Objects.StandsFor.{StandsFor, global_lock}
use Rattle.flat_code.specs.Routines.Objects.Start.{start_keys}
use Rattle.flat_code.specs.Routines.Routine.{HasAt}
use Rattle.flat_code.proofs.Routines.Steps.{has_front, has_back}
use Rattle.flat_code.proofs.Routines.Words.{IsLocal}
use Rattle.lock_space.proofs.Spaces.{allowed_at}
use Rattle.flat_actions.specs.Actions.{AreSpacesGood}
use Rattle.lib_wrappers.proofs.AreaRoutines.Behind.{spaces_kept, stands_kept}
use Rattle.metadata_plan.specs.Blocks.{call_tests}
use Rattle.metadata_plan.proofs.Calling.{tested, tests_pass, tests_end}
use Rattle.metadata_plan.proofs.Entering.{no_rooms}
use Rattle.metadata_plan.proofs.Flat.{at_place, Comes, constant_comes, next_comes, one, then_comes, turn_comes}
use Rattle.metadata_plan.proofs.Flat.{weight_small}
use Rattle.metadata_plan.proofs.Flat.{words_kept}
use Rattle.metadata_plan.proofs.SetUp.{exhausted}
use Rattle.metadata_relation.specs.Blocks.{objects_of_body, result_of, start_code, main_tests, before_main}
use Rattle.metadata_relation.specs.Blocks.{object_tests}
use Rattle.metadata_relation.specs.Expanded.{EntersAt}
use Rattle.metadata_relation.specs.Registers.{is_no_aggregate}
use Rattle.metadata_relation.specs.Scopes.{AreGood, context_at}
use Rattle.metadata_relation.specs.Stages.{Compiled, expansion_of, IsFirst, map_of, names, StandsIn, views}
use Rattle.metadata_relation.specs.Steps.{IsCompiled, is_covered_call, is_covered_main, CoversMain}
use Rattle.metadata_relation.proofs.CallStates.{entered_from, fresh_good}
use Rattle.metadata_relation.proofs.Calls.{spare_or}
use Rattle.metadata_relation.proofs.EnteredBodies.{enters}
use Rattle.metadata_relation.proofs.Entering.{call_stage, earlier, entry_there, EntryIsThere, few_parameters}
use Rattle.metadata_relation.proofs.Entering.{IsCoveredCall}
use Rattle.metadata_relation.proofs.Entering.{covered_call}
use Rattle.source_meaning.proofs.Holding.{live_made}
use Rattle.metadata_relation.proofs.Statics.{placed_count, placed_static}
use Rattle.metadata_relation.proofs.ObjectTests.{IsObjectTested, keys_spent, objects_tested, space_spent}
use Rattle.metadata_relation.proofs.Standing.{ends, ends_where, leaves_same, Result}

-- ---- a store by a function of the runtime

module _ (m : MapSizes) (p : FlatProgram) (u pc : ℕ) (v : flat.State) (xs : List flat.Frame) where
  -- it is not shown
  pub store_comes : (y x a : ℕ) → slice_get (body_of (function_in p u)) pc ≡ Some (flat_code.Store Sd y 0 x)
      → is_runtime_function (function_in p u) ≡ true → wrap (v.values y + 0) ≡ a → is_allowed m a 8 ≡ true
      → Comes m p u pc v xs (pc + 1) (record v { memory = store 8 v.memory a (v.values x) }) 2
  store_comes y x a at runtime is allowed =
      let w = weight_of (function_in p u) in
      let t : flat.State = record v { work = v.work + w } in
      let stored : ℕ → flat.State = λ z. record t { memory = store 8 v.memory z (v.values x) } in
      let shown : ℕ → Bool → flat.State = λ z b. if not b && is_of_objects m z 8
      then record (stored z) { accesses = v.accesses ++ record { address = z; size = 8; kind = Write } ∷ [] }
      else stored z in
      record {
        steps = 1;
        work = w;
        few = weight_small (function_in p u);
        comes = one m p u pc v xs (flat_code.Store Sd y 0 x) at
            ∙ ap (λ b. goes_to m p (flat_code.Store Sd y 0 x) u pc t xs
            (if b then Goes (pc + 1) (shown (wrap (v.values y + 0)) (is_runtime_function (function_in p u))) else Fails))
            (ap (λ z. is_allowed m z 8) is ∙ allowed)
            ∙ ap (λ b. flat.Stands u (pc + 1) (shown (wrap (v.values y + 0)) b) xs) runtime
            ∙ ap (λ z. flat.Stands u (pc + 1) (stored z) xs) is;
      }

-- the work of where a run comes to is left out
aside : (m : MapSizes) (p : FlatProgram) (u pc : ℕ) (v : flat.State) (xs : List flat.Frame) (q : ℕ) (after : flat.State)
    (w most : ℕ) → Comes m p u pc v xs q (record after { work = w }) most → Comes m p u pc v xs q after most
aside m p u pc v xs q after w most h =
    record { steps = h.steps; work = h.work; few = h.few; comes = h.comes }

runtime_entry : (c : Compiled) (q : Option FlatFunction) → EntersAt c.layout.expansion q → is_runtime_function q ≡ true
runtime_entry c None h = absurd h
runtime_entry c (Some f) h = h.of_runtime

module _ (c : Compiled) (IsGood : Bytes → Type 0) (right : IsCompiled c IsGood)
    (local : IsLocal (map_of c) c.entry IsGood) (covered : CoversMain c) (input : List ℕ) (memory : Bytes)
    (k : CodeFunction)
    (found : code_in c.layout.expansion.code c.layout.expansion.code.main ≡ Some k)
    (plain : IsCoveredCall c IsGood right k) (nothing : length k.parameters ≡ 0)
    (scalar : is_no_aggregate (result_of c.layout.expansion.code k) ≡ true) where
  abbrev m : MapSizes
  m = map_of c

  abbrev p : FlatProgram
  p = c.layout.program

  abbrev t : Tac
  t = c.layout.expansion.code

  abbrev f : ℕ
  f = c.layout.expansion.code.main

  abbrev u : ℕ
  u = c.layout.program.entry

  abbrev body : List FlatInstruction
  body = body_of (function_in c.layout.program c.layout.program.entry)

  entry : EntryIsThere c.layout.expansion (function_in c.layout.program c.layout.program.entry)
  entry = entry_there c.layout.expansion (function_in p p.entry) right.expanded.enters

  abbrev tests : List FlatInstruction
  tests = call_tests (map_of c) k.room k.line 0

  abbrev ending : List FlatInstruction
  ending = flat_code.Call c.layout.expansion.code.main 0 0 ∷ flat_code.Exit 0 ∷ []

  abbrev spaces : List FlatInstruction
  spaces = object_tests (map_of c) (objects_of_body k) k.line 0

  abbrev before_list : List FlatInstruction
  before_list = flat_code.Turn ∷ flat_code.Turn ∷ flat_code.Turn ∷ (start_code (map_of c) ++ (tests ++ spaces))

  -- what stands before the call
  before_is : before_main (map_of c) c.layout.expansion.code ≡ before_list
  before_is = ap (λ o. flat_code.Turn ∷ flat_code.Turn ∷ flat_code.Turn ∷ (start_code m ++ main_tests m o)) found

  has_all : HasAt body 0 (before_list ++ ending)
  has_all = subst (λ z. HasAt body 0 (z ++ ending)) before_is entry.has

  starting : HasAt body 0 before_list
  starting = has_front body 0 before_list ending has_all

  -- where `main` is called
  abbrev at_call : ℕ
  at_call = 13 + length spaces

  runtime : is_runtime_function (function_in c.layout.program c.layout.program.entry) ≡ true
  runtime = runtime_entry c (function_in p p.entry) right.expanded.enters

  abbrev lock : ℕ
  lock = region_start (map_of c) Locks

  abbrev cell : ℕ
  cell = region_start (map_of c) Cells

  abbrev stack : ℕ
  stack = region_start (map_of c) StackRegion

  -- where the two words stand
  pub record AreWordsThere : Type 0 where
    pub lock_first : spaces_begin ≤ lock
    pub lock_last : lock + 8 ≤ region_end (map_of c) Cells
    pub cell_first : spaces_begin ≤ cell
    pub cell_last : cell + 8 ≤ region_end (map_of c) Cells
    pub behind : region_start (map_of c) StructureValues ≤ cell
    pub cells_low : region_end (map_of c) Cells < 2 ^ 63
    pub stack_low : stack < 2 ^ 63

  words_there : AreWordsThere
  unfolding region_start region_size
  words_there =
      let low = ends_low m right.mapped Cells in
      let stack_end = ends_low m right.mapped StackRegion in
      record {
        lock_first = omega arith;
        lock_last = omega arith;
        cell_first = omega arith;
        cell_last = omega arith;
        behind = omega arith;
        cells_low = omega (arith, low);
        stack_low = omega (arith, stack_end);
      }

  -- ---- the words are stored

  abbrev v0 : flat.State
  v0 = record {
    values = λ y. 0;
    memory = memory;
    input = input;
    output = [];
    taken = 0;
    accesses = [];
    turns = 0;
    work = 0;
  }

  abbrev values_one : flat.Values
  values_one = put (put (λ y. 0) 0 (low_bits 64 lock)) 1 1

  abbrev values_two : flat.Values
  values_two = put (put values_one 0 (low_bits 64 cell)) 1 (low_bits 64 stack)

  abbrev locked : Bytes
  locked = store 8 memory lock 1

  abbrev stacked_memory : Bytes
  stacked_memory = store 8 locked cell stack

  allowed : (a : ℕ) → spaces_begin ≤ a → a + 8 ≤ region_end (map_of c) Cells → is_allowed (map_of c) a 8 ≡ true
  allowed a low high = allowed_at m a a 8 refl low high

  stored : Comes (map_of c) c.layout.program c.layout.program.entry 0 v0 [] 9
      (record v0 { turns = 3; values = values_two; memory = stacked_memory }) 18
  stored =
      let there = words_there in
      let lock_last = there.lock_last in
      let cell_last = there.cell_last in
      let low = there.cells_low in
      let stack_low = there.stack_low in
      let h = starting in
      let s1 : flat.State = record v0 { turns = 1 } in
      let s2 : flat.State = record v0 { turns = 2 } in
      let s3 : flat.State = record v0 { turns = 3 } in
      let s4 : flat.State = record s3 { values = put (λ y. 0) 0 (low_bits 64 lock) } in
      let s5 : flat.State = record s3 { values = values_one } in
      let s6 : flat.State = record s5 { memory = store 8 memory lock (values_one 1) } in
      let s7 : flat.State = record s6 { values = put values_one 0 (low_bits 64 cell) } in
      let s8 : flat.State = record s6 { values = values_two } in
      let s9 : flat.State = record s8 { memory = store 8 (store 8 memory lock (values_one 1)) cell (values_two 1) } in
      let one_is : values_one 1 ≡ 1 = put_same (put (λ y. 0) 0 (low_bits 64 lock)) 1 1 in
      let lock_is : wrap (values_one 0 + 0) ≡ lock =
      ap (λ z. wrap (z + 0)) (put_other (put (λ y. 0) 0 (low_bits 64 lock)) 1 1 0 (λ e. omega arith)
      ∙ put_same (λ y. 0) 0 (low_bits 64 lock)) ∙ omega (arith, lock_last, low) in
      let cell_is : wrap (values_two 0 + 0) ≡ cell =
      ap (λ z. wrap (z + 0)) (put_other (put values_one 0 (low_bits 64 cell)) 1 (low_bits 64 stack) 0 (λ e. omega arith)
      ∙ put_same values_one 0 (low_bits 64 cell)) ∙ omega (arith, cell_last, low) in
      let stack_is : values_two 1 ≡ stack =
      put_same (put values_one 0 (low_bits 64 cell)) 1 (low_bits 64 stack) ∙ mod-eq_of_lt (omega (arith, stack_low)) in
      let k1 = turn_comes m p u 0 v0 [] h.0 in
      let k2 = next_comes m p u 0 v0 [] 1 2 s1 s2 2 2 k1 (λ w. aside m p u 1 (record s1 { work = w }) [] 2 s2 w 2
      (turn_comes m p u 1 (record s1 { work = w }) [] h.1.0)) in
      let k3 = next_comes m p u 0 v0 [] 2 3 s2 s3 4 2 k2 (λ w. aside m p u 2 (record s2 { work = w }) [] 3 s3 w 2
      (turn_comes m p u 2 (record s2 { work = w }) [] h.1.1.0)) in
      let k4 = next_comes m p u 0 v0 [] 3 4 s3 s4 6 2 k3 (λ w. aside m p u 3 (record s3 { work = w }) [] 4 s4 w 2
      (constant_comes m p u 3 (record s3 { work = w }) [] 0 lock h.1.1.1.0)) in
      let k5 = next_comes m p u 0 v0 [] 4 5 s4 s5 8 2 k4 (λ w. aside m p u 4 (record s4 { work = w }) [] 5 s5 w 2
      (constant_comes m p u 4 (record s4 { work = w }) [] 1 1 h.1.1.1.1.0)) in
      let k6 = next_comes m p u 0 v0 [] 5 6 s5 s6 10 2 k5 (λ w. aside m p u 5 (record s5 { work = w }) [] 6 s6 w 2
      (store_comes m p u 5 (record s5 { work = w }) [] 0 1 lock h.1.1.1.1.1.0 runtime lock_is
      (allowed lock there.lock_first there.lock_last))) in
      let k7 = next_comes m p u 0 v0 [] 6 7 s6 s7 12 2 k6 (λ w. aside m p u 6 (record s6 { work = w }) [] 7 s7 w 2
      (constant_comes m p u 6 (record s6 { work = w }) [] 0 cell h.1.1.1.1.1.1.0)) in
      let k8 = next_comes m p u 0 v0 [] 7 8 s7 s8 14 2 k7 (λ w. aside m p u 7 (record s7 { work = w }) [] 8 s8 w 2
      (constant_comes m p u 7 (record s7 { work = w }) [] 1 stack h.1.1.1.1.1.1.1.0)) in
      let k9 = next_comes m p u 0 v0 [] 8 9 s8 s9 16 2 k8 (λ w. aside m p u 8 (record s8 { work = w }) [] 9 s9 w 2
      (store_comes m p u 8 (record s8 { work = w }) [] 0 1 cell h.1.1.1.1.1.1.1.1.0 runtime cell_is
      (allowed cell there.cell_first there.cell_last))) in
      subst (λ z. Comes m p u 0 v0 [] 9 (record v0 { turns = 3; values = values_two; memory = store 8 locked cell z }) 18)
      stack_is
      (subst (λ z. Comes m p u 0 v0 [] 9
      (record v0 { turns = 3; values = values_two; memory = store 8 (store 8 memory lock z) cell (values_two 1) }) 18)
      one_is k9)

  has_both : HasAt body 9 (tests ++ spaces)
  has_both = has_back body 3 (start_code m) (tests ++ spaces) starting.1.1.1

  has_tests : HasAt body 9 tests
  has_tests = has_front body 9 tests spaces has_both

  has_spaces : HasAt body 13 spaces
  has_spaces = has_back body 9 tests spaces has_both

  calls : slice_get body at_call ≡ Some (flat_code.Call c.layout.expansion.code.main 0 0)
  calls = (let place : 0 + length before_list ≡ at_call = omega arith in
      subst (λ z. slice_get body z ≡ Some (flat_code.Call c.layout.expansion.code.main 0 0)) place
      (has_back body 0 before_list ending has_all).0)

  -- ---- `main` is called

  abbrev old : Objects
  old = objects_before c.layout.expansion.code c.setting

  abbrev s0 : State
  s0 = spent 4 (fresh c.setting (objects_before c.layout.expansion.code c.setting) input)

  module _ (stands : StandsFor (views c) (start_keys (views c)) (objects_before c.layout.expansion.code c.setting)
      (store 8 memory (global_lock (map_of c)) 1))
      (spaces_good : AreSpacesGood (map_of c) IsGood (store 8 memory (global_lock (map_of c)) 1)) where
    abbrev v9 : flat.State
    v9 = record v0 { turns = 3; values = values_two; memory = stacked_memory; work = 0 + stored.work }

    low_calls : (map_of c).budgets.calls < 2 ^ 63
    low_calls = let z = right.mapped.budgets.calls.greatest in omega (arith, z)

    budgets_same : c.setting.sizes.budgets.calls ≡ (map_of c).budgets.calls
    budgets_same = ap (λ (z : MapSizes). z.budgets.calls) right.sizes

    charge : 0 ≡ charged c.layout.program c.layout.program.entry []
    charge = let none = entry.no_room in omega (arith, none, no_rooms false p)

    abbrev Gives : Stage → Type 0
    Gives a = Result c IsGood a (flat.Stands c.layout.program.entry 9 v9 [])

    abbrev stage : Stage
    stage = call_stage c IsGood right c.layout.program.entry 9 at_call v9 [] c.layout.expansion.code.main k found plain k.line
        0 0 [] [] s0

    exhausts : (map_of c).budgets.calls < 0 + k.room → Gives stage
    exhausts more =
        let budget = budgets_same in
        let start_few = stored.few in
        let none = exhausted c.setting (header_of_code k) [] k.line (begun s0)
        (lt-leb (0 + k.room) c.setting.sizes.budgets.calls (omega (arith, more, budget))) in
        let free = charge in
        let r = tests_end m p u 9 v9 [] k.room k.line 0 has_tests low_calls (omega (arith, more, free))
        (omega (arith, free)) in
        let stopped : State = (let z : State = record (begun s0) { work = 0 + 4 + 1 } in spent (3 * (z.work - (0 + 4))) z)
        in
        let few = r.few in
        let result : Gives (Over (Stack k.line) stopped) =
        ends c IsGood (flat.Stands u 9 v9 []) (Stack k.line) stopped
        (record (tested m p u 9 v9 [] k.room k.line 0 has_tests low_calls) { work = v9.work + r.work })
        r.steps (code_of (Stack k.line)) (report_of (Stack k.line)) r.comes refl refl
        (record { input = refl; output = refl; taken = refl; accesses = refl }) (omega arith)
        (omega (arith, few, start_few)) in
        subst (λ z. Gives (came (fourfold (0 + 4) z) (λ _ y. Stands f k.entry no_temps [] y))) (sym none) result

    module _ (fits : 0 + k.room ≤ (map_of c).budgets.calls) (words : HasWords (started c.layout.program memory input))
      where
        inside : charged c.layout.program c.layout.program.entry [] + k.room ≤ (map_of c).budgets.calls
        inside = let free = charge in omega (arith, fits, free)

        abbrev values : flat.Values
        values = (tested (map_of c) c.layout.program c.layout.program.entry 9 v9 [] k.room k.line 0 has_tests
            low_calls).values

        first_part : Comes (map_of c) c.layout.program c.layout.program.entry 9 v9 [] 13
            (record v9 { turns = v9.turns + 1; values = values }) 6
        first_part = tests_pass m p u 9 v9 [] k.room k.line 0 has_tests low_calls inside

        fits_budget : nat_le (0 + k.room) c.setting.sizes.budgets.calls ≡ true
        fits_budget = (let budget = budgets_same in
            le-leb (0 + k.room) c.setting.sizes.budgets.calls (omega (arith, fits, budget)))

        -- ---- the state of the source

        good_begun : IsGoodState (program_context c.typed (setting_of c.typed (map_of c).budgets).sizes
            (file_scope c.typed)) (begun s0)
        good_begun = (let g = fresh_good c IsGood right input in record {
          kept = g.kept;
          low = g.low;
          statics = g.statics;
          homes = g.homes;
          plain = g.plain;
          typed = g.typed;
          separate = g.separate;
        })

        separate : AreSeparate (map_of c) (stack_first c.setting) old
        separate = subst (λ z. AreSeparate z (stack_first c.setting) old)
            (ap (λ (g : Setting). g.sizes) (sym right.setting_is) ∙ right.sizes) good_begun.separate

        no_arguments : (ps : List Variable) → length ps ≡ 0
            → ArgumentsAre (length (file_scope c.typed).functions) (map (λ v. v.kind) ps) [] old
        no_arguments [] e = tt
        no_arguments (q ∷ ps) e = absurd (omega arith)

        set_good : (z : State) → set_up c.setting (header_of_code k) [] k.line (begun s0) ≡ GivesRun tt z
            → IsSetUp (context_at (names c) c.layout.expansion.code.main []) old z
        set_good z e =
            entered_from c IsGood right f k found (file_scope c.typed) [] k.line (begun s0) z good_begun
            (no_arguments k.parameters nothing) e

        good : (z : State) → IsSetUp (context_at (names c) c.layout.expansion.code.main []) old z
            → AreGood (names c) c.layout.expansion.code.main [] z
        good z up = record {
          by = record { behind = z; since = leaves_same (context_at (names c) f []) z up.good };
        }

        -- ---- memory

        same_below : (a : ℕ) → a < region_start (map_of c) StructureValues → stacked_memory a ≡ locked a
        same_below a lt = (let there = words_there in let behind = there.behind in
            store_beside 8 locked cell stack a (inl (omega (arith, lt, behind))))

        in_stands : StandsIn c IsGood (start_keys (views c)) s0 v9
        in_stands =
            let there = words_there in
            let stack_low = there.stack_low in
            record {
              for = record {
                objects = stands_kept m right.mapped (length c.setting.functions) c.layout.expansion.types c.entry IsGood
                    local (start_keys (views c)) locked stacked_memory same_below spaces_good old stands;
                spaces = spaces_kept m right.mapped (length c.setting.functions) c.layout.expansion.types c.entry IsGood
                    local (start_keys (views c)) locked stacked_memory same_below spaces_good;
                keys = refl;
                shown = record { input = refl; output = refl; taken = refl; accesses = refl };
              };
              top = load_stored 8 locked cell stack (omega (arith, stack_low))
                  ∙ ap (λ z. region_start z StackRegion) (sym right.sizes);
              turns = omega arith;
            }

        words_at : HasWords (flat.Stands c.layout.program.entry 9 v9 [])
        words_at = subst HasWords stored.comes (words_kept m p stored.steps (started p memory input) words)

        -- ---- the tests of its objects

        abbrev has_room : Bool
        has_room = nat_le (objects_end (objects_of_body k) (stack_first c.setting)) (stack_end c.setting)

        abbrev has_key : Bool
        has_key = nat_lt 0 c.setting.sizes.budgets.keys

        abbrev v13 : flat.State
        v13 = record v9 { turns = v9.turns + 1; values = values; work = v9.work + first_part.work }

        tested_objects : IsObjectTested (map_of c) right.mapped c.layout.program c.layout.program.entry 13 v13 [] k.line 0
            (13 + length spaces) 34 has_room (not (has_objects (objects_of_body k)) || has_key)
        tested_objects = objects_tested c IsGood right u [] (start_keys (views c)) s0 v9 in_stands separate.top 13 v13 refl
            k.line 0 (objects_of_body k) has_spaces

        to_tested : Comes (map_of c) c.layout.program c.layout.program.entry 9 v9 [] tested_objects.place
            (record v9 { turns = v9.turns + 1; values = tested_objects.values }) 40
        to_tested = (let j = tested_objects.comes in
            then_comes m p u 9 v9 [] 13 tested_objects.place (record v9 { turns = v9.turns + 1; values = values })
            (record v9 { turns = v9.turns + 1; values = tested_objects.values }) 6 34 first_part
            (record { steps = j.steps; work = j.work; few = j.few; comes = j.comes }))

        -- one of them has failed
        stops : (e : Ending) → set_up c.setting (header_of_code k) [] k.line (begun s0)
            ≡ Ended e (record (begun s0) { work = 0 + 4 + 1 })
            → slice_get body tested_objects.place ≡ Some (flat_code.End e) → Gives stage
        stops e is at =
            let z : State = record (begun s0) { work = 0 + 4 + 1 } in
            let few = stored.few in
            subst (λ o. Gives (came (fourfold (0 + 4) o) (λ _ y. Stands f k.entry no_temps [] y))) (sym is)
            (ends_where c IsGood u 9 s0 v9 [] in_stands.for.shown (omega (arith, few)) e
            (spent (3 * (z.work - (0 + 4))) z) tested_objects.place 40 (v9.turns + 1) tested_objects.values to_tested at
            (refl, refl, refl, refl) (omega arith) (omega arith))

        -- ---- it is entered

        enters_it : has_room ≡ true → (has_objects (objects_of_body k) ≡ true → has_key ≡ true) → Gives stage
        enters_it space spare =
            let start_few = stored.few in
            let none = nothing in
            let few = few_parameters c IsGood right k.parameters in
            let t = tested_objects in
            enters c IsGood right u 9 at_call v9 [] f k found plain k.line 0 0 [] [] s0 t.values 40 (start_keys (views c))
            (record {
              words = words_at;
              comes = at_place m p u 9 v9 [] t.place at_call (record v9 { turns = v9.turns + 1; values = t.values }) 40 to_tested
                  (t.behind space (spare_or (has_objects (objects_of_body k)) has_key spare));
              at = λ w. one m p u at_call (record v9 { turns = v9.turns + 1; values = t.values; work = w }) []
                  (flat_code.Call f 0 0) calls;
              arguments_are = λ x low. absurd (omega (arith, low, none));
              charge = charge;
              fits = fits;
              space = space;
              spare = spare;
              work = omega (arith, start_few, few, none);
              stands = in_stands;
              separate = separate;
              bytes = record { some = λ x live automatic. absurd (not_automatic x (live_made old x live) automatic) };
              few_keys = omega arith;
              statics = continues_same old;
              statics_live = λ x low. (placed_static _ c.layout.expansion.code.statics 0 x low).live;
              set_up_good = set_good;
              good = good;
              wait = (refl, (refl, (let long = ap length before_is in omega (arith, long)), refl, scalar));
            })
          where
            not_automatic : (x : ℕ) → x < length old → (object_at old x).storage ≡ Automatic → ⊥
            not_automatic x low e = (let first = region_start c.setting.sizes Globals in
                let count = placed_count first c.layout.expansion.code.statics 0 in
                let static = (placed_static first c.layout.expansion.code.statics 0 x (omega arith)).static in
                apart (sym static ∙ e))
              where
                apart : Static ≡ Automatic → ⊥
                apart e = cc

        by_keys : has_room ≡ true → (a b : Bool) → has_objects (objects_of_body k) ≡ a → has_key ≡ b → Gives stage
        by_keys space true true some spare = enters_it space (λ e. spare)
        by_keys space true false some none =
            stops (Keys k.line) (keys_spent c.setting (header_of_code k) [] k.line (begun s0) fits_budget space some none)
            (tested_objects.no_key space (ap (λ b. not b || has_key) some ∙ none))
        by_keys space false b none e = enters_it space (λ some. (let both : true ≡ false = sym some ∙ none in cc))

        by_space : (a : Bool) → has_room ≡ a → Gives stage
        by_space true e = by_keys e (has_objects (objects_of_body k)) has_key refl refl
        by_space false e =
            stops (Stack k.line) (space_spent c.setting (header_of_code k) [] k.line (begun s0) fits_budget e)
            (tested_objects.no_room e)

        called_so : Gives stage
        called_so = by_space has_room refl

    main_called : HasWords (started c.layout.program memory input)
        → Result c IsGood stage (started c.layout.program memory input)
    main_called words =
        earlier c IsGood right stage stored.steps (flat.Stands u 0 v0 []) (flat.Stands u 9 v9 []) stored.comes
        (⊎_elim (λ more. exhausts more) (λ fits. called_so fits words) (cases_lt (map_of c).budgets.calls (0 + k.room)))

pub begins : (c : Compiled) (IsGood : Bytes → Type 0) (right : IsCompiled c IsGood)
    → IsLocal (map_of c) c.entry IsGood → CoversMain c → (s : State) (x : flat.Stage) → IsFirst c IsGood s x → HasWords x
    → Result c IsGood (tac_step c.setting (expansion_of c).code (Begins s)) x
begins c IsGood right local covered s x h words =
    subst (λ z. Result c IsGood (tac_step c.setting (expansion_of c).code (Begins z)) x) (sym h.fresh_is)
    (subst (λ z. Result c IsGood (tac_step c.setting (expansion_of c).code
    (Begins (fresh c.setting (objects_before (expansion_of c).code c.setting) h.input))) z) (sym h.started_is)
    (by (code_in c.layout.expansion.code c.layout.expansion.code.main) refl covered.main))
  where
    by : (o : Option CodeFunction) → code_in c.layout.expansion.code c.layout.expansion.code.main ≡ o
        → is_covered_main c.layout.expansion.code o ≡ true
        → Result c IsGood (tac_step c.setting (expansion_of c).code
        (Begins (fresh c.setting (objects_before (expansion_of c).code c.setting) h.input)))
        (started c.layout.program h.memory h.input)
    by None found e = cc
    by (Some k) found e =
        let parts = and_parts (is_covered_call c.layout.expansion.code (Some k)
        && is_no_aggregate (result_of c.layout.expansion.code k)) (length k.parameters == 0) e in
        let first = and_parts (is_covered_call c.layout.expansion.code (Some k))
        (is_no_aggregate (result_of c.layout.expansion.code k)) parts.0 in
        subst (λ z. Result c IsGood (called_at c.setting z c.layout.expansion.code.main [] (line_in z) []
        (spent 4 (fresh c.setting (objects_before (expansion_of c).code c.setting) h.input)))
        (started c.layout.program h.memory h.input)) (sym found)
        (main_called c IsGood right local covered h.input h.memory k found
        (covered_call c IsGood right k first.0) (eqb-true (length k.parameters) 0 parts.1) first.1 h.stands h.spaces
        (subst HasWords h.started_is words))
