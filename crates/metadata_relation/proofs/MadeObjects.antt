-- The objects of a block, or of the body of a function, are made: a function of the runtime places them, registers get
-- their homes, and the object stack ends behind them.
use Rattle.std.proofs.Common.{◌≡◌, ◌≢◌, ◌⊎◌, inl, inr, ℕ, ◌+◌, ◌-◌, ◌*◌, ◌%◌, ◌^◌, ◌<◌, ◌≤◌, true}
use Rattle.std.proofs.Common.{List, ◌∷◌, ◌++◌, length, length-append, get_or, Some, refl, sym, ap, ◌∙◌}
use Rattle.std.proofs.Common.{subst, arith}
use Rattle.std.specs.Prelude.{slice_get, nat_le, nat_lt}
use Rattle.std.proofs.lemmas.Bool.{cases_lt, leb-true}
use Rattle.addr_map.specs.declared.region.Region.TheVariants.{RuntimeCalls}
use Rattle.addr_map.specs.Places.{region_size}
use Rattle.obj_memory.specs.Heap.{is_allocated, rounded_up}
use Rattle.obj_memory.specs.declared.object.Storage.TheVariants.{Automatic}
use Rattle.obj_memory.specs.Objects.{object_at, Objects, ObjectState}
use Rattle.c_tree.specs.declared.program.Variable.{Variable}
use Rattle.c_tree.specs.Kinds.{size_of_kind}
use Rattle.c_tree.specs.Valid.{at_number}
use Rattle.source_meaning.specs.State.{State, Outcome as Completed, Gives, Home, InObject, NoObject}
use Rattle.source_meaning.specs.Acting.{state_of}
use Rattle.source_meaning.specs.Blocks.{Block, enter_block, has_objects, objects_end}
use Rattle.source_meaning.specs.Keeping.{AreSeparate, LivesOn}
use Rattle.source_meaning.specs.Places.{stack_end}
use Rattle.source_meaning.proofs.Holding.{live_made}
use Rattle.source_meaning.proofs.Laying.{within_stack}
use Rattle.source_meaning.proofs.Lines.{lines_enter_block}
use Rattle.tac_ir.specs.declared.function.CodeFunction.{CodeFunction}
use Rattle.flat_code.specs.declared.instruction.FlatInstruction.{FlatInstruction}
use Rattle.flat_code.specs.declared.instruction.FlatInstruction.TheVariants.{Call, Move}
use Rattle.flat_code.specs.Calls.{charged, function_in, rooms}
use Rattle.flat_code.specs.Meaning.{body_of}
use Rattle.flat_code.specs.Memory.{Bytes, load, put, store}
use Rattle.flat_code.specs.State as flat
use Rattle.flat_code.specs.Words.{HasWords, IsOfWords}
use Rattle.flat_code.proofs.Stored.{load_stored, put_other, put_same, store_beside}
use Rattle.flat_code.specs.Routines.Objects.StandsFor.{Holding, Keys}
use Rattle.flat_code.specs.Routines.Routine.{HasAt}
use Rattle.flat_code.proofs.Routines.Steps.{has_back, has_front}
use Rattle.flat_actions.specs.Actions.{IsFor}
use Rattle.lib_wrappers.specs.AllocatingRoutines.Entering.{AreOfLock, AreSized, block_bytes}
use Rattle.lib_wrappers.specs.AllocatingRoutines.Premises.{HaveBytes}
use Rattle.lib_wrappers.proofs.AllocatingRoutines.SourceEntries.{block_of, end_by_bytes, entered_in, enters_block}
use Rattle.lib_wrappers.proofs.AllocatingRoutines.SourceEntries.{homes_from, object_count, placed_from, placed_objects}
use Rattle.lib_wrappers.proofs.AllocatingRoutines.SourceEntries.{placing_work}
use Rattle.lib_wrappers.proofs.AllocatingRoutines.OuterBlocks.{still_of_lock}
use Rattle.runtime_functions.specs.declared.runtime.RuntimeFunction.TheVariants.{Enter}
use Rattle.runtime_functions.specs.Actions.{ComesBehind, work_of_call}
use Rattle.runtime_functions.specs.Calls.{CallSite, calling_steps}
use Rattle.runtime_functions.specs.Entering.{HasEnteredBlock, IsBlockServed}
use Rattle.runtime_functions.proofs.Entering.{entered_at_line}
use Rattle.metadata_plan.specs.Registers.{all_variables}
use Rattle.metadata_plan.proofs.Flat.{at_place, Comes, move_comes}
use Rattle.metadata_relation.specs.Blocks.{enter_code, enter_place, enter_statuses, place_homes, read_top}
use Rattle.metadata_relation.specs.Blocks.{runtime_number}
use Rattle.metadata_relation.specs.Blocks.{status_code, top_cell, write_top}
use Rattle.metadata_relation.specs.Holding.{GoesOn, HasHomes, IsHome, is_object_in}
use Rattle.metadata_relation.specs.Registers.{first_free, first_object, home_register, homes_end, lock_register}
use Rattle.metadata_relation.specs.Registers.{top_register, variables_end}
use Rattle.metadata_relation.specs.Stages.{Compiled, map_of, StandsIn, views, world}
use Rattle.metadata_relation.specs.Steps.{IsCompiled}
use Rattle.metadata_relation.proofs.Acting.{Reached, reached_by, reached_computed, reached_next, reached_then}
use Rattle.metadata_relation.proofs.Acting.{reached_words, stands_as}
use Rattle.metadata_relation.proofs.Behind.{for_behind}
use Rattle.metadata_relation.proofs.BlockHomes.{has_home_in, home_at_least, homed, IsHomed}
use Rattle.metadata_relation.proofs.BlockHomes.{home_spelled, new_storage, not_static, object_by_home}
use Rattle.metadata_relation.proofs.BlockHomes.{outside_high, outside_home, outside_low, outside_top}
use Rattle.metadata_relation.proofs.BlockVariables.{first_is_object}
use Rattle.metadata_relation.proofs.RuntimeCalls.{runtime_call_in, site_in}
use Rattle.metadata_relation.proofs.PlacedHomes.{are_apart, before_grows, IsOutside, Places, places}
use Rattle.metadata_relation.proofs.Registers.{home_low}
use Rattle.metadata_relation.proofs.Statuses.{status_passed}
use Rattle.metadata_relation.proofs.TopCell.{cell_place, stack_low, top_read, top_written}

-- placing objects changes none of those before
pub placed_lives : (vs : List Variable) (stacked : ℕ) (objects : Objects)
    → LivesOn objects (placed_objects vs stacked objects)
placed_lives vs stacked objects =
    let p = placed_from vs stacked objects in
    record {
      continues = record {
        longer = p.longer;
        storage = λ n lt. ap (λ (o : ObjectState). o.storage) (p.same n lt);
        address = λ n lt. ap (λ (o : ObjectState). o.address) (p.same n lt);
        size = λ n lt. ap (λ (o : ObjectState). o.size) (p.same n lt);
        dead = λ n lt dead. ap (λ (o : ObjectState). o.is_live) (p.same n lt) ∙ dead;
      };
      live = λ n lt held live. ap (λ (o : ObjectState). o.is_live) (p.same n lt) ∙ live;
    }

-- What is known where the code of making them stands: the run is in a function of the program, whose variables they are,
-- and there is room for the record of one more function of the runtime.
pub record IsToMake (c : Compiled) (IsGood : Bytes → Type 0) (u : ℕ) (code : CodeFunction) (pc : ℕ) (v : flat.State)
    (xs : List flat.Frame) (keys : Keys) (s : State) (vs : List Variable) (line : ℕ) : Type 0 where
  pub there : slice_get c.layout.expansion.code.functions u ≡ Some code
  pub words : HasWords (flat.Stands u pc v xs)
  pub stands : StandsIn c IsGood keys s v
  pub separate : AreSeparate (map_of c) s.stacked s.objects
  pub bytes : HaveBytes s.objects
  pub fits : charged c.layout.program u xs ≤ (map_of c).budgets.calls
  pub room : rooms true c.layout.program xs + 2 ^ 11 ≤ region_size (map_of c) RuntimeCalls
  pub some : has_objects vs ≡ true
  pub sized : AreSized vs
  pub word : block_bytes vs < 2 ^ 64
  pub has : HasAt (body_of (function_in c.layout.program u)) pc
      (enter_code c.layout.expansion.inline.operators (map_of c) c.layout.expansion.code code vs line)
  pub declared : (q : ℕ) → is_object_in vs q ≡ true → is_object_in (all_variables code) q ≡ true
  pub kinds : (q : ℕ) → is_object_in vs q ≡ true → at_number vs q ≡ at_number (all_variables code) q

-- They are made: each has its home, and registers that are none of these homes are as they were, but for what a block has
-- for itself and the one with the end of the object stack from before.
pub record HaveMade (c : Compiled) (IsGood : Bytes → Type 0) (u : ℕ) (code : CodeFunction) (pc : ℕ) (v : flat.State)
    (xs : List flat.Frame) (keys : Keys) (s : State) (vs : List Variable) (place : ℕ) (after : flat.State) : Type 0
  where
    pub keys_after : Keys
    pub reached : Reached (map_of c) c.layout.program u pc v xs place after
        (22 + work_of_call 2 4 1 (100 + 40 * placing_work vs) + 8 * object_count vs)
    pub stands : StandsIn c IsGood keys_after (entered_in vs s) after
    pub goes : GoesOn (views c) keys keys_after s.objects (entered_in vs s).objects v.memory after.memory
    pub low : (r : ℕ) → r < variables_end code → after.values r ≡ v.values r
    pub high : (r : ℕ) → homes_end code ≤ r → r < first_free code → after.values r ≡ v.values r
    pub outer : (x j : ℕ) → is_object_in (all_variables code) x ≡ true
        → ((q : ℕ) → is_object_in vs q ≡ true → x ≢ q) → j < 5
        → after.values (home_register code x + j) ≡ v.values (home_register code x + j)
    pub top_is : after.values (top_register code vs) ≡ s.stacked
    pub homes : HasHomes (world c keys_after (entered_in vs s) after) code (homes_from vs (length s.objects)) after.values
    pub locks : (homes : List Home) (lock : ℕ) → AreOfLock keys s homes lock
        → AreOfLock keys_after (entered_in vs s) homes lock
    pub of_lock : AreOfLock keys_after (entered_in vs s) (homes_from vs (length s.objects))
        (after.values (lock_register code vs))

module _ (c : Compiled) (IsGood : Bytes → Type 0) (right : IsCompiled c IsGood) (u : ℕ) (code : CodeFunction) (pc : ℕ)
    (v : flat.State) (xs : List flat.Frame) (keys : Keys) (s : State) (vs : List Variable) (line : ℕ)
    (t : IsToMake c IsGood u code pc v xs keys s vs line) where
  abbrev free : ℕ
  free = first_free code

  abbrev top : ℕ
  top = top_register code vs

  -- the register with the end of the object stack is in the home of an object
  first_declared : is_object_in (all_variables code) (first_object vs) ≡ true
  first_declared = t.declared (first_object vs) (first_is_object vs t.some)

  top_low : top_register code vs < homes_end code
  top_low = (let low = home_low code (first_object vs) first_declared in omega arith)

  abbrev body : List FlatInstruction
  body = body_of (function_in c.layout.program u)

  -- ---- the parts of the list

  abbrev constants : List FlatInstruction
  constants = c.layout.expansion.inline.operators.constant (first_free code + 1) (block_bytes vs) (first_free code + 2)

  abbrev pub statuses : List FlatInstruction
  statuses = status_code (first_free code + 2) line enter_statuses

  abbrev pub home_list : List FlatInstruction
  home_list = place_homes c.layout.expansion.inline.operators code 0 vs 0 (first_free code + 3) (first_free code + 5)
      (first_free code + 6) (first_free code + 7)

  abbrev pub writes : List FlatInstruction
  writes = write_top (map_of c) (first_free code + 4) (first_free code + 7)

  abbrev calls : List FlatInstruction
  calls = Call (runtime_number c.layout.expansion.code enter_place) (first_free code) (first_free code + 2)
      ∷ (statuses ++ (home_list ++ writes))

  abbrev pub at_call : ℕ
  at_call = pc + 1 + 1 + 1 + length constants

  abbrev pub behind_list : ℕ
  behind_list = pc + length (enter_code c.layout.expansion.inline.operators (map_of c) c.layout.expansion.code code vs line)

  -- ---- to the call

  -- the call gets the end of the object stack, which a register keeps too, and the bytes of the block
  pub record IsAtEnter (y : flat.State) : Type 0 where
    pub reached : Reached (map_of c) c.layout.program u pc v xs at_call y 16
    pub as_words : IsOfWords y
    pub stands : IsFor (views c) keys IsGood s y
    pub top_is : y.values (first_free code) ≡ s.stacked
    pub bytes : y.values (first_free code + 1) ≡ block_bytes vs
    pub kept : y.values (top_register code vs) ≡ s.stacked
    pub others : (r : ℕ) → r < first_free code → r ≢ top_register code vs → y.values r ≡ v.values r
    pub memory : y.memory ≡ v.memory
    pub turns : y.turns ≡ v.turns

  pub to_call : (y : flat.State) × IsAtEnter y
  to_call =
      let m = map_of c in
      let p = c.layout.program in
      let has = t.has in
      let low = top_low in
      let cell = top_cell m in
      let one = at_place m p u pc v xs (pc + 2) (pc + 1 + 1)
      (record v { values = put (put v.values top cell) top (load 8 v.memory cell) }) 4
      (top_read m right.mapped p u xs pc top v
      (has_front body pc (read_top m top) (Move free top ∷ (constants ++ calls)) has)) (omega arith) in
      let v1 : flat.State = record v {
        values = put (put v.values top (top_cell m)) top (load 8 v.memory (top_cell m));
        work = v.work + one.work;
      } in
      let r1 = reached_by m p u xs pc (pc + 1 + 1) v
      (record v { values = put (put v.values top cell) top (load 8 v.memory cell) }) 4 one in
      let two = move_comes m p u (pc + 1 + 1) v1 xs free top has.1.1.0 in
      let v2 : flat.State = record v1 {
        values = put v1.values free (v1.values top);
        work = v1.work + two.work;
      } in
      let r2 = reached_next m p u xs pc (pc + 1 + 1) (pc + 1 + 1 + 1) v v1
      (record v1 { values = put v1.values free (v1.values top) }) 4 2 r1 two in
      let made = right.inline.operators.constant m p
      (record { function = u; place = pc + 1 + 1 + 1; state = v2; frames = xs })
      (free + 1) (block_bytes vs) (free + 2) (omega arith) t.word
      (record {
        has = has_front body (pc + 1 + 1 + 1) constants calls has.1.1.1;
        words = reached_words m p u xs pc (pc + 1 + 1 + 1) v v2 6 t.words r2;
      }) in
      let v3 : flat.State = record v2 { values = made.after; work = v2.work + made.work } in
      let r3 = reached_computed m p u xs pc (pc + 1 + 1 + 1) at_call (free + 1) (block_bytes vs) (free + 2) v v2 6 5 r2 made in
      let loaded : v1.values top ≡ s.stacked =
      put_same (put v.values top cell) top (load 8 v.memory cell) ∙ t.stands.top in (
        record v2 { values = made.after; work = v2.work + made.work },
        record {
          reached = r3;
          as_words = reached_words m p u xs pc at_call v v3 16 t.words r3;
          stands = (stands_as c IsGood keys s v made.after (v2.work + made.work) t.stands).for;
          top_is = made.others free (omega arith) (λ e. omega arith) ∙ put_same v1.values free (v1.values top) ∙ loaded;
          bytes = made.gives;
          kept = made.others top (omega arith) (λ e. omega arith)
              ∙ put_other v1.values free (v1.values top) top (λ e. omega arith) ∙ loaded;
          others = λ r lt ne. made.others r (omega arith) (λ e. omega arith)
              ∙ put_other v1.values free (v1.values top) r (λ e. omega arith)
              ∙ put_other (put v.values top cell) top (load 8 v.memory cell) r ne ∙ put_other v.values top cell r ne;
          memory = refl;
          turns = refl;
        },
      )

  -- ---- the call

  abbrev pub call_site : flat.State → CallSite
  call_site y = site_in c IsGood u xs (runtime_number c.layout.expansion.code enter_place) at_call (first_free code)
      (first_free code + 2) y

  -- the work of the call, by what comes of entering the block
  abbrev pub bound_of : Completed Block → ℕ
  bound_of o = work_of_call 2 4 1 (100 + 40 * ((state_of o).work - s.work))

  abbrev pub Serves : flat.State → Completed Block → Type 0
  Serves y o =
      ComesBehind (map_of c) c.layout.program (call_site y) (100 + 40 * ((state_of o).work - s.work) + calling_steps)
      (IsBlockServed (views c) keys IsGood (call_site y) (bound_of o) line s o)

  pub calls_has : HasAt body at_call calls
  calls_has = has_back body (pc + 1 + 1 + 1) constants calls t.has.1.1.1

  pub served : (y : flat.State) → IsAtEnter y → Serves y (enter_block c.setting vs line s)
  served y ready =
      let called = runtime_call_in c IsGood u xs right code t.there t.fits t.room enter_place Enter refl at_call free
      (free + 2) y calls_has.0 in
      entered_at_line (map_of c) c.entry IsGood c.layout.program (call_site y) called.function called.of.routine
      (record { calls = called.calls; is = called.of.is }) called.of.code.0 called.of.code.1 c.setting right.sizes
      (length c.setting.functions) c.layout.expansion.types keys s vs line (lines_enter_block 1 line c.setting vs)
      (record {
        words = ready.as_words;
        stands = ready.stands;
        top = ready.top_is;
        bytes = ready.bytes;
        can = record { some = t.some; sized = t.sized; separate = t.separate; bytes = t.bytes };
      })

  -- ---- they are made

  module _ (space : nat_le (objects_end vs s.stacked) (stack_end c.setting) ≡ true)
      (spare : nat_lt s.keys c.setting.sizes.budgets.keys ≡ true) where
    abbrev entry : Block
    entry = block_of vs s

    abbrev made : State
    made = entered_in vs s

    lives : LivesOn s.objects made.objects
    lives = placed_lives vs s.stacked s.objects

    within : objects_end vs s.stacked ≤ 1610612736
    within =
        let low = stack_low (map_of c) right.mapped in
        let fits = within_stack c.setting (map_of c) right.sizes (objects_end vs s.stacked)
        (leb-true (objects_end vs s.stacked) (stack_end c.setting) space) in
        omega arith

    end_is : objects_end vs s.stacked ≡ rounded_up 16 s.stacked + block_bytes vs
    end_is = end_by_bytes vs s.stacked t.some

    module _ (before : flat.State) (ready : IsAtEnter before) (d : Serves before (Gives entry made)) where
      abbrev e : HasEnteredBlock (views c) keys IsGood (call_site before) (bound_of (Gives entry made)) s entry.homes
          made d.stage
      e = d.holds

      abbrev y : flat.State
      y = d.holds.behind.state

      abbrev at_homes : ℕ
      at_homes = at_call + 1 + length statuses

      abbrev at_writes : ℕ
      at_writes = at_homes + length home_list

      first_is : y.values (free + 3) ≡ rounded_up 16 s.stacked
      first_is = (let place : free + 3 ≡ free + 2 + 1 = omega arith in ap y.values place ∙ e.first_is)

      last_is : y.values (free + 4) ≡ objects_end vs s.stacked
      last_is = (let place : free + 4 ≡ free + 2 + 2 = omega arith in ap y.values place ∙ e.end_is)

      key_is : y.values (free + 5) ≡ y.values (free + 2 + 3)
      key_is = (let place : free + 5 ≡ free + 2 + 3 = omega arith in ap y.values place)

      lock_is : y.values (free + 6) ≡ y.values (free + 2 + 4)
      lock_is = (let place : free + 6 ≡ free + 2 + 4 = omega arith in ap y.values place)

      passed : Comes (map_of c) c.layout.program u (at_call + 1) y xs at_homes y 2
      passed =
          status_passed (map_of c) c.layout.program u xs (free + 2) line (at_call + 1) enter_statuses y
          (has_front body (at_call + 1) statuses (home_list ++ writes) calls_has.1) e.status

      abbrev known : flat.State
      known = record y { work = y.work + passed.work }

      -- the homes of the block's objects

      abbrev IsOutsideHomes : ℕ → Type 0
      IsOutsideHomes r =
          IsOutside (map_of c) c.layout.program u xs c.layout.expansion.inline.operators code (first_free code + 3)
          (first_free code + 5) (first_free code + 6) (first_free code + 7) r 0 vs

      object_here : (q : ℕ) → is_object_in vs q ≡ true → is_object_in (all_variables code) (0 + q) ≡ true
      object_here q is =
          let place : q ≡ 0 + q = omega arith in
          subst (λ i. is_object_in (all_variables code) i ≡ true) place (t.declared q is)

      homes_has : HasAt body at_homes (home_list ++ writes)
      homes_has = has_back body (at_call + 1) statuses (home_list ++ writes) calls_has.1

      placed : Places (map_of c) c.layout.program u xs c.layout.expansion.inline.operators code (first_free code + 3)
          (first_free code + 5) (first_free code + 6) (first_free code + 7) 0 vs 0 at_homes known
      placed =
          let fits = within in
          let sum = end_is in
          let first = first_is in
          places (map_of c) c.layout.program u xs c.layout.expansion.inline.operators code (free + 3) (free + 5) (free + 6)
          (free + 7) vs 0 0 at_homes known (has_front body at_homes home_list writes homes_has)
          (are_apart (map_of c) c.layout.program u xs c.layout.expansion.inline.operators code (free + 3) (free + 5)
          (free + 6) (free + 7) (omega arith) (omega arith) (omega arith) vs 0 object_here) (omega arith) (omega arith)

      abbrev homed_state : flat.State
      homed_state = record known { values = placed.after; work = known.work + placed.comes.work }

      abbrev most_so_far : ℕ
      most_so_far = 16 + bound_of (Gives entry made) + 2 + 8 * object_count vs

      to_writes : Reached (map_of c) c.layout.program u pc v xs at_writes homed_state most_so_far
      to_writes =
          let m = map_of c in
          let p = c.layout.program in
          let bound = bound_of (Gives entry made) in
          let one = reached_then m p u xs pc at_call (at_call + 1) v before y 16 bound ready.reached
          (record { steps = d.steps; comes = d.comes ∙ e.behind.at; few = e.behind.work }) in
          let two = reached_next m p u xs pc (at_call + 1) at_homes v y y (16 + bound) 2 one passed in
          reached_next m p u xs pc at_homes at_writes v known (record known { values = placed.after }) (16 + bound + 2)
          (8 * object_count vs) two placed.comes

      abbrev cell : ℕ
      cell = top_cell (map_of c)

      abbrev after : (work : ℕ) → flat.State
      after w = record homed_state {
        values = put placed.after (first_free code + 7) (top_cell (map_of c));
        memory = store 8 y.memory (top_cell (map_of c)) (placed.after (first_free code + 4));
        work = w;
      }

      -- ---- registers

      low_outside : (r : ℕ) → r < variables_end code → IsOutsideHomes r
      low_outside = outside_low (map_of c) c.layout.program u xs c.layout.expansion.inline.operators code (free + 3)
          (free + 5) (free + 6) (free + 7) vs

      high_outside : (r : ℕ) → homes_end code ≤ r → IsOutsideHomes r
      high_outside = outside_high (map_of c) c.layout.program u xs c.layout.expansion.inline.operators code (free + 3)
          (free + 5) (free + 6) (free + 7) vs object_here

      home_outside : (x j : ℕ) → is_object_in (all_variables code) x ≡ true
          → ((q : ℕ) → is_object_in vs q ≡ true → x ≢ q) → j < 5 → IsOutsideHomes (home_register code x + j)
      home_outside = outside_home (map_of c) c.layout.program u xs c.layout.expansion.inline.operators code (free + 3)
          (free + 5) (free + 6) (free + 7) vs object_here

      top_outside : IsOutsideHomes (top_register code vs)
      top_outside = outside_top (map_of c) c.layout.program u xs c.layout.expansion.inline.operators code (free + 3)
          (free + 5) (free + 6) (free + 7) vs object_here (first_object vs) first_declared

      same : (r : ℕ) → r < first_free code → r ≢ top_register code vs → IsOutsideHomes r → (after 0).values r ≡ v.values r
      same r lt ne out =
          put_other placed.after (free + 7) cell r (λ q. omega arith) ∙ placed.others r out
          ∙ e.behind.others r (inl (omega arith)) ∙ ready.others r lt ne

      -- no register of another home is the one with the end of the object stack
      not_top : (x j : ℕ) → is_object_in (all_variables code) x ≡ true
          → ((q : ℕ) → is_object_in vs q ≡ true → x ≢ q) → j < 5 → home_register code x + j ≢ top_register code vs
      not_top x j object other few = by (cases_lt x (first_object vs)) (cases_lt (first_object vs) x)
        where
          by : (x < first_object vs) ⊎ (first_object vs ≤ x) → (first_object vs < x) ⊎ (x ≤ first_object vs)
              → home_register code x + j ≢ top_register code vs
          by (inl lt) second e =
              (let more = before_grows (all_variables code) x (first_object vs) object (omega arith) in omega arith)
          by (inr le) (inl lt) e =
              (let more = before_grows (all_variables code) (first_object vs) x first_declared (omega arith) in omega arith)
          by (inr le) (inr ge) e = other (first_object vs) (first_is_object vs t.some) (omega arith)

      top_kept : (after 0).values (top_register code vs) ≡ s.stacked
      top_kept =
          let low = top_low in
          put_other placed.after (free + 7) cell top (λ q. omega arith) ∙ placed.others top top_outside
          ∙ e.behind.others top (inl (omega arith)) ∙ ready.kept

      -- ---- memory

      on : GoesOn (views c) keys d.holds.keys_after s.objects made.objects v.memory (after 0).memory
      on =
          let place = cell_place (map_of c) right.mapped in
          let behind = place.behind in
          record {
            held = e.kept;
            continues = lives.continues;
            behind = λ a le lt. store_beside 8 y.memory cell (placed.after (free + 4)) a (inl (omega arith))
                ∙ e.elsewhere a le ∙ ap (λ (b : Bytes). b a) ready.memory;
          }

      stands_in : (w : ℕ) → StandsIn c IsGood d.holds.keys_after made (after w)
      stands_in w =
          let place = cell_place (map_of c) right.mapped in
          let spaces = place.spaces in
          let fits = (reached_words (map_of c) c.layout.program u xs pc at_writes v homed_state most_so_far t.words
          to_writes).values (free + 4) in
          let turns = t.stands.turns in
          let so_far = ready.turns in
          let by_call = e.behind.turns in
          record {
            for = for_behind (map_of c) right.mapped (length c.setting.functions) c.layout.expansion.types c.entry IsGood
                right.local d.holds.keys_after made y (after w)
                (λ a lt. store_beside 8 y.memory cell (placed.after (free + 4)) a (inl (omega arith)))
                (record { input = refl; output = refl; taken = refl; accesses = refl; turns = refl }) e.stands;
            top = load_stored 8 y.memory cell (placed.after (free + 4)) (omega (arith, fits))
                ∙ placed.others (free + 4) (high_outside (free + 4) (omega arith)) ∙ last_is;
            turns = omega arith;
          }

      -- ---- the homes

      share : (o : ℕ) → length s.objects ≤ o
          → d.holds.keys_after.held o ≡ record { key = known.values (free + 5); lock = known.values (free + 6) }
      share o le =
          e.share o le ∙ ap (λ (q : ℕ). record { key = q; lock = y.values (free + 2 + 4) }) (sym key_is)
          ∙ ap (λ (q : ℕ). record { key = y.values (free + 5); lock = q }) (sym lock_is)

      -- a home of the block
      record IsOwn (x o : ℕ) : Type 0 where
        object : is_object_in vs x ≡ true
        automatic : (object_at made.objects o).storage ≡ Automatic
        size_is : (object_at made.objects o).size ≡ size_of_kind (at_number (all_variables code) x).kind
        home : IsHome (world c d.holds.keys_after made (after 0)) o (home_register code x) (after 0).values
        lock_there : (after 0).values (home_register code x + 3) ≡ y.values (free + 2 + 4)

      own_at : (x o i : ℕ) → i ≡ x → is_object_in vs x ≡ true → length s.objects ≤ o
          → IsHomed (map_of c) c.layout.program u xs c.layout.expansion.inline.operators code (first_free code + 3)
          (first_free code + 5) (first_free code + 6) (first_free code + 7) i (at_number vs x) (known.values (free + 5))
          (known.values (free + 6)) (object_at made.objects o) placed.after
          → IsOwn x o
      own_at x o i place object new hd =
          let low = home_low code x (t.declared x object) in
          let H = home_register code x in
          let at : home_register code i ≡ home_register code x = ap (home_register code) place in
          let stays = λ (r : ℕ) (lt : r < free + 7). put_other placed.after (free + 7) cell r (λ q. omega arith) in
          let base = stays H (omega arith) ∙ ap placed.after (sym at) ∙ hd.home.base in
          let bound = stays (H + 1) (omega arith) ∙ ap (λ r. placed.after (r + 1)) (sym at) ∙ hd.home.bound in
          let key = stays (H + 2) (omega arith) ∙ ap (λ r. placed.after (r + 2)) (sym at) ∙ hd.home.key_is in
          let lock = stays (H + 3) (omega arith) ∙ ap (λ r. placed.after (r + 3)) (sym at) ∙ hd.home.lock_is in
          record {
            object = object;
            automatic = hd.automatic;
            size_is = hd.size_is ∙ ap (λ (q : Variable). size_of_kind q.kind) (t.kinds x object);
            home = record {
              live = hd.live;
              held = ap is_allocated hd.automatic;
              entry = home_spelled (views c) d.holds.keys_after made.objects o H (known.values (free + 5))
                  (known.values (free + 6)) (after 0).values base bound key lock (share o new);
            };
            lock_there = lock ∙ lock_is;
          }

      own : (x o : ℕ) → get_or entry.homes x NoObject ≡ InObject o → IsOwn x o
      own x o is =
          let object = object_by_home vs (length s.objects) x o is in
          let first = first_is in
          let place : 0 + x ≡ x = omega arith in
          let round : known.values (free + 3) % 16 ≡ 0 = omega arith in
          own_at x o (0 + x) place object (home_at_least vs (length s.objects) x o is)
          (homed (map_of c) c.layout.program u xs c.layout.expansion.inline.operators code (free + 3) (free + 5) (free + 6)
          (free + 7) vs 0 0 (known.values (free + 3)) (known.values (free + 5)) (known.values (free + 6)) s.stacked s.objects
          placed.after round (omega arith) placed.homes x o is)

      -- ---- lock words

      later : (o : ℕ) → length s.objects ≤ o → (object_at made.objects o).is_live ≡ true
          → ((d.holds.keys_after.held o).key ≡ 2 + d.holds.keys_after.own o) × (keys.made ≤ d.holds.keys_after.own o)
      later o le live =
          let there = live_made made.objects o live in
          let new = (placed_from vs s.stacked s.objects).fresh o le there in
          let automatic : (object_at made.objects o).storage ≡ Automatic =
          ap (λ (q : ObjectState). q.storage) new.2 ∙ new_storage new.0 new.1 in
          let other = ((stands_in 0).for.objects.keyed.each o there).other
          (λ is. not_static (object_at made.objects o).storage automatic is) in
          let key = ap (λ (q : Holding). q.key) (e.share o le) ∙ e.key_is in
          let own_key = other.0 in
          (other.0, omega arith)

      lock_on : (homes : List Home) (lock : ℕ) → AreOfLock keys s homes lock
          → AreOfLock d.holds.keys_after made homes lock
      lock_on homes lock of =
          let there = of.under of.some of.some_home in
          still_of_lock (views c) keys d.holds.keys_after s made homes lock v.memory (after 0).memory t.stands.for.objects
          (stands_in 0).for.objects
          (record {
            held = e.kept;
            continues = lives.continues;
            later = λ o le live. inr (later o le live);
          })
          of.some of.some_home (lives.live of.some there.0 (ap is_allocated there.1) of.some_live) of

      lock_placed : (after 0).values (lock_register code vs) ≡ y.values (free + 2 + 4)
      lock_placed =
          let is = has_home_in vs (length s.objects) (first_object vs) (first_is_object vs t.some) in
          (own (first_object vs) is.0 is.1).lock_there

      -- ---- all of it

      makes : (z : flat.State) × HaveMade c IsGood u code pc v xs keys s vs behind_list z
      makes =
          let m = map_of c in
          let p = c.layout.program in
          let written = top_written m right.mapped p u xs at_writes (free + 7) (free + 4) homed_state
          (has_back body at_homes home_list writes homes_has) (λ q. omega arith) in
          let all = reached_next m p u xs pc at_writes (at_writes + 2) v homed_state (after homed_state.work) most_so_far 4
          to_writes written in
          let work = homed_state.work + written.work in
          let long = length-append constants calls in
          let longer = length-append statuses (home_list ++ writes) in
          let longest = length-append home_list writes in
          let len : at_writes + 2 ≡ behind_list = omega arith in
          let count : made.work - s.work ≡ placing_work vs = omega arith in
          let bound : most_so_far + 4
          ≡ 22 + work_of_call 2 4 1 (100 + 40 * placing_work vs) + 8 * object_count vs =
          ap (λ n. 16 + work_of_call 2 4 1 (100 + 40 * n) + 2 + 8 * object_count vs + 4) count ∙ omega arith in (
            after work,
            record {
              keys_after = d.holds.keys_after;
              reached = subst (λ q. Reached m p u pc v xs behind_list (after work) q) bound
                  (subst (λ q. Reached m p u pc v xs q (after work) (most_so_far + 4)) len all);
              stands = stands_in work;
              goes = on;
              low = λ r lt. same r (omega arith) (λ q. omega arith) (low_outside r lt);
              high = λ r le lt. (let low = top_low in same r lt (λ q. omega arith) (high_outside r le));
              outer = λ x j object other few.
                  (let low = home_low code x object in
                  same (home_register code x + j) (omega arith) (not_top x j object other few)
                  (home_outside x j object other few));
              top_is = top_kept;
              homes = record {
                declared = λ x o is. t.declared x (own x o is).object;
                homes = λ x o is. (own x o is).home;
                automatic = λ x o is. (own x o is).automatic;
                sizes = λ x o is. (own x o is).size_is;
              };
              locks = lock_on;
              of_lock = subst (AreOfLock d.holds.keys_after made entry.homes) (sym lock_placed) e.of_lock;
            },
          )

    pub objects_made : (z : flat.State) × HaveMade c IsGood u code pc v xs keys s vs behind_list z
    objects_made =
        makes to_call.0 to_call.1
        (subst (Serves to_call.0) (enters_block c.setting vs line s space t.some spare) (served to_call.0 to_call.1))
