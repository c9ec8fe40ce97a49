-- A block is entered: a function of the runtime makes its objects, whose homes are placed, and the object stack ends
-- behind them; or the run ends, where they have no room or no key.
use Rattle.std.proofs.Common.{◌≡◌, ◌⊎◌, inl, inr, ℕ, suc, ◌+◌, ◌-◌, ◌*◌, ◌^◌, ◌<◌, ◌≤◌, Bool, true, false}
use Rattle.std.proofs.Common.{List, ◌∷◌, ◌++◌, length, get_or, Some, refl, sym, ap, ◌∙◌}
use Rattle.std.proofs.Common.{subst, arith}
use Rattle.std.specs.Prelude.{◌&&◌, slice_get, nat_le, nat_lt}
use Rattle.std.proofs.lemmas.Bool.{and_parts, ltb-true}
use Rattle.behaviours.specs.Steps.{run}
use Rattle.behaviours.proofs.Running.{run_add}
use Rattle.sb_base.specs.declared.ending.Ending.{Ending}
use Rattle.sb_base.specs.declared.ending.Ending.TheVariants as ending
use Rattle.sb_base.specs.Endings.{code_of, report_of}
use Rattle.addr_map.specs.Places.{MapSizes}
use Rattle.obj_memory.proofs.Continuing.{continues_then}
use Rattle.c_tree.specs.declared.program.Variable.{Variable}
use Rattle.source_meaning.specs.State.{State, Outcome as Completed, Ended, InObject, NoObject}
use Rattle.source_meaning.specs.Blocks.{Block, enter_block, has_objects, objects_end}
use Rattle.source_meaning.specs.Good.{EntersBy, IsEntered}
use Rattle.source_meaning.specs.Places.{stack_end, stack_first}
use Rattle.source_meaning.proofs.Holding.{live_made}
use Rattle.source_meaning.proofs.SureBlocks.{enters as source_enters}
use Rattle.tac_ir.specs.declared.instruction.Instruction.TheVariants as tac
use Rattle.tac_ir.specs.Costs.{fourfold, spent}
use Rattle.tac_ir.specs.Fitting.{have_no_homes, is_word}
use Rattle.tac_ir.specs.Meaning.{blocks_in, effect, fits, function_in as code_in, if_there, objects_before}
use Rattle.tac_ir.specs.Meaning.{objects_in, variables_in}
use Rattle.tac_ir.specs.Stage.{came, Entered, Frame, Over, Stage, Stands, Temps}
use Rattle.flat_code.specs.declared.instruction.FlatInstruction.{FlatInstruction}
use Rattle.flat_code.specs.Calls.{function_in}
use Rattle.flat_code.specs.Meaning.{body_of, step}
use Rattle.flat_code.specs.Memory.{Bytes}
use Rattle.flat_code.specs.State as flat
use Rattle.flat_code.specs.Words.{HasWords}
use Rattle.flat_code.proofs.Routines.Steps.{has_front}
use Rattle.flat_actions.proofs.Standing.{for_worked}
use Rattle.lib_wrappers.specs.AllocatingRoutines.Entering.{AreSized, block_bytes}
use Rattle.lib_wrappers.proofs.AllocatingRoutines.SourceEntries.{block_of, entered_in, enters_block}
use Rattle.lib_wrappers.proofs.AllocatingRoutines.SourceEntries.{home_between, no_more_keys, no_space, object_count}
use Rattle.lib_wrappers.proofs.AllocatingRoutines.SourceEntries.{placed_count}
use Rattle.runtime_functions.specs.Actions.{HasExited, HasTold, work_of_call}
use Rattle.runtime_functions.specs.Calls.{CallSite}
use Rattle.metadata_relation.specs.Blocks.{enter_statuses}
use Rattle.metadata_relation.specs.Holding.{HasHomes, Holds, World}
use Rattle.metadata_relation.specs.Registers.{first_free, first_object, home_register}
use Rattle.metadata_relation.specs.Registers.{lock_register, temporary_register}
use Rattle.metadata_relation.specs.Scopes.{base_of, context_at, numbers_in, variables_at}
use Rattle.metadata_relation.specs.Stages.{activation, Compiled, expansion_of, IsAt, IsSteady, level}
use Rattle.metadata_relation.specs.Stages.{map_of, MatchesBy, names, StandsIn, views, world}
use Rattle.metadata_relation.specs.Steps.{are_sized, can_be_entered, IsCompiled}
use Rattle.metadata_relation.specs.Waiting.{AllWait}
use Rattle.metadata_relation.proofs.Acting.{reached_then}
use Rattle.metadata_relation.proofs.Acting.{reached_on, stands_as}
use Rattle.metadata_relation.proofs.BlockEndings.{EndsEntering, no_key_ends, no_room_ends}
use Rattle.metadata_relation.proofs.BlockHomes.{bytes_placed, count_work, has_home_in}
use Rattle.metadata_relation.proofs.BlockHomes.{homes_both}
use Rattle.metadata_relation.proofs.BlockHomes.{sized_by, some_counted}
use Rattle.metadata_relation.proofs.BlockVariables.{declared_as, declares, first_is_object, fresh}
use Rattle.metadata_relation.proofs.Holding.{home_on, temporaries_on, variables_on}
use Rattle.metadata_relation.proofs.OuterBlocks.{are_over, waits_around}
use Rattle.metadata_relation.proofs.Registers.{home_low, temporary_free}
use Rattle.metadata_relation.proofs.Standing.{ends, good_now, good_then, IsNode, leaves_same, node}
use Rattle.metadata_relation.proofs.Standing.{none_less, none_more, Result}
use Rattle.metadata_relation.proofs.Statuses.{status_ends}
use Rattle.metadata_relation.proofs.Waiting.{lock_same, waits_by}
use Rattle.metadata_relation.proofs.MadeObjects.{at_call, bound_of, call_site, calls_has, HaveMade, home_list}
use Rattle.metadata_relation.proofs.MadeObjects.{IsAtEnter, IsToMake}
use Rattle.metadata_relation.proofs.MadeObjects.{objects_made, served, Serves, statuses, to_call, writes}
use Rattle.metadata_relation.specs.Blocks.{enter_code}
use Rattle.lib_wrappers.proofs.AllocatingRoutines.SourceEntries.{placing_work}
use Rattle.metadata_relation.proofs.RuntimeCalls.{rooms_wait}
use Rattle.metadata_relation.proofs.Acting.{statics_live_on}

module _ (c : Compiled) (IsGood : Bytes → Type 0) (right : IsCompiled c IsGood) (u n : ℕ) (temps : Temps)
    (ws : List Frame) (s : State) (v : flat.State) (xs : List flat.Frame)
    (h : IsAt c IsGood u n temps ws s u (c.layout.address u n) v xs)
    (words : HasWords (flat.Stands u (c.layout.address u n) v xs)) (k line next : ℕ)
    (at : slice_get h.code.code n ≡ Some (tac.EnterBlock k line next))
    (some : has_objects (objects_in (Some h.code) k) ≡ true) (sized : AreSized (objects_in (Some h.code) k))
    (word : block_bytes (objects_in (Some h.code) k) < 2 ^ 64)
    (none : have_no_homes s.frame (if_there (slice_get (blocks_in (Some h.code)) k)) ≡ true) where
  abbrev pc : ℕ
  pc = c.layout.address u n

  abbrev free : ℕ
  free = first_free h.code

  abbrev body : List FlatInstruction
  body = body_of (function_in c.layout.program u)

  abbrev pub Follows : Stage → Type 0
  Follows a = Result c IsGood a (flat.Stands u (c.layout.address u n) v xs)

  abbrev pub vs : List Variable
  vs = objects_in (Some h.code) k

  abbrev pub paid : State
  paid = spent 7 s

  pub nd : IsNode c u n h.code (tac.EnterBlock k line next)
  nd = node c IsGood right u n temps ws s v xs h (tac.EnterBlock k line next) at

  pub to_make : IsToMake c IsGood u h.code (c.layout.address u n) v xs h.keys (spent 7 s) (objects_in (Some h.code) k) line
  to_make =
      let stands = stands_as c IsGood h.keys s v v.values v.work h.stands in
      record {
        there = h.there;
        words = words;
        stands = record {
          for = for_worked (views c) h.keys IsGood s paid.work v h.stands.for;
          top = stands.top;
          turns = stands.turns;
        };
        separate = (good_now (names c) u ws s h.steady.good).separate;
        bytes = h.steady.bytes;
        fits = subst (λ z. z ≤ (map_of c).budgets.calls) h.charge h.fits;
        room = rooms_wait c IsGood right (world c h.keys s v) s (stack_first c.setting) (level h.code s v) ws xs h.wait.by;
        some = some;
        sized = sized;
        word = word;
        has = nd.put.has;
        declared = declares h.code k;
        kinds = declared_as h.code k;
      }

  abbrev IsReady : flat.State → Type 0
  IsReady = IsAtEnter c IsGood right u h.code pc v xs h.keys paid vs line to_make

  abbrev Served : flat.State → Completed Block → Type 0
  Served = Serves c IsGood right u h.code pc v xs h.keys paid vs line to_make

  -- ---- the run ends

  abbrev place : ℕ
  place = at_call c IsGood right u h.code pc v xs h.keys paid vs line to_make

  abbrev here : flat.State → CallSite
  here y = call_site c IsGood right u h.code pc v xs h.keys paid vs line to_make y

  abbrev bound : Ending → ℕ
  bound e = bound_of c IsGood right u h.code pc v xs h.keys paid vs line to_make (Ended e paid)

  ended_by : (e : Ending) → EndsEntering line e → enter_block c.setting vs line paid ≡ Ended e paid
      → (y : flat.State) → IsReady y → Served y (enter_block c.setting vs line paid)
      → Follows (Over e (spent (3 * (paid.work - paid.work)) paid))
  ended_by e tells is y ready called = by d.holds
    where
      d : Served y (Ended e paid)
      d = subst (Served y) is called

      by : HasTold (map_of c) e line (here y) 4 (bound e) paid d.stage ⊎ HasExited (map_of c) e (here y) paid d.stage
          → Follows (Over e (spent (3 * (paid.work - paid.work)) paid))
      by (inr exited) = absurd (tells.some exited.no_status)
      by (inl t) =
          let m = map_of c in
          let p = c.layout.program in
          let z = t.behind.state in
          let r = reached_then m p u xs pc place (place + 1) v y z 16 (bound e) ready.reached
          (record { steps = d.steps; comes = d.comes ∙ t.behind.at; few = t.behind.work }) in
          let f = status_ends m p u xs (free + 2) line enter_statuses t.kind (place + 1) z e
          (has_front body (place + 1) (statuses c IsGood right u h.code pc v xs h.keys paid vs line to_make)
          (home_list c IsGood right u h.code pc v xs h.keys paid vs line to_make
          ++ writes c IsGood right u h.code pc v xs h.keys paid vs line to_make)
          (calls_has c IsGood right u h.code pc v xs h.keys paid vs line to_make).1) (refl, (refl, tt)) t.status
          (tells.among t.kind t.ending_is) t.ending_is in
          let few = r.few in
          let fewer = f.few in
          let report = tells.report in
          let work = h.work in
          let turns = h.stands.turns in
          let same = t.behind.turns in
          let as_before = ready.turns in
          ends c IsGood (flat.Stands u pc v xs) e (spent (3 * (paid.work - paid.work)) paid)
          (record z { work = z.work + f.work }) (r.steps + f.steps) (code_of e) (report_of e)
          (run_add (step m p) r.steps f.steps (flat.Stands u pc v xs) ∙ ap (run (step m p) f.steps) r.comes ∙ f.comes) refl
          refl
          (record {
            input = t.shown.input;
            output = t.shown.output;
            taken = t.shown.taken;
            accesses = t.shown.accesses;
          })
          (omega arith) (omega arith)

  pub ended : (e : Ending) → EndsEntering line e → enter_block c.setting vs line paid ≡ Ended e paid
      → Follows (Over e (spent (3 * (paid.work - paid.work)) paid))
  ended e tells is =
      let ready = to_call c IsGood right u h.code pc v xs h.keys paid vs line to_make in
      ended_by e tells is ready.0 ready.1
      (served c IsGood right u h.code pc v xs h.keys paid vs line to_make ready.0 ready.1)

  -- ---- the block is entered

  module _ (space : nat_le (objects_end vs paid.stacked) (stack_end c.setting) ≡ true)
      (spare : nat_lt paid.keys c.setting.sizes.budgets.keys ≡ true) where
    abbrev entry : Block
    entry = block_of vs paid

    abbrev made : State
    made = entered_in vs paid

    abbrev z : State
    z = spent (3 * (made.work - paid.work)) made

    -- the state is good

    entered : IsEntered (base_of (names c) u) (map_of c) (variables_in (code_in c.layout.expansion.code u))
        (variables_at (names c) u ws) (numbers_in (code_in c.layout.expansion.code u) k) paid entry made
    entered =
        subst (EntersBy (base_of (names c) u) (map_of c) (variables_in (code_in c.layout.expansion.code u))
        (variables_at (names c) u ws) (numbers_in (code_in c.layout.expansion.code u) k) paid)
        (ap (λ o. enter_block c.setting (objects_in o k) line paid) h.there
        ∙ enters_block c.setting vs line paid space some spare)
        (source_enters (base_of (names c) u) (map_of c) (variables_in (code_in c.layout.expansion.code u))
        (variables_at (names c) u ws) (numbers_in (code_in c.layout.expansion.code u) k) c.setting right.sizes right.mapped
        line paid (good_now (names c) u ws s h.steady.good))

    steady : IsSteady c u (Entered k entry ∷ ws) z
    steady =
        let l = leaves_same (context_at (names c) u (Entered k entry ∷ ws)) made entered.good in
        let b = leaves_same (context_at (names c) u ws) s (good_now (names c) u ws s h.steady.good) in
        record {
          good = record {
            by = (
              record {
                before = paid;
                behind = made;
                entered = entered;
                since = record { good = l.good; lives = l.lives; frame = l.frame; ended = l.ended };
              },
              (good_then (names c) u ws s paid
                  (record { good = b.good; lives = b.lives; frame = b.frame; ended = b.ended }) h.steady.good).by,
            );
          };
          bytes = bytes_placed vs s.stacked s.objects sized h.steady.bytes;
          keys = (let less = ltb-true paid.keys c.setting.sizes.budgets.keys spare in
              let same = ap (λ (m : MapSizes). m.budgets.keys) right.sizes in
              omega arith);
          statics = continues_then (objects_before (expansion_of c).code c.setting) s.objects made.objects h.steady.statics
              entered.lives.continues;
          statics_live = statics_live_on c s.objects made.objects entered.lives h.steady.statics h.steady.statics_live;
        }

    abbrev list : List FlatInstruction
    list = enter_code c.layout.expansion.inline.operators (map_of c) c.layout.expansion.code h.code vs line

    all_made : (y : flat.State) × HaveMade c IsGood u h.code (c.layout.address u n) v xs h.keys (spent 7 s)
        (objects_in (Some h.code) k)
        (c.layout.address u n + length (enter_code c.layout.expansion.inline.operators (map_of c) c.layout.expansion.code
        h.code (objects_in (Some h.code) k) line)) y
    all_made = objects_made c IsGood right u h.code pc v xs h.keys paid vs line to_make space spare

    module _ (y : flat.State) (d : HaveMade c IsGood u h.code (c.layout.address u n) v xs h.keys (spent 7 s)
        (objects_in (Some h.code) k)
        (c.layout.address u n + length (enter_code c.layout.expansion.inline.operators (map_of c) c.layout.expansion.code
        h.code (objects_in (Some h.code) k) line)) y) where
      abbrev after : (work : ℕ) → flat.State
      after w = record y { work = w }

      abbrev after_world : World
      after_world = world c d.keys_after z y

      stands_in : (w : ℕ) → StandsIn c IsGood d.keys_after z (after w)
      stands_in w =
          let i = stands_as c IsGood d.keys_after made y y.values w d.stands in
          record { for = for_worked (views c) d.keys_after IsGood made z.work (after w) i.for; top = i.top; turns = i.turns }

      stay : (x o : ℕ) → get_or s.frame x NoObject ≡ InObject o → (j : ℕ) → j < 5
          → y.values (home_register h.code x + j) ≡ v.values (home_register h.code x + j)
      stay x o is j few =
          d.outer x j (h.holds.homes.declared x o is)
          (λ q t same. (let both : InObject o ≡ NoObject =
          sym is ∙ ap (λ i. get_or s.frame i NoObject) same ∙ fresh h.code k s.frame none q t in cc)) few

      -- ---- the homes

      around : HasHomes after_world h.code s.frame y.values
      around =
          let b = h.holds.homes in
          let on = d.goes in
          record {
            declared = b.declared;
            homes = λ x o is.
                (let home = b.homes x o is in
                home_on (views c) h.keys d.keys_after s.objects made.objects v.memory y.memory on o
                (home_register h.code x) v.values y.values (λ j few. stay x o is j (omega arith))
                (entered.lives.live o (live_made s.objects o home.live) home.held home.live) home);
            automatic = λ x o is. on.continues.storage o (live_made s.objects o (b.homes x o is).live) ∙ b.automatic x o is;
            sizes = λ x o is. on.continues.size o (live_made s.objects o (b.homes x o is).live) ∙ b.sizes x o is;
          }

      holds : (w : ℕ) → Holds (world c d.keys_after z (after w)) (activation c h.code u next z) temps s.plain made.frame
          (after w).values
      holds w = record {
        temporaries = λ i lt known_.
            (let low = temporary_free h.code i lt in
            temporaries_on (views c) h.keys d.keys_after s.objects made.objects v.memory y.memory d.goes
            (activation c h.code u n s) (suc i) (c.layout.expansion.entries u next) (c.layout.expansion.contents u next)
            (λ q. false)
            (record {
              kept = λ j ne t. none_more c IsGood right u n temps ws s v xs h (tac.EnterBlock k line next) nd next refl (inl refl) j t;
              plain = λ j ne t. none_less c IsGood right u n temps ws s v xs h (tac.EnterBlock k line next) nd next refl (inl refl) j t;
              known = λ j ne t. refl;
            }) temps v.values y.values i (λ q. omega arith) lt
            (λ j few. d.high (temporary_register h.code i + j) (omega arith) (omega arith))
            h.holds.temporaries known_);
        variables = variables_on (views c) h.keys d.keys_after s.objects made.objects v.memory y.memory d.goes
            (activation c h.code u n s) s.plain v.values y.values d.low h.holds.variables;
        homes = homes_both after_world h.code s.frame entry.homes y.values around d.homes;
        count = h.holds.count;
      }

      -- ---- what waits

      outer : AllWait after_world z c.layout (stack_first c.setting) (record {
        code = h.code;
        values = y.values;
        stacked = s.stacked;
        frame = s.frame;
        bound = length s.objects;
      }) ws xs
      outer =
          waits_around after_world z c.layout (stack_first c.setting) h.code v.values y.values s.stacked
          (length s.objects) s.frame ws xs stay
          (waits_by (views c) h.keys d.keys_after s z v.memory y.memory c.layout (stack_first c.setting)
          (length s.objects) d.goes (λ o lt live held. entered.lives.live o lt held live)
          (λ homes lock below of. lock_same d.keys_after made z refl homes lock (d.locks homes lock
          (lock_same h.keys s paid refl homes lock of))) (level h.code s v) ws xs (omega arith) h.wait.by)

      waits : (w : ℕ) → AllWait (world c d.keys_after z (after w)) z c.layout (stack_first c.setting)
          (level h.code z (after w)) (Entered k entry ∷ ws) xs
      waits w =
          let low = home_low h.code (first_object vs) (declares h.code k (first_object vs) (first_is_object vs some)) in
          let count = placed_count vs s.stacked s.objects in (
            record {
              some = some;
              block = record {
                of_lock = lock_same d.keys_after made z refl entry.homes (y.values (lock_register h.code vs)) d.of_lock;
                placed = λ no.
                    (let t = has_home_in vs (length s.objects) (first_object vs) (first_is_object vs some) in
                    let both : NoObject ≡ InObject t.0 = sym no ∙ t.1 in
                    cc);
                lock_is = record { first = omega arith; last = omega arith };
                top_is = d.top_is;
                top_is_one = record { first = omega arith; last = omega arith };
              };
              mark = length s.objects;
              own = λ o q.
                  (let b = home_between vs (length s.objects) o q in
                  let lo = b.0 in
                  let hi = b.1 in
                  (lo, omega arith));
              below = λ x o is. live_made s.objects o (h.holds.homes.homes x o is).live;
              over = are_over s.frame entry.homes;
              homes = around;
            },
            outer,
          )

      -- ---- the step

      stands : Follows (Stands u next temps (Entered k entry ∷ ws) z)
      stands =
          let m = map_of c in
          let p = c.layout.program in
          let r = reached_on m p u xs pc (pc + length list) (c.layout.address u next) v y
          (22 + work_of_call 2 4 1 (100 + 40 * placing_work vs) + 8 * object_count vs) d.reached nd.put.leads in
          let few = r.1.few in
          let so_far = h.work in
          let counted = count_work vs sized in
          let one = some_counted vs some in
          record {
            steps = r.1.steps;
            matches = subst (MatchesBy c IsGood (Stands u next temps (Entered k entry ∷ ws) z)) (sym r.1.comes) (record {
              function = refl;
              place = refl;
              code = h.code;
              there = h.there;
              work = omega arith;
              charge = h.charge;
              fits = h.fits;
              keys = d.keys_after;
              stands = stands_in r.0;
              steady = steady;
              holds = holds r.0;
              wait = record { by = waits r.0 };
            });
          }

  -- ---- by the tests

  abbrev Behind : Completed Block → Stage
  Behind o = came (fourfold paid.work o) (λ q a. Stands u next temps (Entered k q ∷ ws) a)

  by_keys : nat_le (objects_end vs paid.stacked) (stack_end c.setting) ≡ true → (b : Bool)
      → nat_lt paid.keys c.setting.sizes.budgets.keys ≡ b → Follows (Behind (enter_block c.setting vs line paid))
  by_keys space true e =
      let d = all_made space e in
      subst (λ o. Follows (Behind o)) (sym (enters_block c.setting vs line paid space some e)) (stands space e d.0 d.1)
  by_keys space false e =
      let is = no_more_keys c.setting vs line paid space some e in
      subst (λ o. Follows (Behind o)) (sym is) (ended (ending.Keys line) (no_key_ends line) is)

  by_space : (b : Bool) → nat_le (objects_end vs paid.stacked) (stack_end c.setting) ≡ b
      → Follows (Behind (enter_block c.setting vs line paid))
  by_space true e = by_keys e (nat_lt paid.keys c.setting.sizes.budgets.keys) refl
  by_space false e =
      let is = no_space c.setting vs line paid e in
      subst (λ o. Follows (Behind o)) (sym is) (ended (ending.Stack line) (no_room_ends line) is)

  pub enters : Follows (Behind (enter_block c.setting vs line paid))
  enters = by_space (nat_le (objects_end vs paid.stacked) (stack_end c.setting)) refl

-- a block is entered
pub enter_step : (c : Compiled) (IsGood : Bytes → Type 0) (right : IsCompiled c IsGood) (u n : ℕ) (temps : Temps)
    (ws : List Frame) (s : State) (v : flat.State) (xs : List flat.Frame)
    (h : IsAt c IsGood u n temps ws s u (c.layout.address u n) v xs)
    → HasWords (flat.Stands u (c.layout.address u n) v xs) → (k line next : ℕ)
    → slice_get h.code.code n ≡ Some (tac.EnterBlock k line next)
    → can_be_entered (objects_in (Some h.code) k) ≡ true
    → fits c.setting (expansion_of c).code (tac.EnterBlock k line next) u temps (spent 7 s) ≡ true
    → Result c IsGood (effect c.setting (expansion_of c).code (tac.EnterBlock k line next) u temps ws (spent 7 s))
    (flat.Stands u (c.layout.address u n) v xs)
enter_step c IsGood right u n temps ws s v xs h words k line next at e f =
    let vs = objects_in (Some h.code) k in
    let p = and_parts (has_objects vs) (are_sized vs && is_word (block_bytes vs)) e in
    let q = and_parts (are_sized vs) (is_word (block_bytes vs)) p.1 in
    subst (λ o. Result c IsGood (came (fourfold (spent 7 s).work (enter_block c.setting (objects_in o k) line (spent 7 s)))
    (λ b a. Stands u next temps (Entered k b ∷ ws) a)) (flat.Stands u (c.layout.address u n) v xs)) (sym h.there)
    (enters c IsGood right u n temps ws s v xs h words k line next at p.0 (sized_by vs q.0)
    (ltb-true (block_bytes vs) (2 ^ 64) q.1)
    (ap (λ o. have_no_homes s.frame (if_there (slice_get (blocks_in o) k))) (sym h.there)
    ∙ (and_parts (has_objects (objects_in (code_in (expansion_of c).code u) k)) _ f).1))
