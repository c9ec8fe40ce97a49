-- Where a function is entered, parameters that are objects get their arguments: scalars, each by an access, and structures,
-- whose contents are put to their homes.
use Rattle.std.proofs.Common.{◌≡◌, ℕ, suc, ◌+◌, ◌*◌, ◌<◌, ◌≤◌, Bool, true, false, if◌then◌else◌}
use Rattle.std.proofs.Common.{List, [], ◌∷◌, ◌++◌, length, length-append, map, get_or, Some, refl, sym, ap, ◌∙◌, subst}
use Rattle.std.proofs.Common.{arith}
use Rattle.std.specs.Prelude.{slice_get, ◌-◌, ◌^◌}
use Rattle.std.proofs.lemmas.Bool.{and_parts}
use Rattle.behaviours.specs.Shown.{Access}
use Rattle.addr_map.specs.declared.region.Region.TheVariants.{RuntimeCalls, StructureValues}
use Rattle.addr_map.specs.Places.{region_size, region_start}
use Rattle.obj_memory.specs.declared.value.Scalar.{Scalar}
use Rattle.obj_memory.specs.declared.value.Scalar.TheVariants.{Integer, Pointer}
use Rattle.obj_memory.specs.Access.{scalar_size}
use Rattle.obj_memory.specs.Judgement.{place_in}
use Rattle.obj_memory.specs.Objects.{object_at, Objects, pointer_to}
use Rattle.obj_memory.proofs.Continuing.{continues_then, continues_value}
use Rattle.obj_memory.proofs.Keeping.{keeps_value}
use Rattle.c_tree.specs.declared.expression.Kind.{Kind}
use Rattle.c_tree.specs.declared.expression.Kind.TheVariants.{Void, Scalar as OfScalar, Structure, Array}
use Rattle.c_tree.specs.declared.program.Variable.{Variable}
use Rattle.c_tree.specs.Kinds.{size_of_kind}
use Rattle.c_tree.specs.Valid.{at_number}
use Rattle.source_meaning.specs.State.{State, Rvalue, Home, NoObject, InObject, Gives, done, on, skip}
use Rattle.source_meaning.specs.Actions.{integer}
use Rattle.source_meaning.specs.Calls.{first_of, rest_of, write_parameter, write_parameters}
use Rattle.source_meaning.specs.Keeping.{IsDirect}
use Rattle.source_meaning.specs.Structures.{give, put_range, rvalue}
use Rattle.source_meaning.proofs.ActionsAct.{continues_put}
use Rattle.source_meaning.proofs.SureStructures.{keeps_put}
use Rattle.source_meaning.proofs.Holding.{live_made}
use Rattle.tac_ir.specs.declared.function.CodeFunction.{CodeFunction}
use Rattle.flat_code.specs.declared.instruction.FlatInstruction.{FlatInstruction}
use Rattle.flat_code.specs.Calls.{charged, function_in, rooms}
use Rattle.flat_code.specs.Meaning.{body_of}
use Rattle.flat_code.specs.Memory.{Bytes}
use Rattle.flat_code.specs.State as flat
use Rattle.flat_code.specs.Words.{HasWords, IsOfWords, WaitWithWords}
use Rattle.flat_code.specs.Routines.Objects.StandsFor.{Keys}
use Rattle.flat_code.specs.Routines.Routine.{HasAt}
use Rattle.flat_code.proofs.Routines.Steps.{has_back, has_front}
use Rattle.flat_actions.specs.Actions.{IsFor}
use Rattle.lib_wrappers.specs.AccessRoutines.Accessing.{store_steps}
use Rattle.lib_wrappers.specs.AllocatingRoutines.Entering.{AreSized}
use Rattle.lib_wrappers.proofs.AllocatingRoutines.SourceEntries.{homes_from}
use Rattle.metadata_plan.specs.Registers.{all_variables}
use Rattle.metadata_plan.proofs.Calling.{first_is, rest_at}
use Rattle.runtime_functions.specs.Library.{register_count}
use Rattle.metadata_plan.proofs.Flat.{words_kept}
use Rattle.metadata_relation.specs.Blocks.{held_scalar, runtime_number, store_parameter, store_parameters}
use Rattle.metadata_relation.specs.Structures.{store_structure_code}
use Rattle.metadata_relation.proofs.Arguments.{argument_on, IsArgument, plain_argument, structure_argument, words_by_kind}
use Rattle.metadata_relation.proofs.Packing.{words_at}
use Rattle.metadata_relation.proofs.StoredStructures.{put_written, structure_stored}
use Rattle.metadata_relation.specs.Holding.{GoesOn, HasHomes, is_object_in, is_pointer_type}
use Rattle.metadata_relation.specs.Registers.{first_free, home_register, parameter_words, passed_as, variable_register}
use Rattle.metadata_relation.specs.Registers.{variables_end}
use Rattle.metadata_relation.specs.Stages.{Compiled, map_of, views, world}
use Rattle.metadata_relation.specs.Steps.{are_handed_over, IsCompiled, is_handed_over}
use Rattle.metadata_relation.proofs.Accesses.{behind_write, stored}
use Rattle.metadata_relation.proofs.Acting.{Reached, reached_here, reached_then}
use Rattle.metadata_relation.proofs.Holding.{homes_on, same_world}
use Rattle.metadata_relation.proofs.Registers.{count_in, home_low, some_in}
use Rattle.metadata_relation.proofs.StoredParts.{home_address}
use Rattle.metadata_relation.proofs.Writing.{store_passes}

-- ---- the source

-- a pointer to a live object is to all of its bytes
pub pointer_direct : (o size : ℕ) (objects : Objects) → (object_at objects o).is_live ≡ true
    → (object_at objects o).size ≡ size → IsDirect objects (pointer_to o objects) size
unfolding pointer_to
pointer_direct o size objects live is =
    let a = (object_at objects o).address in
    record {
      object = o;
      bounds = record { base = a; bound = a + (object_at objects o).size };
      tag = refl;
      made = live_made objects o live;
      live = live;
      start = omega arith;
      end = omega (arith, is);
    }

pointer_word : (o : ℕ) (objects : Objects) → (pointer_to o objects).word ≡ (object_at objects o).address
unfolding pointer_to
pointer_word o objects = refl

-- a parameter that is a scalar object is written
written : (kind : Kind) (k : Scalar) (o line : ℕ) (v : Rvalue) (z : State) → kind ≡ OfScalar k
    → (d : IsDirect z.objects (pointer_to o z.objects) (scalar_size k))
    → write_parameter kind (InObject o) line v z ≡ Gives tt
    (behind_write k (pointer_to o z.objects) (place_in z.objects d.object (pointer_to o z.objects).word) v.value z)
written kind k o line v z is d =
    ap (λ i. write_parameter i (InObject o) line v z) is
    ∙ ap (λ r. on (on (on r (λ _. done v.value)) give) (λ _. skip)) (stored k (pointer_to o z.objects) v.value line z d)

module _ (c : Compiled) (IsGood : Bytes → Type 0) (right : IsCompiled c IsGood) (u : ℕ) (code : CodeFunction)
    (there : slice_get c.layout.expansion.code.functions u ≡ Some code) (xs : List flat.Frame)
    (fits : charged c.layout.program u xs ≤ (map_of c).budgets.calls)
    (room : rooms true c.layout.program xs + 2 ^ 11 ≤ region_size (map_of c) RuntimeCalls) (waiting : WaitWithWords xs)
    (line : ℕ) (frame : List Home) (rest : List Variable) where
  -- ---- what they rest on

  -- Some parameters, the first of which has a number, with their homes from an object on: the homes of the frame are
  -- theirs, and registers hold their arguments.
  pub record AreToStore (ps : List Variable) (x n : ℕ) (arguments : List Rvalue) (keys : Keys) (z : State) (v : flat.State)
      : Type 0 where
    pub words : IsOfWords v
    pub stands : IsFor (views c) keys IsGood z v
    pub homes : HasHomes (world c keys z v) code frame v.values
    pub taken : are_handed_over ps ≡ true
    pub sized : AreSized ps
    pub placed : (j o : ℕ) → get_or (homes_from (ps ++ rest) n) j NoObject ≡ InObject o
        → get_or frame (x + j) NoObject ≡ InObject o
    pub numbers : (j : ℕ) → j < length ps → at_number (all_variables code) (x + j) ≡ at_number ps j
    pub low : (j : ℕ) → j < length ps → variable_register code (x + j) + words_at ps j ≤ variables_end code
    pub held : (j : ℕ) → j < length ps → IsArgument (world c keys z v) (get_or (map (λ (p : Variable). p.kind) ps) j Void)
        (get_or arguments j (rvalue (integer 0))) (variable_register code (x + j)) v.values

  -- they are stored, a unit of work for each byte of structures, and nothing else changes
  pub record AreStored (ps : List Variable) (n : ℕ) (arguments : List Rvalue) (pc : ℕ) (keys : Keys) (z : State)
      (v : flat.State) (place : ℕ) : Type 0 where
    pub objects : Objects
    pub accesses : List Access
    pub work : ℕ
    pub is : write_parameters ps (homes_from (ps ++ rest) n) line arguments z
        ≡ Gives tt (record z { objects = objects; accesses = accesses; work = work })
    pub more : z.work ≤ work
    pub keys_after : Keys
    pub after : flat.State
    pub reached : Reached (map_of c) c.layout.program u pc v xs place after (60 * length ps + 84 * (work - z.work))
    pub stands : IsFor (views c) keys_after IsGood (record z { objects = objects; accesses = accesses; work = work }) after
    pub goes : GoesOn (views c) keys keys_after z.objects objects v.memory after.memory
    pub behind : (b : ℕ) → region_start (map_of c) StructureValues ≤ b → after.memory b ≡ v.memory b
    pub count : length objects ≡ length z.objects
    pub live : (o : ℕ) → (object_at objects o).is_live ≡ (object_at z.objects o).is_live
    pub turns : after.turns ≡ v.turns
    pub others : (r : ℕ) → r < first_free code → after.values r ≡ v.values r

  abbrev list : (variable : ℕ) → List Variable → List FlatInstruction
  list x ps = store_parameters c.layout.expansion.inline c.layout.expansion.code code x ps

  -- ---- a parameter that is no object

  module _ (p : Variable) (ps : List Variable) (x n : ℕ) (arguments : List Rvalue) (pc : ℕ) (keys : Keys) (z : State)
      (v : flat.State) (h : AreToStore (p ∷ ps) x n arguments keys z v) where
    argument_behind : (j : ℕ) → get_or arguments (suc j) (rvalue (integer 0))
        ≡ get_or (rest_of arguments) j (rvalue (integer 0))
    argument_behind j = sym (rest_at arguments j)

    next_place : (j : ℕ) → x + suc j ≡ suc x + j
    next_place j = omega arith

    -- the others, where the first is passed
    others_at : (b : Bool) → p.is_object ≡ b → (keys' : Keys) (z' : State) (v' : flat.State) → IsOfWords v'
        → IsFor (views c) keys' IsGood z' v' → GoesOn (views c) keys keys' z.objects z'.objects v.memory v'.memory
        → ((o : ℕ) → (object_at z'.objects o).is_live ≡ (object_at z.objects o).is_live)
        → ((r : ℕ) → r < first_free code → v'.values r ≡ v.values r)
        → AreToStore ps (suc x) (if b then n + 1 else n) (rest_of arguments) keys' z' v'
    others_at b is keys' z' v' words stands goes live others = record {
      words = words;
      stands = stands;
      homes = homes_on (views c) keys keys' z.objects z'.objects v.memory v'.memory goes code frame v.values v'.values
          (λ y o home is_live held. live o ∙ is_live) (λ r from to. others r (omega arith)) h.homes;
      taken = (and_parts (is_handed_over p.kind) (are_handed_over ps) h.taken).1;
      sized = h.sized.1;
      placed = λ j o home.
          ap (λ i. get_or frame i NoObject) (sym (next_place j))
          ∙ h.placed (suc j) o (ap (λ i. get_or (homes_from (ps ++ rest) (if i then n + 1 else n)) j NoObject) is ∙ home);
      numbers = λ j lt. ap (at_number (all_variables code)) (sym (next_place j)) ∙ h.numbers (suc j) (omega arith);
      low = λ j lt.
          subst (λ i. variable_register code i + words_at ps j ≤ variables_end code) (next_place j) (h.low (suc j) (omega arith));
      held = λ j lt.
          (let kind = get_or (map (λ (q : Variable). q.kind) ps) j Void in
          let low = h.low (suc j) (omega arith) in
          let words = words_by_kind ps j lt in
          subst (λ i. IsArgument (world c keys' z' v') kind (get_or (rest_of arguments) j (rvalue (integer 0)))
          (variable_register code i) v'.values) (next_place j)
          (subst (λ (a : Rvalue). IsArgument (world c keys' z' v') kind a (variable_register code (x + suc j)) v'.values)
          (argument_behind j)
          (argument_on (views c) keys keys' z.objects z'.objects v.memory v'.memory goes kind
          (get_or arguments (suc j) (rvalue (integer 0))) (variable_register code (x + suc j)) v.values v'.values
          (λ i few. others (variable_register code (x + suc j) + i) (omega (arith, low, words, few)))
          (h.held (suc j) (omega arith)))));
    }

    list_by : (b : Bool) → p.is_object ≡ b
        → (if b then store_parameter c.layout.expansion.inline c.layout.expansion.code code p.kind x else [])
        ++ store_parameters c.layout.expansion.inline c.layout.expansion.code code (suc x) ps
        ≡ store_parameters c.layout.expansion.inline c.layout.expansion.code code x (p ∷ ps)
    list_by b is = ap (λ b. (if b then store_parameter c.layout.expansion.inline c.layout.expansion.code code p.kind x
        else []) ++ list (suc x) ps) (sym is)

    skips : p.is_object ≡ false
        → AreStored ps n (rest_of arguments) pc keys z v (pc + length (list (suc x) ps))
        → AreStored (p ∷ ps) n arguments pc keys z v (pc + length (list x (p ∷ ps)))
    skips e r =
        let k = r.reached in
        let few = k.few in
        let reached : Reached (map_of c) c.layout.program u pc v xs (pc + length (list (suc x) ps)) r.after
        (60 * length (p ∷ ps) + 84 * (r.work - z.work)) =
        record { steps = k.steps; comes = k.comes; few = omega arith } in
        record {
          objects = r.objects;
          accesses = r.accesses;
          work = r.work;
          is = ap (λ b. on (write_parameter p.kind (if b then InObject n else NoObject) line (first_of arguments) z)
              (λ _. write_parameters ps (homes_from (ps ++ rest) (if b then n + 1 else n)) line (rest_of arguments))) e
              ∙ r.is;
          more = r.more;
          keys_after = r.keys_after;
          after = r.after;
          reached = subst (λ l. Reached (map_of c) c.layout.program u pc v xs (pc + length l) r.after
              (60 * length (p ∷ ps) + 84 * (r.work - z.work))) (list_by false e) reached;
          stands = r.stands;
          goes = r.goes;
          behind = r.behind;
          count = r.count;
          live = r.live;
          turns = r.turns;
          others = r.others;
        }

    -- ---- one that is

    -- it is stored by a list
    record IsStoredOne (stores : List FlatInstruction) : Type 0 where
      objects : Objects
      accesses : List Access
      work : ℕ
      is : write_parameter p.kind (InObject n) line (first_of arguments) z
          ≡ Gives tt (record z { objects = objects; accesses = accesses; work = work })
      more : z.work ≤ work
      keys_after : Keys
      after : flat.State
      words : IsOfWords after
      reached : Reached (map_of c) c.layout.program u pc v xs (pc + length stores) after (60 + 84 * (work - z.work))
      stands : IsFor (views c) keys_after IsGood (record z { objects = objects; accesses = accesses; work = work }) after
      goes : GoesOn (views c) keys keys_after z.objects objects v.memory after.memory
      behind : (b : ℕ) → region_start (map_of c) StructureValues ≤ b → after.memory b ≡ v.memory b
      count : length objects ≡ length z.objects
      live : (o : ℕ) → (object_at objects o).is_live ≡ (object_at z.objects o).is_live
      turns : after.turns ≡ v.turns
      others : (r : ℕ) → r < first_free code → after.values r ≡ v.values r

    -- and so are all behind it
    stored_then : p.is_object ≡ true → (stores : List FlatInstruction) → IsStoredOne stores
        → stores ++ store_parameters c.layout.expansion.inline c.layout.expansion.code code (suc x) ps
        ≡ store_parameters c.layout.expansion.inline c.layout.expansion.code code x (p ∷ ps)
        → ((pc' : ℕ) (keys' : Keys) (z' : State) (v' : flat.State)
        → HasAt (body_of (function_in c.layout.program u)) pc'
        (store_parameters c.layout.expansion.inline c.layout.expansion.code code (suc x) ps)
        → AreToStore ps (suc x) (n + 1) (rest_of arguments) keys' z' v'
        → AreStored ps (n + 1) (rest_of arguments) pc' keys' z' v'
        (pc' + length (store_parameters c.layout.expansion.inline c.layout.expansion.code code (suc x) ps)))
        → HasAt (body_of (function_in c.layout.program u)) pc
        (store_parameters c.layout.expansion.inline c.layout.expansion.code code x (p ∷ ps))
        → AreStored (p ∷ ps) n arguments pc keys z v
        (pc + length (store_parameters c.layout.expansion.inline c.layout.expansion.code code x (p ∷ ps)))
    stored_then e stores l list_is again has =
        let m = map_of c in
        let body = body_of (function_in c.layout.program u) in
        let both = subst (HasAt body pc) (sym list_is) has in
        let behind : State = record z { objects = l.objects; accesses = l.accesses; work = l.work } in
        let r = again (pc + length stores) l.keys_after behind l.after (has_back body pc stores (list (suc x) ps) both)
        (others_at true e l.keys_after behind l.after l.words l.stands l.goes l.live l.others) in
        let more = reached_then m c.layout.program u xs pc (pc + length stores)
        (pc + length stores + length (list (suc x) ps)) v l.after r.after
        (60 + 84 * (l.work - z.work)) (60 * length ps + 84 * (r.work - l.work)) l.reached r.reached in
        let fewer = more.few in
        let l_more = l.more in
        let r_more = r.more in
        let longer = l.goes.continues.longer in
        let len : pc + length stores + length (list (suc x) ps) ≡ pc + length (list x (p ∷ ps)) =
        (let a = ap length list_is in let b = length-append stores (list (suc x) ps) in omega arith) in
        let reached : Reached m c.layout.program u pc v xs (pc + length stores + length (list (suc x) ps)) r.after
        (60 * length (p ∷ ps) + 84 * (r.work - z.work)) =
        record { steps = more.steps; comes = more.comes; few = omega arith } in
        record {
          objects = r.objects;
          accesses = r.accesses;
          work = r.work;
          is = ap (λ b. on (write_parameter p.kind (if b then InObject n else NoObject) line (first_of arguments) z)
              (λ _. write_parameters ps (homes_from (ps ++ rest) (if b then n + 1 else n)) line (rest_of arguments))) e
              ∙ ap (λ o. on o
              (λ _. write_parameters ps (homes_from (ps ++ rest) (n + 1)) line (rest_of arguments))) l.is
              ∙ r.is;
          more = omega (arith, l_more, r_more);
          keys_after = r.keys_after;
          after = r.after;
          reached = subst (λ q. Reached m c.layout.program u pc v xs q r.after
              (60 * length (p ∷ ps) + 84 * (r.work - z.work))) len reached;
          stands = r.stands;
          goes = record {
            held = record {
              own = λ o lt. r.goes.held.own o (omega arith) ∙ l.goes.held.own o lt;
              held = λ o lt. r.goes.held.held o (omega arith) ∙ l.goes.held.held o lt;
            };
            continues = continues_then z.objects l.objects r.objects l.goes.continues r.goes.continues;
            behind = λ b le lt. r.goes.behind b le lt ∙ l.goes.behind b le lt;
          };
          behind = λ b le. r.behind b le ∙ l.behind b le;
          count = r.count ∙ l.count;
          live = λ o. r.live o ∙ l.live o;
          turns = r.turns ∙ l.turns;
          others = λ i lt. r.others i lt ∙ l.others i lt;
        }

    module _ (e : p.is_object ≡ true) where
      abbrev H : ℕ
      H = home_register code x

      abbrev R : ℕ
      R = variable_register code x

      abbrev value : Rvalue
      value = first_of arguments

      here : x + 0 ≡ x
      here = omega arith

      home : get_or frame x NoObject ≡ InObject n
      home = ap (λ i. get_or frame i NoObject) (sym here)
          ∙ h.placed 0 n (ap (λ b. if b then InObject n else NoObject) e)

      object : is_object_in (all_variables code) x ≡ true
      object = h.homes.declared x n home

      size_is : (object_at z.objects n).size ≡ size_of_kind p.kind
      size_is = h.homes.sizes x n home
          ∙ ap (λ (d : Variable). size_of_kind d.kind) (ap (at_number (all_variables code)) (sym here)
          ∙ h.numbers 0 (omega arith))

      direct : (size : ℕ) → size_of_kind p.kind ≡ size → IsDirect z.objects (pointer_to n z.objects) size
      direct size is = pointer_direct n size z.objects (h.homes.homes x n home).live (size_is ∙ is)

      address_is : v.values (home_register code x) ≡ (pointer_to n z.objects).word
      address_is =
          home_address (world c keys z v) n H v.values (h.homes.homes x n home) ∙ sym (pointer_word n z.objects)

      argument : IsArgument (world c keys z v) p.kind (first_of arguments) (variable_register code x) v.values
      argument =
          subst (λ i. IsArgument (world c keys z v) p.kind (first_of arguments) (variable_register code i) v.values) here
          (subst (λ (a : Rvalue). IsArgument (world c keys z v) p.kind a (variable_register code (x + 0)) v.values)
          (sym (first_is arguments)) (h.held 0 (omega arith)))

      low : variable_register code x + parameter_words p ≤ variables_end code
      low = subst (λ i. variable_register code i + parameter_words p ≤ variables_end code) here (h.low 0 (omega arith))

      -- a scalar
      scalar_one : (k : Scalar) → p.kind ≡ OfScalar k → HasAt (body_of (function_in c.layout.program u)) pc
          (c.layout.expansion.inline.store (home_register code x) (held_scalar k (variable_register code x))
          (first_free code))
          → IsStoredOne (c.layout.expansion.inline.store (home_register code x) (held_scalar k (variable_register code x))
          (first_free code))
      scalar_one k kind has =
          let at_home = home_low code x object in
          let inside = low in
          let words : parameter_words p ≡ count_in k = passed_words k kind in
          let word = some_in (is_pointer_type k) in
          let d = direct (scalar_size k) (ap size_of_kind kind) in
          let held = plain_argument (world c keys z v) p.kind k value R v.values kind argument in
          let ran = store_passes c IsGood right u code there xs k H R (first_free code) (omega arith) (omega arith) pc v
          has h.words keys z (pointer_to n z.objects) value.value h.stands address_is held.value d in
          let l = ran.holds in
          let y = ran.after in
          let place = place_in z.objects d.object (pointer_to n z.objects).word in
          let behind = behind_write k (pointer_to n z.objects) place value.value z in
          let keeps = keeps_value k value.value place z.objects in
          let few = cheap k in
          let reached = ran.reached in
          let less = reached.few in
          record {
            objects = behind.objects;
            accesses = behind.accesses;
            work = z.work;
            is = written p.kind k n line value z kind d;
            more = omega arith;
            keys_after = l.keys;
            after = y;
            words = ran.words;
            reached = record { steps = reached.steps; comes = reached.comes; few = omega arith };
            stands = l.stands;
            goes = record {
              held = l.held;
              continues = continues_value k value.value place z.objects;
              behind = λ b le lt. l.elsewhere.behind b le;
            };
            behind = λ b le. l.elsewhere.behind b le;
            count = keeps.count;
            live = λ o. (keeps.at o).live;
            turns = l.turns;
            others = λ i lt. l.others i lt tt;
          }
        where
          cheap : (k : Scalar) → 2 * store_steps (held_scalar k (variable_register code x)) ≤ 60
          cheap (Integer t) = omega arith
          cheap Pointer = omega arith

          passed_words : (k : Scalar) → p.kind ≡ OfScalar k → parameter_words p ≡ count_in k
          passed_words (Integer t) is = ap (λ q. register_count (passed_as q)) is
          passed_words Pointer is = ap (λ q. register_count (passed_as q)) is

      -- a structure
      structure_one : (size : ℕ) → p.kind ≡ Structure size → HasAt (body_of (function_in c.layout.program u)) pc
          (store_structure_code c.layout.expansion.inline.operators (runtime_number c.layout.expansion.code) size
          (home_register code x) (variable_register code x) (first_free code))
          → IsStoredOne (store_structure_code c.layout.expansion.inline.operators
          (runtime_number c.layout.expansion.code) size (home_register code x) (variable_register code x)
          (first_free code))
      structure_one size kind has =
          let at_home = home_low code x object in
          let inside = low in
          let words : parameter_words p ≡ 5 = ap (λ q. register_count (passed_as q)) kind in
          let sizes : size_of_kind p.kind ≡ size = ap size_of_kind kind in
          let some = h.sized.0 e in
          let d = direct size sizes in
          let a = structure_argument (world c keys z v) p.kind size value R v.values kind argument in
          let place = place_in z.objects d.object (pointer_to n z.objects).word in
          let l = structure_stored c IsGood right u code there xs fits room size (pointer_to n z.objects) value.value
          a.contents a.area H R (first_free code) pc keys z v (h.words, waiting) h.stands address_is d (omega arith)
          (omega arith) a.held a.all a.exact has in
          let keeps = keeps_put size place value.value.word a.contents z.objects in
          let reached = l.reached in
          let less = reached.few in
          record {
            objects = put_range size place value.value.word a.contents z.objects;
            accesses = z.accesses;
            work = z.work + size;
            is = put_written p.kind size n line value a.contents z kind a.is d;
            more = omega arith;
            keys_after = l.keys_after;
            after = l.after;
            words = (subst HasWords reached.comes (words_kept (map_of c) c.layout.program reached.steps
                (flat.Stands u pc v xs) (h.words, waiting))).0;
            reached = record { steps = reached.steps; comes = reached.comes; few = omega arith };
            stands = l.stands_after;
            goes = record {
              held = l.kept;
              continues = continues_put size place value.value.word a.contents z.objects;
              behind = λ b le lt. l.beside b le;
            };
            behind = l.beside;
            count = keeps.count;
            live = λ o. (keeps.at o).live;
            turns = l.turns;
            others = l.others;
          }

    module _ (e : p.is_object ≡ true)
        (again : (pc' : ℕ) (keys' : Keys) (z' : State) (v' : flat.State)
        → HasAt (body_of (function_in c.layout.program u)) pc'
        (store_parameters c.layout.expansion.inline c.layout.expansion.code code (suc x) ps)
        → AreToStore ps (suc x) (n + 1) (rest_of arguments) keys' z' v'
        → AreStored ps (n + 1) (rest_of arguments) pc' keys' z' v'
        (pc' + length (store_parameters c.layout.expansion.inline c.layout.expansion.code code (suc x) ps)))
        (has : HasAt (body_of (function_in c.layout.program u)) pc
        (store_parameters c.layout.expansion.inline c.layout.expansion.code code x (p ∷ ps))) where
      -- by a list that a kind has
      by_list : (kind : Kind) → p.kind ≡ kind
          → (HasAt (body_of (function_in c.layout.program u)) pc
          (store_parameter c.layout.expansion.inline c.layout.expansion.code code kind x)
          → IsStoredOne (store_parameter c.layout.expansion.inline c.layout.expansion.code code kind x))
          → AreStored (p ∷ ps) n arguments pc keys z v
          (pc + length (store_parameters c.layout.expansion.inline c.layout.expansion.code code x (p ∷ ps)))
      by_list kind is one =
          let stores = store_parameter c.layout.expansion.inline c.layout.expansion.code code kind x in
          let list_is : stores ++ list (suc x) ps ≡ list x (p ∷ ps) =
          ap (λ i. store_parameter c.layout.expansion.inline c.layout.expansion.code code i x ++ list (suc x) ps) (sym is)
          ∙ list_by true e in
          stored_then e stores
          (one (has_front (body_of (function_in c.layout.program u)) pc stores (list (suc x) ps)
          (subst (HasAt (body_of (function_in c.layout.program u)) pc) (sym list_is) has))) list_is again has

      one_stored : (kind : Kind) → p.kind ≡ kind → is_handed_over kind ≡ true → 1 ≤ size_of_kind kind
          → AreStored (p ∷ ps) n arguments pc keys z v
          (pc + length (store_parameters c.layout.expansion.inline c.layout.expansion.code code x (p ∷ ps)))
      one_stored Void is f some = absurd (omega arith)
      one_stored (OfScalar k) is f some = by_list (OfScalar k) is (λ has. scalar_one e k is has)
      one_stored (Structure size) is f some = by_list (Structure size) is (λ has. structure_one e size is has)
      one_stored (Array size) is f some = cc

  -- ---- all of them

  pub parameters_stored : (ps : List Variable) (x n : ℕ) (arguments : List Rvalue) (pc : ℕ) (keys : Keys) (z : State)
      (v : flat.State)
      → HasAt (body_of (function_in c.layout.program u)) pc
      (store_parameters c.layout.expansion.inline c.layout.expansion.code code x ps)
      → AreToStore ps x n arguments keys z v
      → AreStored ps n arguments pc keys z v
      (pc + length (store_parameters c.layout.expansion.inline c.layout.expansion.code code x ps))
  parameters_stored [] x n arguments pc keys z v has h =
      let place : pc ≡ pc + 0 = omega arith in
      let none : 0 ≡ 60 * 0 + 84 * (z.work - z.work) = omega arith in
      record {
        objects = z.objects;
        accesses = z.accesses;
        work = z.work;
        is = refl;
        more = omega arith;
        keys_after = keys;
        after = v;
        reached = subst (λ w. Reached (map_of c) c.layout.program u pc v xs (pc + 0) v w) none
            (subst (λ q. Reached (map_of c) c.layout.program u pc v xs q v 0) place
            (reached_here (map_of c) c.layout.program u xs pc v));
        stands = h.stands;
        goes = same_world (views c) keys z.objects v.memory;
        behind = λ b le. refl;
        count = refl;
        live = λ o. refl;
        turns = refl;
        others = λ r lt. refl;
      }
  parameters_stored (p ∷ ps) x n arguments pc keys z v has h =
      by (λ i q k y w has g. parameters_stored ps (suc x) i (rest_of arguments) q k y w has g) p.is_object refl
    where
      by : ((i q : ℕ) (k : Keys) (y : State) (w : flat.State)
          → HasAt (body_of (function_in c.layout.program u)) q (list (suc x) ps)
          → AreToStore ps (suc x) i (rest_of arguments) k y w
          → AreStored ps i (rest_of arguments) q k y w (q + length (list (suc x) ps)))
          → (b : Bool) → p.is_object ≡ b
          → AreStored (p ∷ ps) n arguments pc keys z v (pc + length (list x (p ∷ ps)))
      by again false e =
          let has_rest = subst (HasAt (body_of (function_in c.layout.program u)) pc)
          (sym (list_by p ps x n arguments pc keys z v h false e)) has in
          skips p ps x n arguments pc keys z v h e
          (again n pc keys z v has_rest
          (others_at p ps x n arguments pc keys z v h false e keys z v h.words h.stands
          (same_world (views c) keys z.objects v.memory) (λ o. refl) (λ r lt. refl)))
      by again true e =
          one_stored p ps x n arguments pc keys z v h e (λ q k y w has g. again (n + 1) q k y w has g) has p.kind refl
          (and_parts (is_handed_over p.kind) (are_handed_over ps) h.taken).0 (h.sized.0 e)
