-- Calls keep objects sound: those of the callee are new, and die at its return, and the caller's names are good again.
use Rattle.source_meaning.specs.Good.{IsSetUp, PlaceIs, SetsUpBy, function_count, After, Any, AreLow, AreTyped}
use Rattle.source_meaning.specs.Good.{ArgumentIs, ArgumentsAre, CompletionIs, Context, Inside, IsGood, IsHeld, IsTagged}
use Rattle.source_meaning.specs.Good.{Leaves, OnName, Sure, signature_in}
use Rattle.std.proofs.Common.{◌≡◌, ℕ, zero, suc, ◌+◌, ◌≤◌, List, [], ◌∷◌, ◌++◌, map, Bool, true, false, length}
use Rattle.std.proofs.Common.{if◌then◌else◌, refl, sym, ap, ◌∙◌, subst, nat_le, nat_lt}
use Rattle.std.proofs.lemmas.Bool.{leb-true}
use Rattle.sb_base.specs.declared.ending.Ending.TheVariants.{Stack, Keys}
use Rattle.obj_memory.specs.declared.value.Value.{Value}
use Rattle.obj_memory.specs.Objects.{Objects, pointer_to}
use Rattle.obj_memory.specs.Sound.{IsSound, AreDisjoint}
use Rattle.obj_memory.proofs.Judging.{sound_pointer}
use Rattle.c_tree.specs.declared.expression.Kind.{Kind}
use Rattle.c_tree.specs.declared.program.Variable.{Variable}
use Rattle.c_tree.specs.Programs.{Function}
use Rattle.source_meaning.specs.State.{Home}
use Rattle.source_meaning.specs.State.{NoObject, InObject}
use Rattle.source_meaning.specs.Statements.{Completion}
use Rattle.source_meaning.specs.Statements.{Normal, Broken, Continued, Returned}
use Rattle.source_meaning.specs.State.{State, Rvalue, Outcome, Gives, Ended, Paused, on, ◌>>=◌, ◌>>◌, done, stop}
use Rattle.source_meaning.specs.State.{choose, change, skip, Header, Setting, Env}
use Rattle.addr_map.specs.Places.{MapSizes, AreMapped}
use Rattle.c_tree.specs.Valid.{Scope}
use Rattle.source_meaning.specs.Places.{stack_end}
use Rattle.source_meaning.specs.Actions.{integer, home_value, take_key}
use Rattle.source_meaning.specs.Structures.{contents_size, make_zero}
use Rattle.source_meaning.specs.Expressions.{counted}
use Rattle.source_meaning.specs.Statements.{in_order, each_of}
use Rattle.source_meaning.specs.Calls.{header_of, body_objects, call_tests, parameter_values, plain_values, plain_count}
use Rattle.source_meaning.specs.Calls.{parameter_count, write_parameter, write_parameters, lay_out, set_up, caller}
use Rattle.source_meaning.specs.Calls.{back_to, returned_by, result_of, enter_begun, enter}
use Rattle.source_meaning.specs.Blocks.{pass_or_stop, objects_end, has_objects, place_variables, without_homes}
use Rattle.source_meaning.specs.Blocks.{test_space, test_keys}
use Rattle.source_meaning.proofs.Naming.{ProgramNames, FunctionNames, kinds_in, scope_of}
use Rattle.source_meaning.specs.Keeping.{AreTagged, AllLie, ArePlaced, IsKept, LivesOn, AreSeparate}
use Rattle.source_meaning.proofs.ActionsAct.{continues_without}
use Rattle.source_meaning.proofs.Separating.{separate_without, separate_back}
use Rattle.source_meaning.proofs.Holding.{all_lie_on, lives_same, lives_then, held_on, held_named}
use Rattle.source_meaning.proofs.Sure.{stops_then, IsStable, sure_on, sure_weak, sure_any, sure_post, sure_frame}
use Rattle.source_meaning.proofs.Sure.{sure_done, sure_skip, sure_read, sure_counted, argument_on, argument_value}
use Rattle.source_meaning.proofs.Sure.{stable_tagged, stable_arguments}
use Rattle.source_meaning.proofs.SureStructures.{sure_write_rvalue, zero_argument}
use Rattle.source_meaning.proofs.SureFlow.{sure_begin_turn, row_sure}
use Rattle.c_tree.specs.Blocks.{all_of, block_variables, body_variables}
use Rattle.source_meaning.proofs.Typing.{entered_as, values_there, values_typed}
use Rattle.source_meaning.proofs.Laying.{low_word, within_stack, PlacedHome, Placed, placed_homes, placed_on}
use Rattle.source_meaning.proofs.Laying.{placed_from, without_sound, without_low, without_lives, ends_but_then}
use Rattle.source_meaning.proofs.Laying.{ends_without, PlacesBy, places}
use Rattle.source_meaning.specs.Good.{AllFrom, EndsBut}

-- plain values at entry

one_tagged : (functions : ℕ) (b : Bool) (v : Value) (o : Objects) → IsTagged functions v o
    → IsTagged functions (if b then integer 0 else v) o
one_tagged functions true v o h = tt
one_tagged functions false v o h = h

parameters_tagged : (functions : ℕ) (ps : List Variable) (vs : List Rvalue) (o : Objects)
    → ArgumentsAre functions (kinds_in ps) vs o → AreTagged functions (parameter_values ps vs) o
parameters_tagged functions [] vs o h x = tt
parameters_tagged functions (p ∷ ps) [] o h x = absurd h
parameters_tagged functions (p ∷ ps) (v ∷ vs) o h zero = one_tagged _ p.is_object v.value o h.0.tag
parameters_tagged functions (p ∷ ps) (v ∷ vs) o h (suc x) = parameters_tagged _ ps vs o h.1 x

zeros_tagged : (functions : ℕ) (vs : List Variable) (o : Objects) → AreTagged functions (map (λ _. integer 0) vs) o
zeros_tagged functions [] o x = tt
zeros_tagged functions (v ∷ vs) o zero = tt
zeros_tagged functions (v ∷ vs) o (suc x) = zeros_tagged _ vs o x

both_tagged : (functions : ℕ) (us vs : List Value) (o : Objects) → AreTagged functions us o → AreTagged functions vs o
    → AreTagged functions (us ++ vs) o
both_tagged functions [] vs o h g x = g x
both_tagged functions (u ∷ us) vs o h g zero = h 0
both_tagged functions (u ∷ us) vs o h g (suc x) = both_tagged _ us vs o (λ y. h (suc y)) g x

-- the tests

abbrev Untouched : State → State → Type 0
Untouched s s' = (s'.objects ≡ s.objects) × (s'.accesses ≡ s.accesses) × (s'.stacked ≡ s.stacked) × (s'.plain ≡ s.plain)

abbrev TestsBy : (bound : ℕ) → List Variable → State → Outcome (Unit {0}) → Type 0
TestsBy bound vs s (Gives a s') = Untouched s s' × (objects_end vs s'.stacked ≤ bound)
TestsBy bound vs s (Ended e s') = Untouched s s'
TestsBy bound vs s (Paused s') = ⊥

module _ (g : Setting) (h : Header) (line : ℕ) where
  key_passes : (s : State) → objects_end (body_objects h) s.stacked ≤ stack_end g → (b : Bool)
      → TestsBy (stack_end g) (body_objects h) s
      (choose b (change (λ s. record s { keys = s.keys + 1 })) (stop (Keys line)) s)
  key_passes s fits true = ((refl, refl, refl, refl), fits)
  key_passes s fits false = (refl, refl, refl, refl)

  keys_pass : (s : State) → objects_end (body_objects h) s.stacked ≤ stack_end g → (b : Bool)
      → TestsBy (stack_end g) (body_objects h) s (choose b (take_key g line) skip s)
  keys_pass s fits true = key_passes s fits (nat_lt s.keys g.sizes.budgets.keys)
  keys_pass s fits false = ((refl, refl, refl, refl), fits)

  stack_passes : (s : State) (b : Bool) → nat_le (objects_end (body_objects h) s.stacked) (stack_end g) ≡ b
      → TestsBy (stack_end g) (body_objects h) s
      (on (pass_or_stop b (Stack line) s) (λ _ s. test_keys g (body_objects h) line s))
  stack_passes s true e = keys_pass s (leb-true _ _ e) (has_objects (body_objects h))
  stack_passes s false e = (refl, refl, refl, refl)

  charge_passes : (s : State) (b : Bool)
      → TestsBy (stack_end g) (body_objects h) s
      (on (pass_or_stop b (Stack line) s)
      (λ _ s. (test_space g (body_objects h) line >> test_keys g (body_objects h) line) s))
  charge_passes s true = stack_passes s (nat_le (objects_end (body_objects h) s.stacked) (stack_end g)) refl
  charge_passes s false = (refl, refl, refl, refl)

  tests_pass : (s : State) → TestsBy (stack_end g) (body_objects h) s (call_tests g h line s)
  tests_pass s = charge_passes s (nat_le (s.charged + h.room) g.sizes.budgets.calls)

-- parameters that are objects

held_home : (n : ℕ) (b : Bool) (kind : Kind) (k : ℕ) (o : Objects) → PlacedHome n b kind (InObject k) o
    → IsHeld o k kind
held_home n true kind k o p = p.1
held_home n false kind k o p = absurd p

held_place : (functions : ℕ) (k : ℕ) (kind : Kind) (o : Objects) → AreLow o → IsHeld o k kind
    → PlaceIs functions OnName kind (pointer_to k o) o
held_place functions k kind o low h = (sound_pointer _ k o h.made (low_word o k low), held_named o k kind h)

stable_rest : (functions : ℕ) (n : ℕ) (rest ps : List Variable) (homes : List Home) (vs : List Rvalue)
    → IsStable (λ o. Placed n (ps ++ rest) homes o × ArgumentsAre functions (kinds_in ps) vs o)
stable_rest functions n rest ps homes vs old new l p =
    (placed_on n (ps ++ rest) homes old new l p.0, stable_arguments _ (kinds_in ps) vs old new l p.1)

module _ {sc : Context} (n : ℕ) (rest : List Variable) where
  parameter_sure : (b : Bool) (kind : Kind) (home : Home) (line : ℕ) (v : Rvalue)
      → Sure sc (λ o. PlacedHome n b kind home o × ArgumentIs (function_count sc) kind v o)
      (write_parameter kind home line v) (λ _. Any)
  parameter_sure b kind NoObject line v = sure_done (λ o p. tt)
  parameter_sure b kind (InObject k) line v =
      sure_on (sure_read {Q = λ q o. PlaceIs (function_count sc) OnName kind q o
      × ArgumentIs (function_count sc) kind v o} {f = λ s. home_value (InObject k) s.objects}
      (λ s good p. (held_place _ k kind s.objects good.low (held_home n b kind k s.objects p.0), p.1))) (λ q.
      sure_on (sure_weak (λ o x. (x.0, argument_value _ kind v o x.1)) (sure_write_rvalue OnName kind q line v))
      (λ w. sure_any sure_skip))

  parameters_sure : (ps : List Variable) (homes : List Home) (line : ℕ) (vs : List Rvalue)
      → Sure sc (λ o. Placed n (ps ++ rest) homes o × ArgumentsAre (function_count sc) (kinds_in ps) vs o)
      (write_parameters ps homes line vs) (λ _. Any)
  parameters_sure [] homes line vs = sure_done (λ o p. tt)
  parameters_sure (p ∷ ps) [] line vs = sure_done (λ o p. tt)
  parameters_sure (p ∷ ps) (home ∷ homes) line [] = record { by = λ s good h. absurd h.1 }
  parameters_sure (p ∷ ps) (home ∷ homes) line (v ∷ vs) =
      sure_on (sure_post (λ _ o x. x.0) (sure_weak (λ o x. ((x.0.1, x.1.1), (x.0.0, x.1.0)))
      (sure_frame (stable_rest _ n rest ps homes vs) (parameter_sure p.is_object p.kind home line v)))) (λ _.
      parameters_sure ps homes line vs)

-- what is set up

-- the names of a caller are of the same program
abbrev pub calling_context : ProgramNames → (sizes : MapSizes) → Scope → Context
calling_context u sizes around = record
    { scope = record around { statics = u.statics; functions = u.functions }; sizes = sizes }

module _ (u : ProgramNames) (f : Function) (names : FunctionNames u f) (g : Setting) (sizes : MapSizes)
    (within : g.sizes ≡ sizes) (mapped : AreMapped sizes) where
  abbrev inner : Context
  inner = record { scope = scope_of u f; sizes = sizes }

  abbrev head : Header
  head = header_of f

  written : (s s1 : State) → LivesOn s.objects s1.objects → AllFrom (length s.objects) s1.frame
      → EndsBut s.objects s1.objects s1.frame → (o : Outcome (Unit {0})) → After inner s1 (λ _. Any) o
      → SetsUpBy inner s.objects o
  written s s1 l new ends (Gives a s2) h = record {
    good = h.0.good;
    lives = lives_then s.objects s1.objects s2.objects l h.0.lives;
    new = subst (λ x. AllFrom (length s.objects) x) (sym h.0.frame) new;
    ends = subst (λ x. EndsBut s.objects s2.objects x) (sym h.0.frame)
        (ends_but_then s.objects s1.objects s2.objects s1.frame ends h.0.lives.continues h.0.ended);
  }
  written s s1 l new ends (Ended e s2) h = stops_then s.objects s1.objects s2 l h
  written s s1 l new ends (Paused s2) h = stops_then s.objects s1.objects s2 l h

  module _ (around : Scope) (vs : List Rvalue) (line : ℕ) where
    abbrev outer : Context
    outer = calling_context u sizes around

    laid : (s : State) → IsGood outer s → ArgumentsAre (length u.functions) (kinds_in f.parameters) vs s.objects
        → (s1 : State) → s1.objects ≡ s.objects → s1.accesses ≡ s.accesses → s1.plain ≡ plain_values head vs
        → (o : Outcome (List Home)) → PlacesBy (length u.functions) sizes s1 (length s1.objects) (body_objects head) o
        → SetsUpBy inner s.objects
        (on o (λ homes. change (λ s. record s { frame = homes }) >> write_parameters head.parameters homes line vs))
    laid s good tagged s1 e a w (Gives homes s2) h =
        let lives = subst (λ o. LivesOn o s2.objects) e h.0.lives in
        let s3 : State = record s2 { frame = homes } in
        let placed = subst (λ n. Placed n (body_objects head) homes s2.objects) (ap length e) h.0.placed in
        let ends = subst (λ x. EndsBut x s2.objects homes) e h.0.ends in
        let entry : IsGood inner s3 = record {
          kept = record {
            sound = h.0.sound;
            lie = subst (λ x. AllLie s2.objects x) (sym (h.1 ∙ a))
                (all_lie_on s.objects s2.objects lives.continues s.accesses good.kept.lie);
          };
          low = h.0.low;
          statics = λ n kind k. held_on s.objects s2.objects lives n kind (good.statics n kind k);
          homes = placed_homes (length s.objects) (body_objects head) homes s2.objects placed;
          plain = subst (λ x. AreTagged (length u.functions) x s2.objects) (sym (h.2 ∙ w))
              (both_tagged _ (parameter_values head.parameters vs) (map (λ _. integer 0) head.variables) s2.objects
              (parameters_tagged _ head.parameters vs s2.objects
              (stable_arguments _ (kinds_in f.parameters) vs s.objects s2.objects lives tagged))
              (zeros_tagged _ head.variables s2.objects));
          typed = subst (AreTyped (length u.functions) inner.scope) (sym (h.2 ∙ w)) (record {
            there = values_there f.parameters f.variables vs;
            value = values_typed (length u.functions) f.parameters f.variables vs s.objects tagged;
            named = entered_as f.parameters f.variables (block_variables f.body);
          });
          separate = h.0.separate;
        } in
        written s s3 lives (placed_from (length s.objects) (body_objects head) homes s2.objects placed) ends
        (write_parameters head.parameters homes line vs s3)
        ((parameters_sure (length s.objects) head.entered head.parameters homes line vs).by s3 entry
        (placed, stable_arguments _ (kinds_in f.parameters) vs s.objects s2.objects lives tagged))
    laid s good tagged s1 e a w (Ended x s2) h = absurd h
    laid s good tagged s1 e a w (Paused s2) h = absurd h

    tested : (s : State) → IsGood outer s → ArgumentsAre (length u.functions) (kinds_in f.parameters) vs s.objects
        → (o : Outcome (Unit {0})) → TestsBy (stack_end g) (body_objects head) s o
        → SetsUpBy inner s.objects (on o (λ _. lay_out head vs line))
    tested s good tagged (Gives a s1) h =
        let s2 : State = record s1 {
          charged = s1.charged + head.room;
          work = s1.work
              + (parameter_count head.parameters + plain_count head.variables);
          plain = plain_values head vs;
        } in
        laid s good tagged s2 h.0.0 h.0.1 refl (place_variables (body_objects head) s2)
        (places (length u.functions) sizes mapped (body_objects head) s2
        (subst (IsSound (length u.functions)) (sym h.0.0) good.kept.sound) (subst AreLow (sym h.0.0) good.low)
        (subst (λ o. AreSeparate sizes s1.stacked o) (sym h.0.0)
        (subst (λ t. AreSeparate sizes t s.objects) (sym h.0.2) good.separate))
        (within_stack g sizes within (objects_end (body_objects head) s1.stacked) h.1))
    tested s good tagged (Ended x s1) h = record {
      kept = subst (λ o. IsKept (length u.functions) o s1.accesses) (sym h.0)
          (subst (λ a. IsKept (length u.functions) s.objects a) (sym h.1) good.kept);
      plain = subst (λ o. AreTagged (length u.functions) s1.plain o) (sym h.0)
          (subst (λ vs. AreTagged (length u.functions) vs s.objects) (sym h.3) good.plain);
      low = subst AreLow (sym h.0) good.low;
      lives = subst (LivesOn s.objects) (sym h.0) (lives_same s.objects);
      apart = subst AreDisjoint (sym h.0) good.separate.apart;
      placed = subst (ArePlaced sizes) (sym h.0) good.separate.placed;
    }
    tested s good tagged (Paused s1) h = absurd h

    pub set_up_by : (s : State) → IsGood outer s
        → ArgumentsAre (length u.functions) (kinds_in f.parameters) vs s.objects
        → SetsUpBy inner s.objects (set_up g head vs line s)
    set_up_by s good tagged =
        let s1 : State = record s { work = s.work + 1 } in
        tested s1 good tagged (call_tests g head line s1) (tests_pass g head line s1)

    -- the return

    abbrev given : Kind
    given = (signature_in u.types f.type_number).result

    back_good : (s : State) → IsGood outer s → (s2 : State) → IsGood inner s2 → LivesOn s.objects s2.objects
        → AllFrom (length s.objects) s2.frame → EndsBut s.objects s2.objects s2.frame
        → Leaves outer s (back_to (caller s) s2)
    back_good s good s2 after lives new ends =
        let c = continues_without s2.frame s2.objects in
        let l = without_lives s.objects s2.objects s2.frame lives new c in
        let ended = ends_without s.objects s2.objects s2.frame c ends in
        record {
          good = record {
            kept = record {
              sound = without_sound _ s2.frame s2.objects after.kept.sound;
              lie = all_lie_on s2.objects
                  (without_homes s2.frame s2.objects) c s2.accesses after.kept.lie;
            };
            low = without_low s2.frame s2.objects after.low;
            statics = λ n kind e. held_on s.objects (without_homes s2.frame s2.objects) l n kind
                (good.statics n kind e);
            homes = λ x kind e.
                let home = good.homes x kind e in
                record {
                  object = home.object;
                  home = home.home;
                  held = held_on s.objects
                      (without_homes s2.frame s2.objects) l home.object kind home.held;
                };
            plain = stable_tagged _ s.plain s.objects (without_homes s2.frame s2.objects) l good.plain;
            typed = good.typed;
            separate = separate_back sizes s.stacked s2.stacked s.objects (without_homes s2.frame s2.objects)
                good.separate (separate_without sizes s2.stacked s2.frame s2.objects after.separate) l.continues ended;
          };
          lives = l;
          frame = refl;
          ended = ended;
        }

    pub left_good : (s : State) → IsGood outer s → (s1 s2 : State) → IsSetUp inner s.objects s1 → Leaves inner s1 s2
        → Leaves outer s (back_to (caller s) s2)
    left_good s good s1 s2 up h =
        back_good s good s2 h.good (lives_then s.objects s1.objects s2.objects up.lives h.lives)
        (subst (λ x. AllFrom (length s.objects) x) (sym h.frame) up.new)
        (subst (λ x. EndsBut s.objects s2.objects x) (sym h.frame)
        (ends_but_then s.objects s1.objects s2.objects s1.frame up.ends h.lives.continues h.ended))

    -- where 0 is made, which is work
    zero_back : (s : State) → IsGood outer s → (s1 s2 : State) → IsSetUp inner s.objects s1 → Leaves inner s1 s2
        → After outer s (ArgumentIs (length u.functions) given)
        (on (make_zero given s2) (λ v. change (back_to (caller s)) >> done v))
    zero_back s good s1 s2 up h =
        let s3 : State = record s2 { work = s2.work + contents_size given } in (
          left_good s good s1 s3 up (record { good = h.good; lives = h.lives; frame = h.frame; ended = h.ended }),
          zero_argument _ given (without_homes s2.frame s2.objects),
        )

    given_back : (s : State) → IsGood outer s → (s1 s2 : State) → IsSetUp inner s.objects s1 → (completion : Completion)
        → Leaves inner s1 s2 → CompletionIs (length u.functions) given completion s2.objects
        → After outer s (ArgumentIs (length u.functions) given)
        (on (returned_by given completion s2) (λ v. change (back_to (caller s)) >> done v))
    given_back s good s1 s2 up Normal h is = zero_back s good s1 s2 up h
    given_back s good s1 s2 up Broken h is = zero_back s good s1 s2 up h
    given_back s good s1 s2 up Continued h is = zero_back s good s1 s2 up h
    given_back s good s1 s2 up (Returned v) h is = (
      left_good s good s1 s2 up h,
      argument_on _ given v s2.objects (without_homes s2.frame s2.objects) (continues_without s2.frame s2.objects) is,
    )

    returns_by : (s : State) → IsGood outer s → (s1 : State) → IsSetUp inner s.objects s1 → (o : Outcome Completion)
        → After inner s1 (CompletionIs (length u.functions) given) o
        → After outer s (ArgumentIs (length u.functions) given)
        (on o (λ completion. returned_by given completion >>= (λ v. change (back_to (caller s)) >> done v)))
    returns_by s good s1 up (Gives completion s2) h = given_back s good s1 s2 up completion h.0 h.1
    returns_by s good s1 up (Ended e s2) h = stops_then s.objects s1.objects s2 up.lives h
    returns_by s good s1 up (Paused s2) h = stops_then s.objects s1.objects s2 up.lives h

    module _ (env : Env) (i : Inside (scope_of u f) sizes (record env { variables = all_of f })) where
      abbrev here : Env
      here = record env { variables = all_of f }

      runs_by : (s : State) → IsGood outer s → (o : Outcome (Unit {0})) → SetsUpBy inner s.objects o
          → After outer s (ArgumentIs (length u.functions) given)
          (on o (λ _. counted (in_order (each_of here f.body))
          >>= (λ completion. returned_by given completion >>= (λ v. change (back_to (caller s)) >> done v))))
      runs_by s good (Gives a s1) h =
          returns_by s good s1 h (counted (in_order (each_of here f.body)) s1)
          ((sure_counted (row_sure i (f.parameters ++ body_variables f) f.body names.body)).by s1 h.good tt)
      runs_by s good (Ended e s1) h = h
      runs_by s good (Paused s1) h = h

module _ (u : ProgramNames) (f : Function) (names : FunctionNames u f) (env : Env) (sizes : MapSizes)
    (i : Inside (scope_of u f) sizes (record env { variables = all_of f }))
    (gives : result_of env.setting f.type_number ≡ (signature_in u.types f.type_number).result)
    (around : Scope) where
  abbrev calling : Context
  calling = calling_context u sizes around

  begun_by : (vs : List Rvalue) (line : ℕ) (s : State) → IsGood calling s
      → ArgumentsAre (length u.functions) (kinds_in f.parameters) vs s.objects
      → After calling s (ArgumentIs (length u.functions) (signature_in u.types f.type_number).result)
      (enter_begun (record env { variables = all_of f }) f vs line s)
  begun_by vs line s good args =
      subst (λ k. After calling s (ArgumentIs (length u.functions) (signature_in u.types f.type_number).result)
      (on (set_up env.setting (header_of f) vs line s)
      (λ _. counted (in_order (each_of (record env { variables = all_of f }) f.body))
      >>= (λ completion. returned_by k completion >>= (λ v. change (back_to (caller s)) >> done v))))) (sym gives)
      (runs_by u f names env.setting sizes i.at i.mapped around vs line env i s good
      (set_up env.setting (header_of f) vs line s)
      (set_up_by u f names env.setting sizes i.at i.mapped around vs line s good args))

  pub begun_sure : (vs : List Rvalue) (line : ℕ)
      → Sure calling (ArgumentsAre (length u.functions) (kinds_in f.parameters) vs)
      (enter_begun (record env { variables = all_of f }) f vs line)
      (ArgumentIs (length u.functions) (signature_in u.types f.type_number).result)
  begun_sure vs line = record { by = λ s good args. begun_by vs line s good args }

  pub enter_sure : (vs : List Rvalue) (line : ℕ)
      → Sure calling (ArgumentsAre (length u.functions) (kinds_in f.parameters) vs)
      (enter (record env { variables = all_of f }) f vs line)
      (ArgumentIs (length u.functions) (signature_in u.types f.type_number).result)
  enter_sure vs line = sure_on (sure_begin_turn env.limit) (λ _. begun_sure vs line)
