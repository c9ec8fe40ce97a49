-- A statement or an initializer that does not assign a plain variable leaves it as it was, and gives all homes back.
use Rattle.std.proofs.Common.{◌≡◌, ℕ, zero, suc, ◌+◌, List, [], ◌∷◌, map, length, Bool, true, false, ◌||◌, ◌==◌, Option}
use Rattle.std.proofs.Common.{Some, None, get_or, refl, ap, ◌∙◌}
use Rattle.sb_base.specs.declared.ending.Ending.{Ending}
use Rattle.sb_base.specs.declared.ending.Ending.TheVariants.{Stack}
use Rattle.obj_memory.specs.declared.value.Value.{Value}
use Rattle.obj_memory.specs.Judgement.{narrowed}
use Rattle.c_tree.specs.declared.program.Variable.{Variable}
use Rattle.c_tree.specs.declared.statement.CaseLabel.{CaseLabel}
use Rattle.c_tree.specs.Kinds.{size_of_kind}
use Rattle.c_tree.specs.Programs.{Function}
use Rattle.c_tree.specs.Tree.{Expression, kind_of, line_of}
use Rattle.c_tree.specs.Statements.{Content, value_content, literal_content, Part, Initializer, of_plain, of_object}
use Rattle.c_tree.specs.Statements.{DeclaredVariable, First, nothing, first_expression, first_declaration, Statement}
use Rattle.c_tree.specs.Statements.{expression_statement, empty, declaration, block, if_then, if_else, while_do}
use Rattle.c_tree.specs.Statements.{do_while, for, switch, break, continue, return, Statements, no_statements}
use Rattle.c_tree.specs.Statements.{statements, SwitchItems, no_items, items}
use Rattle.c_tree.specs.Blocks.{block_objects, block_variables, switch_variables, first_variables}
use Rattle.c_tree.specs.Walk.{assigns}
use Rattle.c_tree.specs.Assigning.{content_assigns, parts_assign, initializer_assigns, declared_assign, first_assigns}
use Rattle.c_tree.specs.Assigning.{if_assigns, statement_assigns, each_assigns, items_assign}
use Rattle.source_meaning.specs.State.{State, Rvalue, Home, Outcome, Gives, Ended, Paused, Run, on, ◌>>=◌, ◌>>◌, done}
use Rattle.source_meaning.specs.State.{pause, change, skip, Setting, Env}
use Rattle.source_meaning.specs.Actions.{integer, plain_value, home_pointer}
use Rattle.source_meaning.specs.Structures.{rvalue}
use Rattle.source_meaning.specs.Expressions.{evaluate}
use Rattle.source_meaning.specs.Initializers.{store_content, store_parts, initialize, initialize_all}
use Rattle.source_meaning.specs.Blocks.{pass_or_stop, place_object, place_variables, test_space, test_keys, has_objects}
use Rattle.source_meaning.specs.Blocks.{homes_over, Block, place_block, enter_block, leave_block, scoped}
use Rattle.source_meaning.specs.Statements.{Completion, Normal, Broken, Continued, Returned, next_after, in_order}
use Rattle.source_meaning.specs.Statements.{holds, perform, perform_first, after_body, turns, turns_before, LabeledRun}
use Rattle.source_meaning.specs.Statements.{run_labeled, is_case_of, is_default, labels_from, items_at, items_from}
use Rattle.source_meaning.specs.Statements.{labels_of, compared, or_default, run_items, after_switch, run_switch}
use Rattle.source_meaning.specs.Statements.{execute, each_of, items_of}
use Rattle.source_meaning.specs.Calls.{env_of}
use Rattle.source_meaning.specs.Staying.{KeptBy, Stays}
use Rattle.source_meaning.specs.Staying.{KeepsBy}
use Rattle.source_meaning.proofs.Local.{IsLocal, local_on, local_done, local_skip, local_stop, local_choose, local_read}
use Rattle.source_meaning.proofs.Local.{local_tally, local_changes, local_basic}
use Rattle.source_meaning.proofs.ActionsAct.{local_take_key, local_make_object, local_zero_variable, local_store_bytes}
use Rattle.source_meaning.proofs.ActionsAct.{local_write_rvalue, local_take_value}
use Rattle.source_meaning.proofs.Stays.{stays_on, stays_local, stays_done, stays_read, stays_counted, stays_choose}
use Rattle.source_meaning.proofs.Stays.{stays_set, neither, begin_stays, calls_stay, evaluate_stays}

-- blocks

local_pass : (b : Bool) (e : Ending) → IsLocal (pass_or_stop b e)
local_pass true e = local_skip
local_pass false e = local_stop

local_test_space : (g : Setting) (vs : List Variable) (line : ℕ) → IsLocal (test_space g vs line)
local_test_space g vs line = local_on (local_read {f = λ s. s.stacked} (λ k s. refl)) (λ top. local_pass _ (Stack line))

local_test_keys : (g : Setting) (vs : List Variable) (line : ℕ) → IsLocal (test_keys g vs line)
local_test_keys g vs line = local_choose (has_objects vs) (local_take_key g line) local_skip

local_place_object : (size : ℕ) → IsLocal (place_object size)
local_place_object size = search (local_basic, local_changes, local_make_object) depth 9

local_place_variables : (vs : List Variable) → IsLocal (place_variables vs)
local_place_variables [] = local_done
local_place_variables (v ∷ vs) =
    local_on (local_choose v.is_object (local_place_object (size_of_kind v.kind)) local_done)
    (λ home. local_on (local_place_variables vs) (λ homes. local_done))

module _ (y : ℕ) where
  -- a block is left with the homes from before it
  abbrev EnteredBy : State → Outcome Block → Type 0
  EnteredBy s (Gives b s') = (plain_value y s' ≡ plain_value y s) × (b.frame ≡ s.frame)
  EnteredBy s (Ended e s') = Unit {0}
  EnteredBy s (Paused s') = Unit {0}

  placed_by : (s : State) (frame : List Home) (top : ℕ) → frame ≡ s.frame → (o : Outcome (List Home)) → KeepsBy s o
      → EnteredBy s (on o (λ homes. change (λ z. record z { frame = homes_over frame homes })
      >> done (record { homes = homes; frame = frame; stacked = top })))
  placed_by s frame top e (Gives homes s') h = (ap (λ vs. get_or vs y (integer 0)) h.plain, e)
  placed_by s frame top e (Ended x s') h = tt
  placed_by s frame top e (Paused s') h = tt

  entered_from : (s s1 : State) (o : Outcome Block) → s1.plain ≡ s.plain → s1.frame ≡ s.frame → EnteredBy s1 o
      → EnteredBy s o
  entered_from s s1 (Gives b s') p f h = (h.0 ∙ ap (λ vs. get_or vs y (integer 0)) p, h.1 ∙ f)
  entered_from s s1 (Ended e s') p f h = tt
  entered_from s s1 (Paused s') p f h = tt

  placed_after : (vs : List Variable) (s : State) (o : Outcome (Unit {0})) → KeepsBy s o
      → EnteredBy s (on o (λ _. place_block vs))
  placed_after vs s (Gives a s1) h = entered_from s s1 (place_block vs s1) h.plain h.frame
      (placed_by s1 s1.frame s1.stacked refl (place_variables vs s1) ((local_place_variables vs).keeps s1))
  placed_after vs s (Ended e s1) h = tt
  placed_after vs s (Paused s1) h = tt

  tested_after : (g : Setting) (vs : List Variable) (line : ℕ) (s : State) (o : Outcome (Unit {0})) → KeepsBy s o
      → EnteredBy s (on o (λ _. test_keys g vs line >> place_block vs))
  tested_after g vs line s (Gives a s1) h = entered_from s s1 _ h.plain h.frame
      (placed_after vs s1 (test_keys g vs line s1) ((local_test_keys g vs line).keeps s1))
  tested_after g vs line s (Ended e s1) h = tt
  tested_after g vs line s (Paused s1) h = tt

  enters_by : (g : Setting) (vs : List Variable) (line : ℕ) (s : State) → EnteredBy s (enter_block g vs line s)
  enters_by g vs line s = tested_after g vs line s (test_space g vs line s) ((local_test_space g vs line).keeps s)

  left_by : (s : State) (b : Block) (s1 : State) → plain_value y s1 ≡ plain_value y s → b.frame ≡ s.frame
      → (o : Outcome Completion) → KeptBy y s1 o → KeptBy y s (on o (λ c. change (leave_block b) >> done c))
  left_by s b s1 p f (Gives c s2) h = record { plain = h.plain ∙ p; frame = f }
  left_by s b s1 p f (Ended e s2) h = tt
  left_by s b s1 p f (Paused s2) h = tt

  in_by : (s : State) (o : Outcome Block) (body : Run Completion) → EnteredBy s o → Stays y body
      → KeptBy y s (on o (λ b. body >>= (λ c. change (leave_block b) >> done c)))
  in_by s (Gives b s1) body h g = left_by s b s1 h.0 h.1 (body s1) (g.stays s1)
  in_by s (Ended e s1) body h g = tt
  in_by s (Paused s1) body h g = tt

  scoped_stays : (g : Setting) (vs : List Variable) (line : ℕ) {body : Run Completion} → Stays y body
      → Stays y (scoped g vs line body)
  scoped_stays g vs line {body = body} h =
      stays_choose (has_objects vs)
      (record { stays = λ s. in_by s (enter_block g vs line s) body (enters_by g vs line s) h }) h

  -- loops

  after_stays : (c : Completion) {rest : Run Completion} → Stays y rest → Stays y (after_body c rest)
  after_stays Normal h = h
  after_stays Broken h = stays_done
  after_stays Continued h = h
  after_stays (Returned v) h = stays_done

  next_stays : (c : Completion) {rest : Run Completion} → Stays y rest → Stays y (next_after c rest)
  next_stays Normal h = h
  next_stays Broken h = stays_done
  next_stays Continued h = stays_done
  next_stays (Returned v) h = stays_done

  pause_stays : {A : Type 0} → Stays y (pause {A = A})
  pause_stays = record { stays = λ s. tt }

  skip_stays : Stays y skip
  skip_stays = stays_local local_skip

  turns_stay : (limit : ℕ) {condition : Run Bool} {body : Run Completion} {step : Run (Unit {0})} → Stays y condition
      → Stays y body → Stays y step → (n : ℕ) → Stays y (turns n limit condition body step)
  turns_stay limit c b p zero = pause_stays
  turns_stay limit c b p (suc n) =
      stays_on c (λ again. stays_choose again
      (stays_on (begin_stays y limit)
      (λ _. stays_on b (λ x. after_stays x (stays_on p (λ _. turns_stay limit c b p n))))) stays_done)

  turns_before_stay : (limit : ℕ) {condition : Run Bool} {body : Run Completion} → Stays y condition → Stays y body
      → (n : ℕ) → Stays y (turns_before n limit condition body)
  turns_before_stay limit c b zero = pause_stays
  turns_before_stay limit c b (suc n) =
      stays_on (begin_stays y limit)
      (λ _. stays_on b (λ x. after_stays x
      (stays_on c (λ again. stays_choose again (turns_before_stay limit c b n) stays_done))))

  -- switch

  abbrev AllStay : List LabeledRun → Type 0
  AllStay [] = Unit {0}
  AllStay (i ∷ is) = Stays y i.run × AllStay is

  abbrev StayIfAny : Option (List LabeledRun) → Type 0
  StayIfAny None = Unit {0}
  StayIfAny (Some is) = AllStay is

  found_stays : (o : Option (List CaseLabel)) (i : LabeledRun) (is : List LabeledRun) (p : Option (List LabeledRun))
      → Stays y i.run → AllStay is → StayIfAny p → StayIfAny (items_at o i is p)
  found_stays None i is p h all q = q
  found_stays (Some ls) i is p h all q = (h, all)

  from_stays : (is_sought : CaseLabel → Bool) (is : List LabeledRun) → AllStay is → StayIfAny (items_from is_sought is)
  from_stays is_sought [] h = tt
  from_stays is_sought (i ∷ is) h = found_stays (labels_from is_sought i.labels) i is (items_from is_sought is) h.0 h.1
      (from_stays is_sought is h.1)

  default_stays : (p : Option (List LabeledRun)) → StayIfAny p → (all : List LabeledRun) → AllStay all
      → StayIfAny (or_default p all)
  default_stays None q all h = from_stays is_default all h
  default_stays (Some is) q all h = q

  labeled_stay : (is : List LabeledRun) → AllStay is → Stays y (in_order (map run_labeled is))
  labeled_stay [] h = stays_done
  labeled_stay (i ∷ is) h = stays_on (stays_on (stays_local (local_tally (length i.labels))) (λ _. h.0))
      (λ x. next_stays x (labeled_stay is h.1))

  run_stays : (p : Option (List LabeledRun)) → StayIfAny p → Stays y (run_items p)
  run_stays None h = stays_done
  run_stays (Some is) h = labeled_stay is h

  switch_stays : (word : ℕ) (all : List LabeledRun) → AllStay all → Stays y (run_switch word all)
  switch_stays word all h =
      stays_on (stays_local (local_tally (compared word (labels_of all)))) (λ _.
      stays_on (run_stays (or_default (items_from (is_case_of word) all) all)
      (default_stays (items_from (is_case_of word) all) (from_stays (is_case_of word) all h) all h))
      (λ c. stays_done {a = after_switch c}))

-- statements

module _ (env : Env) (y : ℕ) (call_stays : (f : ℕ) (vs : List Rvalue) (line : ℕ) → Stays y (env.call f vs line)) where
  evaluated : (e : Expression) → assigns y e ≡ false → Stays y (evaluate env e)
  evaluated e h = evaluate_stays env y call_stays e h

  content_stays : (p : Value) (offset : ℕ) (c : Content) → content_assigns y c ≡ false
      → Stays y (store_content env p offset c)
  content_stays p offset (value_content e) h =
      stays_on (evaluated e h)
      (λ v. stays_on (stays_local
      (local_write_rvalue (kind_of e) false (narrowed offset (size_of_kind (kind_of e)) p) (line_of e) v))
      (λ _. stays_local local_skip))
  content_stays p offset (literal_content bytes) h = stays_on (stays_local (local_tally (1 + length bytes)))
      (λ _. stays_local (local_store_bytes p offset bytes))

  parts_stay : (p : Value) (ps : List Part) → parts_assign y ps ≡ false → Stays y (store_parts env p ps)
  parts_stay p [] h = stays_local local_skip
  parts_stay p (q ∷ qs) h =
      let e = neither (content_assigns y q.content) (parts_assign y qs) h in stays_on
      (content_stays p q.offset q.content e.0) (λ _. parts_stay p qs e.1)

  initializer_stays : (x : ℕ) (i : Option Initializer) → initializer_assigns y x i ≡ false
      → Stays y (initialize env x i)
  initializer_stays x None h = stays_local local_skip
  initializer_stays x (Some (of_plain e)) h = let p = neither (x == y) (assigns y e) h in stays_on (evaluated e p.1)
      (λ v. stays_set x y v.value p.0)
  initializer_stays x (Some (of_object parts)) h =
      stays_on (stays_local (local_zero_variable x))
      (λ _. stays_on (stays_read {f = home_pointer x}) (λ p. parts_stay p parts h))

  declared_stay : (ds : List DeclaredVariable) → declared_assign y ds ≡ false → Stays y (initialize_all env ds)
  declared_stay [] h = stays_local local_skip
  declared_stay (d ∷ ds) h =
      let e = neither (initializer_assigns y d.variable d.initializer) (declared_assign y ds) h in stays_on
      (initializer_stays d.variable d.initializer e.0) (λ _. declared_stay ds e.1)

  holds_stays : (e : Option Expression) → if_assigns y e ≡ false → Stays y (holds env e)
  holds_stays None h = stays_done
  holds_stays (Some e) h = stays_on (evaluated e h) (λ v. stays_done)

  perform_stays : (e : Option Expression) → if_assigns y e ≡ false → Stays y (perform env e)
  perform_stays None h = stays_local local_skip
  perform_stays (Some e) h = stays_on (evaluated e h) (λ v. stays_local local_skip)

  first_stays : (f : First) → first_assigns y f ≡ false → Stays y (perform_first env f)
  first_stays nothing h = stays_local local_skip
  first_stays (first_expression e) h = perform_stays (Some e) h
  first_stays (first_declaration ds) h = declared_stay ds h

  mutual
    pub statement_stays : (s : Statement) → statement_assigns y s ≡ false → Stays y (execute env s)
    statement_stays (expression_statement e) h = stays_counted (stays_on (evaluated e h) (λ v. stays_done {a = Normal}))
    statement_stays empty h = stays_counted (stays_done {a = Normal})
    statement_stays (declaration ds) h = stays_on (declared_stay ds h) (λ _. stays_done {a = Normal})
    statement_stays (block line body) h = stays_counted
        (scoped_stays y env.setting (block_objects env.variables (block_variables body)) line (each_stays body h))
    statement_stays (if_then e s) h =
        let p = neither (assigns y e) (statement_assigns y s) h in stays_counted
        (stays_on (holds_stays (Some e) p.0) (λ b. stays_choose b (statement_stays s p.1) stays_done))
    statement_stays (if_else e s other) h =
        let p = neither (assigns y e) (statement_assigns y s || statement_assigns y other) h in
        let q = neither (statement_assigns y s) (statement_assigns y other) p.1 in
        stays_counted (stays_on (holds_stays (Some e) p.0)
        (λ b. stays_choose b (statement_stays s q.0) (statement_stays other q.1)))
    statement_stays (while_do e s) h =
        let p = neither (assigns y e) (statement_assigns y s) h in stays_counted
        (turns_stay y env.limit (holds_stays (Some e) p.0) (statement_stays s p.1) (skip_stays y) env.depth)
    statement_stays (do_while s e) h =
        let p = neither (statement_assigns y s) (assigns y e) h in stays_counted
        (turns_before_stay y env.limit (holds_stays (Some e) p.1) (statement_stays s p.0) env.depth)
    statement_stays (for line first condition next s) h =
        let p = neither (first_assigns y first) (if_assigns y condition || (if_assigns y next || statement_assigns y s))
        h in
        let q = neither (if_assigns y condition) (if_assigns y next || statement_assigns y s) p.1 in
        let r = neither (if_assigns y next) (statement_assigns y s) q.1 in
        stays_counted (scoped_stays y env.setting (block_objects env.variables (first_variables first)) line
        (stays_on (first_stays first p.0)
        (λ _. turns_stay y env.limit (holds_stays condition q.0) (statement_stays s r.1)
        (perform_stays next r.0) env.depth)))
    statement_stays (switch e line is) h =
        let p = neither (assigns y e) (items_assign y is) h in
        stays_counted (stays_on (evaluated e p.0)
        (λ v. stays_counted (scoped_stays y env.setting (block_objects env.variables (switch_variables is)) line
        (switch_stays y v.value.word (items_of env is) (items_stay is p.1)))))
    statement_stays break h = stays_counted (stays_done {a = Broken})
    statement_stays continue h = stays_counted (stays_done {a = Continued})
    statement_stays (return None) h = stays_counted (stays_done {a = Returned (rvalue (integer 0))})
    statement_stays (return (Some e)) h =
        stays_counted (stays_on
        (stays_on (evaluated e h) (λ v. stays_local (local_take_value (kind_of e) (line_of e) v)))
        (λ v. stays_done {a = Returned v}))

    each_stays : (ss : Statements) → each_assigns y ss ≡ false → Stays y (in_order (each_of env ss))
    each_stays no_statements h = stays_done
    each_stays (statements s ss) h =
        let p = neither (statement_assigns y s) (each_assigns y ss) h in stays_on (statement_stays s p.0)
        (λ c. next_stays y c (each_stays ss p.1))

    items_stay : (is : SwitchItems) → items_assign y is ≡ false → AllStay y (items_of env is)
    items_stay no_items h = tt
    items_stay (items labels s is) h = let p = neither (statement_assigns y s) (items_assign y is) h in
        (statement_stays s p.0, items_stay is p.1)

pub body_stays : (functions : List Function) (g : Setting) (limit n : ℕ) (variables : List Variable) (y : ℕ)
    (s : Statement) → statement_assigns y s ≡ false → Stays y (execute (env_of functions g limit n variables) s)
body_stays functions g limit n variables y s = statement_stays (env_of functions g limit n variables) y
    (calls_stay y functions g limit n) s

pub declarations_stay : (functions : List Function) (g : Setting) (limit n : ℕ) (variables : List Variable) (y : ℕ)
    (ds : List DeclaredVariable) → declared_assign y ds ≡ false
    → Stays y (initialize_all (env_of functions g limit n variables) ds)
declarations_stay functions g limit n variables y ds = declared_stay (env_of functions g limit n variables) y
    (calls_stay y functions g limit n) ds
