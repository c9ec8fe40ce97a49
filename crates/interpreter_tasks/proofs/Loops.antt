-- What is left of statements, loops and switches means its next step.
use Rattle.std.proofs.Common.{◌≡◌, ℕ, zero, suc, Bool, true, false, List, [], ◌∷◌, ◌++◌, length, map, refl}
use Rattle.std.proofs.Common.{sym, ap, ◌∙◌, Option, Some, None}
use Rattle.std.specs.Prelude.{option_map}
use Rattle.c_tree.specs.declared.statement.CaseLabel.{CaseLabel}
use Rattle.c_tree.specs.Tree.{Expression}
use Rattle.c_tree.specs.Statements.{Statement, Statements, no_statements, statements, SwitchItems, no_items, items}
use Rattle.source_meaning.specs.State.{State, Run, on, choose, done, Env}
use Rattle.source_meaning.specs.Actions.{begin_turn}
use Rattle.source_meaning.specs.Statements.{Completion, Normal, Broken, Continued, Returned, after_body, after_switch}
use Rattle.source_meaning.specs.Statements.{compared, each_of, execute, in_order, is_case_of, is_default, items_at}
use Rattle.source_meaning.specs.Statements.{items_from, items_of, labels_from, labels_of, next_after}
use Rattle.source_meaning.specs.Statements.{or_default, run_items, run_labeled}
use Rattle.interpreter_tasks.specs.Registers.{Course, Registers, env_at, top, popped, completed}
use Rattle.interpreter_tasks.specs.Actions.{CompleteSwitch, act}
use Rattle.interpreter_tasks.specs.Tasks.{Task, Do, Execute, InOrder, Branch, Turn, Test, After, TurnBefore}
use Rattle.interpreter_tasks.specs.Tasks.{AfterBefore, TestBefore, Select, Items, Loop, is_true, looping, looping_if}
use Rattle.interpreter_tasks.specs.Tasks.{looping_on, execute_any, looping_before_if, looping_before_on, perform, rest}
use Rattle.interpreter_tasks.specs.Parts.{found_at, found_from, found_or_default, execute_tasks, labels_in}
use Rattle.interpreter_tasks.specs.Parts.{selected, selected_tasks}
use Rattle.interpreter_tasks.specs.Steps.{go_on, statements_step, items_step, turn_step, test_step, after_step}
use Rattle.interpreter_tasks.specs.Steps.{turn_before_step, after_before_step, step, to_tasks}
use Rattle.interpreter_tasks.proofs.Flow.{on_on, same_on, worked, last_one, executed}
use Rattle.interpreter_tasks.proofs.Blocks.{condition_then, any_condition_then, expression_then}

-- the items that are run, of the tree and of its runs
module _ (env : Env) where
  labels_same : (is : SwitchItems) → labels_of (items_of env is) ≡ labels_in is
  labels_same no_items = refl
  labels_same (items ls s is) = ap (λ others. ls ++ others) (labels_same is)

  at_same : (found : Option (List CaseLabel)) (ls : List CaseLabel) (s : Statement) (is : SwitchItems)
      (others : Option SwitchItems)
      → items_at found (record { labels = ls; run = execute env s }) (items_of env is)
      (option_map (items_of env) others)
      ≡ option_map (items_of env) (found_at found s is others)
  at_same None ls s is others = refl
  at_same (Some found) ls s is others = refl

  from_same : (is_sought : CaseLabel → Bool) (is : SwitchItems)
      → items_from is_sought (items_of env is) ≡ option_map (items_of env) (found_from is_sought is)
  unfolding found_from
  from_same is_sought no_items = refl
  from_same is_sought (items ls s is) =
      ap (items_at (labels_from is_sought ls) (record { labels = ls; run = execute env s }) (items_of env is))
      (from_same is_sought is)
      ∙ at_same (labels_from is_sought ls) ls s is (found_from is_sought is)

  default_same : (found : Option SwitchItems) (is : SwitchItems)
      → or_default (option_map (items_of env) found) (items_of env is)
      ≡ option_map (items_of env) (found_or_default found is)
  default_same (Some found) is = refl
  default_same None is = from_same is_default is

  selected_same : (word : ℕ) (is : SwitchItems)
      → or_default (items_from (is_case_of word) (items_of env is)) (items_of env is)
      ≡ option_map (items_of env) (selected word is)
  selected_same word is =
      ap (λ found. or_default found (items_of env is)) (from_same (is_case_of word) is)
      ∙ default_same (found_from (is_case_of word) is) is

module _ (c : Course) (r : Registers) where
  abbrev into : Completion → Run Registers
  into x = done (completed x r)

  abbrev env : Env
  env = env_at c r

  -- statements one after another

  pub statements_come : (x : Completion) (ss : Statements) (s : State)
      → perform c (InOrder ss) (completed x r) s ≡ on (statements_step x ss (completed x r) s) (go_on c)
  unfolding rest perform
  statements_come Normal no_statements s = refl
  statements_come Normal (statements t ss) s =
      on_on (execute env t s) (λ x. next_after x (in_order (each_of env ss))) into
      ∙ executed c (completed Normal r) (InOrder ss ∷ []) s t _ (λ x s. last_one c (InOrder ss) (completed x r) s)
  statements_come Broken ss s = refl
  statements_come Continued ss s = refl
  statements_come (Returned v) ss s = refl

  pub items_come : (x : Completion) (is : SwitchItems) (s : State)
      → perform c (Items is) (completed x r) s ≡ on (items_step x is (completed x r) s) (go_on c)
  unfolding rest perform
  items_come Normal no_items s = refl
  items_come Normal (items ls t is) s =
      on_on (execute env t (worked (length ls) s)) (λ x. next_after x (in_order (map run_labeled (items_of env is))))
      into
      ∙ executed c (completed Normal r) (Items is ∷ []) (worked (length ls) s) t _
      (λ x s. last_one c (Items is) (completed x r) s)
  items_come Broken is s = refl
  items_come Continued is s = refl
  items_come (Returned v) is s = refl

  -- loops

  pub turn_comes : (n : ℕ) (l : Loop) (s : State) → perform c (Turn n l) r s ≡ on (turn_step n l r s) (go_on c)
  unfolding perform
  turn_comes zero l s = refl
  turn_comes (suc n) l s =
      any_condition_then c r l.condition (Test n l) (looping_if env c.limit n l) into s (λ v s. refl)

  pub after_comes : (n : ℕ) (l : Loop) (x : Completion) (s : State)
      → perform c (After n l) (completed x r) s ≡ on (after_step n l x (completed x r) s) (go_on c)
  unfolding rest perform
  after_comes n l Normal s =
      expression_then c (completed Normal r) (Turn n l) (looping env c.limit n l) into (λ s. refl) l.step s
  after_comes n l Broken s = refl
  after_comes n l Continued s =
      expression_then c (completed Continued r) (Turn n l) (looping env c.limit n l) into (λ s. refl) l.step s
  after_comes n l (Returned v) s = refl

  -- a turn, then a body, then what follows it
  body_then : (q : Registers) (body : Statement) (k : Completion → Run Completion) (t : Task) (s : State)
      → ((x : Completion) (s : State) → on (k x s) (λ x. done (completed x q)) ≡ perform c t (completed x q) s)
      → on (on (begin_turn c.limit s) (λ _ s. on (execute (env_at c q) body s) k)) (λ x. done (completed x q))
      ≡ on (on (begin_turn c.limit s) (λ _ s. done (record { tasks = Execute body ∷ t ∷ []; registers = q }) s))
      (go_on c)
  body_then q body k t s h =
      on_on (begin_turn c.limit s) _ (λ x. done (completed x q))
      ∙ same_on (begin_turn c.limit s) _ _ (λ _ s.
      on_on (execute (env_at c q) body s) k (λ x. done (completed x q))
      ∙ executed c q (t ∷ []) s body _ (λ x s. h x s ∙ last_one c t (completed x q) s))
      ∙ sym (on_on (begin_turn c.limit s) _ (go_on c))

  test_by : (n : ℕ) (l : Loop) (again : Bool) (s : State)
      → on (looping_if env c.limit n l again s) (λ x. done (completed x (popped r)))
      ≡ on (test_step c n l again (popped r) s) (go_on c)
  unfolding rest perform
  test_by n l true s =
      body_then (popped r) l.body (λ x. after_body x (looping_on env c.limit n l)) (After n l) s (λ x s. refl)
  test_by n l false s = refl

  pub test_comes : (n : ℕ) (l : Loop) (s : State)
      → perform c (Test n l) r s ≡ on (test_step c n l (is_true r) (popped r) s) (go_on c)
  unfolding perform
  test_comes n l s = test_by n l (is_true r) s

  -- loops with the condition behind the body
  module _ (n : ℕ) (e : Expression) (body : Statement) where
    pub after_before_comes : (x : Completion) (s : State)
        → perform c (AfterBefore n e body) (completed x r) s
        ≡ on (after_before_step n e body x (completed x r) s) (go_on c)
    unfolding rest perform
    after_before_comes Normal s =
        condition_then c (completed Normal r) e (TestBefore n e body) (looping_before_if env c.limit n e body) into s
        (λ v s. refl)
    after_before_comes Broken s = refl
    after_before_comes Continued s =
        condition_then c (completed Continued r) e (TestBefore n e body) (looping_before_if env c.limit n e body) into
        s (λ v s. refl)
    after_before_comes (Returned v) s = refl

    test_before_by : (again : Bool) (s : State)
        → on (looping_before_if env c.limit n e body again s) (λ x. done (completed x (popped r)))
        ≡ on (choose again (to_tasks (TurnBefore n e body ∷ []) (popped r))
        (to_tasks [] (completed Normal (popped r))) s) (go_on c)
    unfolding rest perform
    test_before_by true s = last_one c (TurnBefore n e body) (popped r) s
    test_before_by false s = refl

    pub test_before_comes : (s : State)
        → perform c (TestBefore n e body) r s ≡ on (step c (TestBefore n e body) r s) (go_on c)
    unfolding perform step
    test_before_comes s = test_before_by (is_true r) s

  pub turn_before_comes : (n : ℕ) (e : Expression) (body : Statement) (s : State)
      → perform c (TurnBefore n e body) r s ≡ on (turn_before_step c n e body r s) (go_on c)
  unfolding perform
  turn_before_comes zero e body s = refl
  turn_before_comes (suc n) e body s =
      body_then r body (λ x. after_body x (looping_before_on env c.limit n e body)) (AfterBefore n e body) s
      (λ x s. refl)

  -- one of two statements

  branch_by : (b : Bool) (t : Statement) (other : Option Statement) (s : State)
      → on (choose b (execute env t) (execute_any env other) s) (λ x. done (completed x (popped r)))
      ≡ on (choose b (to_tasks (Execute t ∷ []) (popped r))
      (to_tasks (execute_tasks other) (completed Normal (popped r))) s) (go_on c)
  unfolding rest perform
  branch_by true t other s = last_one c (Execute t) (popped r) s
  branch_by false t None s = refl
  branch_by false t (Some other) s = last_one c (Execute other) (completed Normal (popped r)) s

  pub branch_comes : (t : Statement) (other : Option Statement) (s : State)
      → perform c (Branch t other) r s ≡ on (step c (Branch t other) r s) (go_on c)
  unfolding perform step
  branch_comes t other s = branch_by (is_true r) t other s

  -- switch
  chosen : (q : Registers) (o : Option SwitchItems) (s : State)
      → on (on (run_items (option_map (items_of (env_at c q)) o) s) (λ x. done (after_switch x)))
      (λ x. done (completed x q))
      ≡ rest c (selected_tasks o) (completed Normal q) s
  unfolding rest perform act
  chosen q None s = refl
  chosen q (Some is) s =
      on_on (running s) (λ x. done (after_switch x)) (λ x. done (completed x q))
      ∙ sym (on_on (running s) (λ x. done (completed x q)) (rest c (Do CompleteSwitch ∷ [])))
    where
      running : Run Completion
      running = in_order (map run_labeled (items_of (env_at c q) is))

  pub select_comes : (is : SwitchItems) (s : State)
      → perform c (Select is) r s ≡ on (step c (Select is) r s) (go_on c)
  unfolding perform step
  select_comes is s =
      ap (λ ls. on (on (run_items (or_default (items_from (is_case_of word) (items_of env is)) (items_of env is))
      (worked (compared word ls) s)) (λ x. done (after_switch x))) (λ x. done (completed x (popped r))))
      (labels_same env is)
      ∙ ap (λ o. on (on (run_items o (worked (compared word (labels_in is)) s)) (λ x. done (after_switch x)))
      (λ x. done (completed x (popped r)))) (selected_same env word is)
      ∙ chosen (popped r) (selected word is) (worked (compared word (labels_in is)) s)
    where
      word : ℕ
      word = (top r).value.word
