-- One step: what is done of a task, and the tasks that it gives way to.
use Rattle.std.specs.Prelude.{ℕ, zero, suc, Bool, List, [], ◌∷◌, ◌++◌, drop, length, Option, Some, None}
use Rattle.sb_base.specs.declared.ending.Ending.TheVariants.{BadCall}
use Rattle.c_tree.specs.Programs.{Function}
use Rattle.c_tree.specs.Tree.{Expression}
use Rattle.c_tree.specs.Statements.{Statement, Statements, no_statements, statements, SwitchItems, no_items, items}
use Rattle.source_meaning.specs.State.{Rvalue, Run, ◌>>=◌, ◌>>◌, done, stop, pause, choose, read_state, tally}
use Rattle.source_meaning.specs.Actions.{begin_turn, integer, is_zero}
use Rattle.source_meaning.specs.Expressions.{callee}
use Rattle.source_meaning.specs.Statements.{Completion, Normal, Broken, Continued, Returned, compared}
use Rattle.source_meaning.specs.Calls.{caller, first_of, rest_of, function_at, header_of, set_up}
use Rattle.interpreter_tasks.specs.Registers.{Course, Registers, top, popped, completed}
use Rattle.interpreter_tasks.specs.Actions.{Give, Truth, LeaveCall, act, arguments}
use Rattle.interpreter_tasks.specs.Tasks.{Task, Do, Evaluate, Locate, Arguments, Choose, And, Or, Call, CallThrough}
use Rattle.interpreter_tasks.specs.Tasks.{Initialize, StoreParts, Execute, InOrder, Branch, Turn, Test, After}
use Rattle.interpreter_tasks.specs.Tasks.{TurnBefore, AfterBefore, TestBefore, Select, Items, Loop, is_true, rest}
use Rattle.interpreter_tasks.specs.Parts.{Parts, after_one, expression_parts, lvalue_parts, argument_tasks}
use Rattle.interpreter_tasks.specs.Parts.{declaration_tasks, store_tasks, statement_parts, expression_tasks}
use Rattle.interpreter_tasks.specs.Parts.{condition_task, execute_tasks, labels_in, selected, selected_tasks}

-- the tasks that come before those that are left, and the registers
pub record Step : Type 0 where
  pub tasks : List Task
  pub registers : Registers

abbrev pub to_tasks : List Task → Registers → Run Step
to_tasks ts r = done (record { tasks = ts; registers = r })

abbrev pub to_parts : Parts → Registers → Run Step
to_parts p r = do
  tally p.work
  to_tasks p.tasks r

-- the tasks are done
abbrev pub go_on : Course → Step → Run Registers
go_on c x = rest c x.tasks x.registers

-- a call of a function where calls may be nested so deep, on the values below its arguments: a turn, the set-up, and
-- then its body in an activation of its own
abbrev pub call_step : Course → (left : ℕ) → Option Function → Registers → (below arguments : List Rvalue)
    → (line : ℕ) → Run Step
call_step c zero f r below vs line = pause
call_step c (suc n) None r below vs line = stop (BadCall line)
call_step c (suc n) (Some f) r below vs line = do
  begin_turn c.limit
  back ← read_state caller
  set_up c.setting (header_of f) vs line
  tally 1
  to_tasks (after_one (InOrder f.body) LeaveCall) (record {
    values = below;
    completion = Normal;
    blocks = r.blocks;
    waiting = record { caller = back; completion = r.completion; activation = r.activation } ∷ r.waiting;
    activation = record { function = f; left = n };
  })

-- what follows a statement by its completion
abbrev pub statements_step : Completion → Statements → Registers → Run Step
statements_step Normal no_statements r = to_tasks [] r
statements_step Normal (statements s ss) r = to_tasks (Execute s ∷ InOrder ss ∷ []) r
statements_step Broken ss r = to_tasks [] r
statements_step Continued ss r = to_tasks [] r
statements_step (Returned v) ss r = to_tasks [] r

abbrev pub items_step : Completion → SwitchItems → Registers → Run Step
items_step Normal no_items r = to_tasks [] r
items_step Normal (items ls s is) r = do
  tally (length ls)
  to_tasks (Execute s ∷ Items is ∷ []) r
items_step Broken is r = to_tasks [] r
items_step Continued is r = to_tasks [] r
items_step (Returned v) is r = to_tasks [] r

-- the turns of loops

abbrev pub turn_step : (n : ℕ) → Loop → Registers → Run Step
turn_step zero l r = pause
turn_step (suc n) l r = to_tasks (condition_task l.condition ∷ Test n l ∷ []) r

abbrev pub test_step : Course → (n : ℕ) → Loop → (again : Bool) → Registers → Run Step
test_step c n l again r = choose again (do
  begin_turn c.limit
  to_tasks (Execute l.body ∷ After n l ∷ []) r) (to_tasks [] (completed Normal r))

abbrev pub after_step : (n : ℕ) → Loop → Completion → Registers → Run Step
after_step n l Normal r = to_tasks (expression_tasks l.step ++ Turn n l ∷ []) r
after_step n l Broken r = to_tasks [] (completed Normal r)
after_step n l Continued r = to_tasks (expression_tasks l.step ++ Turn n l ∷ []) r
after_step n l (Returned v) r = to_tasks [] r

abbrev pub turn_before_step : Course → (n : ℕ) → Expression → Statement → Registers → Run Step
turn_before_step c zero e body r = pause
turn_before_step c (suc n) e body r = do
  begin_turn c.limit
  to_tasks (Execute body ∷ AfterBefore n e body ∷ []) r

abbrev pub after_before_step : (n : ℕ) → Expression → Statement → Completion → Registers → Run Step
after_before_step n e body Normal r = to_tasks (Evaluate e ∷ TestBefore n e body ∷ []) r
after_before_step n e body Broken r = to_tasks [] (completed Normal r)
after_before_step n e body Continued r = to_tasks (Evaluate e ∷ TestBefore n e body ∷ []) r
after_before_step n e body (Returned v) r = to_tasks [] r

unfoldable pub step : Course → Task → Registers → Run Step
step c (Do a) r = do
  now ← act c a r
  to_tasks [] now
step c (Evaluate e) r = to_parts (expression_parts e) r
step c (Locate p) r = to_parts (lvalue_parts p) r
step c (Arguments es) r = to_tasks (argument_tasks es) r
step c (Choose a b) r =
    choose (is_zero (top r).value) (to_tasks (Evaluate b ∷ []) (popped r)) (to_tasks (Evaluate a ∷ []) (popped r))
step c (And b) r = choose (is_zero (top r).value) (to_tasks (Do (Give (integer 0)) ∷ []) (popped r))
    (to_tasks (after_one (Evaluate b) Truth) (popped r))
step c (Or b) r = choose (is_zero (top r).value) (to_tasks (after_one (Evaluate b) Truth) (popped r))
    (to_tasks (Do (Give (integer 1)) ∷ []) (popped r))
step c (Call f n line) r =
    call_step c r.activation.left (function_at c.functions f) r (drop n r.values) (arguments n r.values) line
step c (CallThrough t n line) r = do
  f ← callee c.setting.functions t (first_of (drop n r.values)).value line
  call_step c r.activation.left (function_at c.functions f) r (rest_of (drop n r.values)) (arguments n r.values) line
step c (Initialize ds) r = to_tasks (declaration_tasks ds) r
step c (StoreParts qs) r = to_tasks (store_tasks qs) r
step c (Execute s) r = to_parts (statement_parts r.activation s) (completed Normal r)
step c (InOrder ss) r = statements_step r.completion ss r
step c (Branch s other) r = choose (is_true r) (to_tasks (Execute s ∷ []) (popped r))
    (to_tasks (execute_tasks other) (completed Normal (popped r)))
step c (Turn n l) r = turn_step n l r
step c (Test n l) r = test_step c n l (is_true r) (popped r)
step c (After n l) r = after_step n l r.completion r
step c (TurnBefore n e body) r = turn_before_step c n e body r
step c (AfterBefore n e body) r = after_before_step n e body r.completion r
step c (TestBefore n e body) r = choose (is_true r) (to_tasks (TurnBefore n e body ∷ []) (popped r))
    (to_tasks [] (completed Normal (popped r)))
step c (Select is) r = do
  tally (compared (top r).value.word (labels_in is))
  to_tasks (selected_tasks (selected (top r).value.word is)) (completed Normal (popped r))
step c (Items is) r = items_step r.completion is r
