-- What is left to do leads to later states.
use Rattle.std.proofs.Common.{ℕ, suc, ◌+◌, ◌≡◌, List, [], ◌∷◌, Bool, true, false, map, drop, length}
use Rattle.obj_memory.specs.declared.value.Value.{Value}
use Rattle.std.proofs.Common.{Option, Some, None, refl, sym, subst, arith}
use Rattle.c_tree.specs.Blocks.{all_of, block_objects}
use Rattle.c_tree.specs.Tree.{Expression, Expressions, no_expressions, expressions, kind_of, line_of, Lvalue}
use Rattle.c_tree.specs.Statements.{Statement, SwitchItems, no_items, items}
use Rattle.source_meaning.specs.State.{State, Rvalue, Run, ◌>>=◌, done, Env}
use Rattle.source_meaning.specs.Actions.{updated}
use Rattle.source_meaning.specs.Structures.{as_rvalue, values_of}
use Rattle.source_meaning.specs.Expressions.{evaluate, place}
use Rattle.source_meaning.specs.Statements.{Completion, Normal, Broken, Continued, Returned, holds, in_order, items_of}
use Rattle.source_meaning.specs.Statements.{compared, next_after, perform as find, run_labeled, execute}
use Rattle.source_meaning.specs.Calls.{calls, first_of, result_of, rest_of}
use Rattle.source_meaning.specs.Blocks.{Block}
use Rattle.source_meaning.specs.Acting.{IsAction, Later, state_of}
use Rattle.source_meaning.proofs.Acting.{acts_done, acts_on, acts_read, acts_skip, acts_tally, acts_then}
use Rattle.source_meaning.proofs.ActionsAct.{acts_back_to, acts_callee, acts_enter_block, acts_leave_block}
use Rattle.source_meaning.proofs.ActionsAct.{acts_operate, acts_read_rvalue, acts_returned, acts_set_plain}
use Rattle.source_meaning.proofs.ActionsAct.{acts_store_bytes, acts_take_value, acts_update, acts_update_plain}
use Rattle.source_meaning.proofs.ActionsAct.{acts_updated, acts_write_rvalue, acts_zero_variable}
use Rattle.source_meaning.proofs.LibraryActs.{acts_print, acts_routine}
use Rattle.source_meaning.proofs.Turning.{GoesLater, LeadsTo}
use Rattle.source_meaning.proofs.Growing.{later_action, later_choose, later_done, later_on}
use Rattle.source_meaning.proofs.Related.{Related, evaluate_related, initialize_all_related, parts_related}
use Rattle.source_meaning.proofs.Related.{place_related}
use Rattle.source_meaning.proofs.RelatedFlow.{execute_related, row_related}
use Rattle.source_meaning.proofs.TurnLaws.{later_after, later_begin, later_calls, later_turns, later_turns_before}
use Rattle.source_meaning.proofs.TurnLaws.{leads_itself, leads_related}
use Rattle.interpreter_tasks.specs.Registers.{Course, Waiting, Registers, env_at, top, second, popped, completed}
use Rattle.interpreter_tasks.specs.Registers.{pushing, completing}
use Rattle.interpreter_tasks.specs.Actions as at_once
use Rattle.interpreter_tasks.specs.Actions.{Action, act, arguments, leave_call, leave_first}
use Rattle.interpreter_tasks.specs.Tasks.{Task, Do, Evaluate, Locate, Arguments, Choose, And, Or, Call, CallThrough}
use Rattle.interpreter_tasks.specs.Tasks.{Initialize, StoreParts, Execute, InOrder, Branch, Turn, Test, After}
use Rattle.interpreter_tasks.specs.Tasks.{TurnBefore, AfterBefore, TestBefore, Select, Items, Loop, is_true, truth_of}
use Rattle.interpreter_tasks.specs.Tasks.{execute_any, looping, looping_on, looping_before, looping_before_if}
use Rattle.interpreter_tasks.specs.Tasks.{looping_before_on, perform, rest}
use Rattle.interpreter_tasks.specs.Parts.{labels_in, selected, selected_tasks}
use Rattle.interpreter_tasks.specs.Steps.{step}
use Rattle.interpreter_tasks.proofs.Arguments.{arguments_come}
use Rattle.interpreter_tasks.proofs.Loops.{select_comes}

-- actions

module _ (c : Course) (r : Registers) where
  pushes : (below : List Rvalue) {run : Run Rvalue} → IsAction run
      → IsAction (run >>= (λ v. done (record r { values = v ∷ below })))
  pushes below a = acts_on a (λ v. acts_done)

  gives : {run : Run Value} → IsAction run → IsAction (as_rvalue run)
  gives a = acts_on a (λ v. acts_done)

  leave_first_acts : (bs : List Block) → IsAction (leave_first bs r)
  leave_first_acts [] = acts_done
  leave_first_acts (b ∷ bs) = acts_then (acts_leave_block b) acts_done

  leave_call_acts : (ws : List Waiting) → IsAction (leave_call c ws r)
  leave_call_acts [] = acts_done
  leave_call_acts (w ∷ ws) =
      acts_on (acts_returned (result_of c.setting r.activation.function.type_number) r.completion)
      (λ v. acts_then (acts_back_to w.caller) acts_done)

  pub acting : (a : Action) → IsAction (act c a r)
  unfolding act
  acting (at_once.Count work) = acts_then (acts_tally work) acts_done
  acting (at_once.Give v) = pushes r.values acts_done
  acting (at_once.GivePlain x) = pushes r.values (gives (acts_read (λ k s. refl)))
  acting (at_once.GiveHome x) = pushes r.values (gives (acts_read (λ k s. refl)))
  acting (at_once.GiveStatic n) = pushes r.values (gives (acts_read (λ k s. refl)))
  acting (at_once.Read kind j line) = pushes (rest_of r.values) (acts_read_rvalue kind j (top r) line)
  acting at_once.AsPointer = pushes (rest_of r.values) acts_done
  acting (at_once.Convert kind) = pushes (rest_of r.values) acts_done
  acting (at_once.Apply op t) = pushes (rest_of r.values) acts_done
  acting at_once.Truth = pushes (rest_of r.values) acts_done
  acting (at_once.Narrow offset size) = pushes (rest_of r.values) acts_done
  acting (at_once.Member offset size) = pushes (rest_of r.values) acts_done
  acting (at_once.Operate op t line) =
      pushes (rest_of (rest_of r.values)) (gives (acts_operate op t (second r).value (top r).value line))
  acting (at_once.Offset form size) = pushes (rest_of (rest_of r.values)) acts_done
  acting (at_once.Difference size) = pushes (rest_of (rest_of r.values)) acts_done
  acting at_once.Drop = acts_done
  acting (at_once.Write kind j line) =
      pushes (rest_of (rest_of r.values)) (acts_write_rvalue kind j (second r).value line (top r))
  acting (at_once.SetPlain x) =
      pushes (rest_of r.values) (acts_then (acts_set_plain x (top r).value) acts_done)
  acting (at_once.Change u k j place_line line fixity) = pushes (rest_of (rest_of r.values))
      (gives (acts_update k j (second r).value place_line u (top r).value line fixity))
  acting (at_once.ChangePlain u k x line fixity) = pushes (rest_of r.values)
      (gives (acts_update_plain x (updated u k (top r).value line) fixity (acts_updated u k (top r).value line)))
  acting (at_once.Take kind line) = pushes (rest_of r.values) (acts_take_value kind line (top r))
  acting (at_once.CallRoutine name n line) = pushes (drop n r.values)
      (acts_then (acts_tally 1) (gives (acts_routine c.setting name (values_of (arguments n r.values)) line)))
  acting (at_once.Print format n line) = pushes (drop n r.values)
      (acts_then (acts_tally 1) (gives (acts_print format (values_of (arguments n r.values)) line)))
  acting (at_once.Complete x) = acts_done
  acting at_once.Return = acts_done
  acting at_once.CompleteSwitch = acts_done
  acting (at_once.Enter numbers line) =
      acts_on (acts_enter_block c.setting (block_objects (all_of r.activation.function) numbers) line)
      (λ b. acts_done)
  acting at_once.Leave = leave_first_acts r.blocks
  acting (at_once.Zero x) = acts_then (acts_zero_variable x) acts_done
  acting (at_once.StorePart kind offset line) = acts_then (acts_write_rvalue kind false _ line (top r)) acts_done
  acting (at_once.StoreLiteral offset bytes) =
      acts_then (acts_tally (1 + length bytes)) (acts_then (acts_store_bytes (top r).value offset bytes) acts_done)
  acting at_once.LeaveCall = leave_call_acts r.waiting

-- tasks

-- a run that is another one goes where that goes
later_as : {A : Type 0} {run other : Run A} → ((s : State) → run s ≡ other s) → GoesLater other → GoesLater run
later_as {run = run} e h = record { later = λ s. subst (λ o. Later s (state_of o)) (sym (e s)) (h.later s) }

module _ (c : Course) where
  module _ (r : Registers) where
    abbrev env : Env
    env = env_at c r

    abbrev call : ℕ → List Rvalue → ℕ → Run Rvalue
    call = calls c.functions c.setting c.limit r.activation.left

    abbrev Leads : (A : Type 0) → Run A → Run A → Type 0
    Leads A run other = LeadsTo run other

    leads : Related env env Leads
    leads = leads_related c.setting (all_of r.activation.function) c.limit c.limit (suc r.activation.left)
        (suc r.activation.left) call call (omega arith) (omega arith)
        (leads_itself c.functions c.setting c.limit r.activation.left)

    later_expression : (e : Expression) → GoesLater (evaluate env e)
    later_expression e =
        (evaluate_related c.setting (all_of r.activation.function) c.limit c.limit (suc r.activation.left)
        (suc r.activation.left) call call Leads leads e).later

    later_place : (p : Lvalue) → GoesLater (place env p)
    later_place p =
        (place_related c.setting (all_of r.activation.function) c.limit c.limit (suc r.activation.left)
        (suc r.activation.left) call call Leads leads p).later

    later_statement : (x : Statement) → GoesLater (execute env x)
    later_statement x =
        (execute_related c.setting (all_of r.activation.function) c.limit c.limit (suc r.activation.left)
        (suc r.activation.left) call call Leads leads x).later

    later_truth : (e : Expression) → GoesLater (truth_of env e)
    later_truth e = later_on (later_expression e) (λ v. later_done _)

    later_holds : (o : Option Expression) → GoesLater (holds env o)
    later_holds None = later_done true
    later_holds (Some e) = later_on (later_expression e) (λ v. later_done _)

    later_find : (o : Option Expression) → GoesLater (find env o)
    later_find None = later_action acts_skip
    later_find (Some e) = later_on (later_expression e) (λ v. later_action acts_skip)

    later_any : (o : Option Statement) → GoesLater (execute_any env o)
    later_any None = later_done Normal
    later_any (Some x) = later_statement x

    later_next : (x : Completion) {run : Run Completion} → GoesLater run → GoesLater (next_after x run)
    later_next Normal g = g
    later_next Broken g = later_done Broken
    later_next Continued g = later_done Continued
    later_next (Returned v) g = later_done (Returned v)

    later_items : (is : SwitchItems) → GoesLater (in_order (map run_labeled (items_of env is)))
    later_items no_items = later_done Normal
    later_items (items ls x is) =
        later_on (later_on (later_action (acts_tally (length ls))) (λ _. later_statement x))
        (λ x. later_next x (later_items is))

    later_looping : (n : ℕ) (l : Loop) → GoesLater (looping env c.limit n l)
    later_looping n l =
        later_turns c.limit (holds env l.condition) (execute env l.body) (find env l.step) (later_holds l.condition)
        (later_statement l.body) (later_find l.step) n

    later_looping_on : (n : ℕ) (l : Loop) → GoesLater (looping_on env c.limit n l)
    later_looping_on n l = later_on (later_find l.step) (λ _. later_looping n l)

    module _ (n : ℕ) (e : Expression) (body : Statement) where
      later_before : GoesLater (looping_before env c.limit n e body)
      later_before =
          later_turns_before c.limit (holds env (Some e)) (execute env body) (find env None) (later_holds (Some e))
          (later_statement body) (later_find None) n

      later_before_if : (again : Bool) → GoesLater (looping_before_if env c.limit n e body again)
      later_before_if again = later_choose again later_before (later_done Normal)

      later_before_on : GoesLater (looping_before_on env c.limit n e body)
      later_before_on = later_on (later_holds (Some e)) later_before_if

    completes : {run : Run Completion} (q : Registers) → GoesLater run → GoesLater (completing q run)
    completes q g = later_on g (λ x. later_done _)

    finds : {run : Run Rvalue} (below : List Rvalue) → GoesLater run → GoesLater (pushing r below run)
    finds below g = later_on g (λ v. later_done _)

  later_arguments : (es : Expressions) (r : Registers) → GoesLater (perform c (Arguments es) r)
  unfolding rest perform
  later_arguments no_expressions r = later_as (arguments_come c no_expressions r) (later_done r)
  later_arguments (expressions e es) r = later_as (arguments_come c (expressions e es) r)
      (later_on (finds r r.values (later_expression r e))
      (λ r1. later_on (later_action (acting c r1 (at_once.Take (kind_of e) (line_of e))))
      (λ r2. later_on (later_arguments es r2) later_done)))

  later_selected : (o : Option SwitchItems) (r : Registers) → GoesLater (rest c (selected_tasks o) r)
  unfolding rest perform
  later_selected None r = later_done r
  later_selected (Some is) r =
      later_on (completes r r (later_next r r.completion (later_items r is)))
      (λ r1. later_on (later_action (acting c r1 at_once.CompleteSwitch)) later_done)

  later_select : (is : SwitchItems) (r : Registers) → GoesLater (perform c (Select is) r)
  unfolding step
  later_select is r = later_as (select_comes c r is)
      (later_on (later_action (acts_tally (compared (top r).value.word (labels_in is))))
      (λ _. later_selected (selected (top r).value.word is) (completed Normal (popped r))))

  later_task : (t : Task) (r : Registers) → GoesLater (perform c t r)
  unfolding perform
  later_task (Do a) r = later_action (acting c r a)
  later_task (Evaluate e) r = finds r r.values (later_expression r e)
  later_task (Locate p) r = finds r r.values (later_place r p)
  later_task (Arguments es) r = later_arguments es r
  later_task (Choose a b) r =
      finds r (rest_of r.values) (later_choose _ (later_expression r b) (later_expression r a))
  later_task (And b) r = finds r (rest_of r.values) (later_choose _ (later_done _) (later_truth r b))
  later_task (Or b) r = finds r (rest_of r.values) (later_choose _ (later_truth r b) (later_done _))
  later_task (Call f n line) r = finds r (drop n r.values)
      (later_calls c.functions c.setting c.limit r.activation.left f (arguments n r.values) line)
  later_task (CallThrough t n line) r = finds r (rest_of (drop n r.values))
      (later_on (later_action (acts_callee c.setting.functions t (first_of (drop n r.values)).value line))
      (λ f. later_calls c.functions c.setting c.limit r.activation.left f (arguments n r.values) line))
  later_task (Initialize ds) r =
      later_on (initialize_all_related c.setting (all_of r.activation.function) c.limit c.limit
      (suc r.activation.left) (suc r.activation.left) (call r) (call r) (Leads r) (leads r) ds).later
      (λ _. later_done r)
  later_task (StoreParts qs) r =
      later_on (parts_related c.setting (all_of r.activation.function) c.limit c.limit
      (suc r.activation.left) (suc r.activation.left) (call r) (call r) (Leads r) (leads r) (top r).value qs).later
      (λ _. later_done _)
  later_task (Execute x) r = completes r r (later_statement r x)
  later_task (InOrder ss) r = completes r r (later_next r r.completion
      (row_related c.setting (all_of r.activation.function) c.limit c.limit
      (suc r.activation.left) (suc r.activation.left) (call r) (call r) (Leads r) (leads r) ss).later)
  later_task (Branch x other) r =
      completes r (popped r) (later_choose (is_true r) (later_statement r x) (later_any r other))
  later_task (Turn n l) r = completes r r (later_looping r n l)
  later_task (Test n l) r = completes r (popped r) (later_choose (is_true r)
      (later_on (later_begin c.limit) (λ _. later_on (later_statement r l.body)
      (λ x. later_after x _ (later_looping_on r n l)))) (later_done Normal))
  later_task (After n l) r = completes r r (later_after r.completion _ (later_looping_on r n l))
  later_task (TurnBefore n e body) r = completes r r (later_before r n e body)
  later_task (AfterBefore n e body) r = completes r r (later_after r.completion _ (later_before_on r n e body))
  later_task (TestBefore n e body) r = completes r (popped r) (later_before_if r n e body (is_true r))
  later_task (Select is) r = later_select is r
  later_task (Items is) r = completes r r (later_next r r.completion (later_items r is))

  pub later_rest : (ts : List Task) (r : Registers) → GoesLater (rest c ts r)
  unfolding rest
  later_rest [] r = later_done r
  later_rest (t ∷ ts) r = later_on (later_task t r) (later_rest ts)

pub goes_on_later : (c : Course) (ts : List Task) (r : Registers) (s : State) → Later s (state_of (rest c ts r s))
goes_on_later c ts r s = (later_rest c ts r).later s
