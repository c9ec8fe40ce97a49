-- A step keeps the meaning of what is left, and a run begins with the call of `main`.
use Rattle.std.proofs.Common.{◌≡◌, ℕ, ◌+◌, Bool, true, false, List, [], ◌∷◌, ◌++◌, drop, refl, sym, ap, ◌∙◌}
use Rattle.sb_base.specs.Budgets.{BudgetSizes}
use Rattle.c_tree.specs.Programs.{Function, Program}
use Rattle.c_tree.specs.Tree.{Expression}
use Rattle.source_meaning.specs.State.{State, Rvalue, Run, on, choose, done}
use Rattle.source_meaning.specs.Actions.{integer, is_zero}
use Rattle.source_meaning.specs.Structures.{give}
use Rattle.source_meaning.specs.Expressions.{callee, evaluate}
use Rattle.source_meaning.specs.Calls.{first_of, function_at, rest_of}
use Rattle.source_meaning.specs.Meaning.{line_of, outcome, setting_of, start}
use Rattle.interpreter_tasks.specs.Registers.{Course, Registers, env_at, top, popped, pushed, at_start, course_of}
use Rattle.interpreter_tasks.specs.Actions.{Give, Truth, act, arguments}
use Rattle.interpreter_tasks.specs.Tasks.{Task, Do, Evaluate, Locate, Arguments, Choose, And, Or, Call, CallThrough}
use Rattle.interpreter_tasks.specs.Tasks.{Initialize, StoreParts, Execute, InOrder, Branch, Turn, Test, After}
use Rattle.interpreter_tasks.specs.Tasks.{TurnBefore, AfterBefore, TestBefore, Select, Items, truth_of, perform, rest}
use Rattle.interpreter_tasks.specs.Parts.{after_one}
use Rattle.interpreter_tasks.specs.Steps.{go_on, to_tasks, step}
use Rattle.interpreter_tasks.proofs.Flow.{on_on, on_done, on_same, same_on, last_one, rest_append}
use Rattle.interpreter_tasks.proofs.Arguments.{arguments_come}
use Rattle.interpreter_tasks.proofs.Expressions.{expression_comes, lvalue_comes, truth_comes}
use Rattle.interpreter_tasks.proofs.Calls.{call_comes}
use Rattle.interpreter_tasks.proofs.Initializers.{declarations_come, parts_come}
use Rattle.interpreter_tasks.proofs.Statements.{statement_comes}
use Rattle.interpreter_tasks.proofs.Loops.{statements_come, items_come, turn_comes, after_comes, test_comes}
use Rattle.interpreter_tasks.proofs.Loops.{after_before_comes, test_before_comes, turn_before_comes, branch_comes}
use Rattle.interpreter_tasks.proofs.Loops.{select_comes}

module _ (c : Course) (r : Registers) where
  abbrev into : Rvalue → Run Registers
  into v = done (pushed v (popped r))

  choose_by : (z : Bool) (a b : Expression) (s : State)
      → on (choose z (evaluate (env_at c r) b) (evaluate (env_at c r) a) s) into
      ≡ on (choose z (to_tasks (Evaluate b ∷ []) (popped r)) (to_tasks (Evaluate a ∷ []) (popped r)) s) (go_on c)
  unfolding perform
  choose_by true a b s = last_one c (Evaluate b) (popped r) s
  choose_by false a b s = last_one c (Evaluate a) (popped r) s

  and_by : (z : Bool) (b : Expression) (s : State)
      → on (choose z (give (integer 0)) (truth_of (env_at c r) b) s) into
      ≡ on (choose z (to_tasks (Do (Give (integer 0)) ∷ []) (popped r))
      (to_tasks (after_one (Evaluate b) Truth) (popped r)) s) (go_on c)
  unfolding rest perform act
  and_by true b s = refl
  and_by false b s = truth_comes c (popped r) b s

  or_by : (z : Bool) (b : Expression) (s : State)
      → on (choose z (truth_of (env_at c r) b) (give (integer 1)) s) into
      ≡ on (choose z (to_tasks (after_one (Evaluate b) Truth) (popped r))
      (to_tasks (Do (Give (integer 1)) ∷ []) (popped r)) s) (go_on c)
  unfolding rest perform act
  or_by true b s = truth_comes c (popped r) b s
  or_by false b s = refl

  call_through_comes : (t n line : ℕ) (s : State)
      → perform c (CallThrough t n line) r s ≡ on (step c (CallThrough t n line) r s) (go_on c)
  unfolding perform step
  call_through_comes t n line s =
      on_on (finding s) (λ f. (env_at c r).call f (arguments n r.values) line)
      (λ v. done (record r { values = v ∷ rest_of (drop n r.values) }))
      ∙ same_on (finding s) _ _ (λ f s.
      call_comes c r (rest_of (drop n r.values)) (arguments n r.values) line r.activation.left f s)
      ∙ sym (on_on (finding s) _ (go_on c))
    where
      finding : Run ℕ
      finding = callee c.setting.functions t (first_of (drop n r.values)).value line

  pub step_comes : (t : Task) (s : State) → perform c t r s ≡ on (step c t r s) (go_on c)
  unfolding rest perform step
  step_comes (Do a) s = sym (on_on (act c a r s) (to_tasks []) (go_on c) ∙ on_done (act c a r s))
  step_comes (Evaluate e) s = expression_comes c r s e
  step_comes (Locate p) s = lvalue_comes c r s p
  step_comes (Arguments es) s = arguments_come c es r s
  step_comes (Choose a b) s = choose_by (is_zero (top r).value) a b s
  step_comes (And b) s = and_by (is_zero (top r).value) b s
  step_comes (Or b) s = or_by (is_zero (top r).value) b s
  step_comes (Call f n line) s =
      call_comes c r (drop n r.values) (arguments n r.values) line r.activation.left f s
  step_comes (CallThrough t n line) s = call_through_comes t n line s
  step_comes (Initialize ds) s = declarations_come c r ds s
  step_comes (StoreParts qs) s = parts_come c r qs s
  step_comes (Execute x) s = statement_comes c r x s
  step_comes (InOrder ss) s = statements_come c r r.completion ss s
  step_comes (Branch x other) s = branch_comes c r x other s
  step_comes (Turn n l) s = turn_comes c r n l s
  step_comes (Test n l) s = test_comes c r n l s
  step_comes (After n l) s = after_comes c r n l r.completion s
  step_comes (TurnBefore n e body) s = turn_before_comes c r n e body s
  step_comes (AfterBefore n e body) s = after_before_comes c r n e body r.completion s
  step_comes (TestBefore n e body) s = test_before_comes c r n e body s
  step_comes (Select is) s = select_comes c r is s
  step_comes (Items is) s = items_come c r r.completion is s

-- the step of the first task, and then the tasks that it gives way to before the others
pub step_keeps : (c : Course) (t : Task) (ts : List Task) (r : Registers) (s : State)
    → rest c (t ∷ ts) r s ≡ on (step c t r s) (λ x. rest c (x.tasks ++ ts) x.registers)
unfolding rest
step_keeps c t ts r s =
    ap (λ o. on o (rest c ts)) (step_comes c r t s)
    ∙ on_same (step c t r s) (go_on c) (rest c ts) (λ x. rest c (x.tasks ++ ts) x.registers)
    (λ x s. rest_append c x.tasks ts x.registers s)

pub main_begins : (p : Program) (budgets : BudgetSizes) (input : List ℕ) (turns : ℕ) (f : Function)
    → outcome p budgets input turns
    ≡ on (rest (course_of p budgets turns) (Call p.main 0 (line_of (function_at p.functions p.main)) ∷ [])
    (at_start f (turns + 1)) (start p (setting_of p budgets) input)) (λ r. done (first_of r.values))
unfolding rest perform
main_begins p budgets input turns f =
    sym (on_same (on (outcome p budgets input turns) gives) done (λ r. done (first_of r.values))
    (λ r. done (first_of r.values)) (λ r s. refl)
    ∙ on_on (outcome p budgets input turns) gives (λ r. done (first_of r.values))
    ∙ on_done (outcome p budgets input turns))
  where
    gives : Rvalue → Run Registers
    gives v = done (pushed v (at_start f (turns + 1)))
