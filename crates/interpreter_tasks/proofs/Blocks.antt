-- Statements mean their parts: blocks, conditions, and what follows them.
use Rattle.std.proofs.Common.{◌≡◌, ℕ, Bool, true, false, not, List, [], ◌∷◌, ◌++◌, sym, ap, ◌∙◌, Option}
use Rattle.std.proofs.Common.{Some, None}
use Rattle.c_tree.specs.declared.program.Variable.{Variable}
use Rattle.c_tree.specs.Tree.{Expression}
use Rattle.c_tree.specs.Statements.{First, nothing, first_expression, first_declaration}
use Rattle.c_tree.specs.Blocks.{all_of, block_objects}
use Rattle.source_meaning.specs.State.{State, Rvalue, Run, on, ◌>>=◌, done, choose, skip}
use Rattle.source_meaning.specs.Actions.{integer, is_zero}
use Rattle.source_meaning.specs.Structures.{rvalue}
use Rattle.source_meaning.specs.Expressions.{evaluate}
use Rattle.source_meaning.specs.Initializers.{initialize_all}
use Rattle.source_meaning.specs.Blocks.{Block, enter_block, has_objects, leave_block}
use Rattle.source_meaning.specs.Statements.{Completion, holds, perform as find, perform_first}
use Rattle.interpreter_tasks.specs.Registers.{Course, Registers, env_at, pushed}
use Rattle.interpreter_tasks.specs.Actions.{Drop, Leave, act}
use Rattle.interpreter_tasks.specs.Tasks.{Task, Do, Evaluate, perform, rest}
use Rattle.interpreter_tasks.specs.Parts.{condition_task, expression_tasks, first_tasks, in_block_if, in_block_tasks}
use Rattle.interpreter_tasks.proofs.Flow.{on_on, same_on, rest_append, last_one, evaluated}

-- A run in a block. Its completion is put into the registers q, and tasks on the registers r come to the same.
module _ (c : Course) (r q : Registers) (numbers : List ℕ) (line : ℕ) (ts : List Task) (run : Run Completion)
    (h : (bs : List Block) (s : State) → on (run s) (λ x. done (record q { completion = x; blocks = bs }))
    ≡ rest c ts (record r { blocks = bs }) s) where
  abbrev objects : List Variable
  objects = block_objects (all_of r.activation.function) numbers

  abbrev leaving : Block → Run Completion
  leaving b s = on (run s) (λ x s. done x (leave_block b s))

  abbrev into : Completion → Run Registers
  into x = done (record q { completion = x; blocks = r.blocks })

  left : (b : Block) (s : State)
      → on (leaving b s) into ≡ rest c (ts ++ Do Leave ∷ []) (record r { blocks = b ∷ r.blocks }) s
  unfolding rest perform act
  left b s =
      on_on (run s) (λ x s. done x (leave_block b s)) into
      ∙ sym (on_on (run s) (λ x. done (record q { completion = x; blocks = b ∷ r.blocks })) (rest c (Do Leave ∷ [])))
      ∙ ap (λ o. on o (rest c (Do Leave ∷ []))) (h (b ∷ r.blocks) s)
      ∙ rest_append c ts (Do Leave ∷ []) (record r { blocks = b ∷ r.blocks }) s

  block_if : (b : Bool) (s : State)
      → on (choose b (enter_block c.setting objects line >>= leaving) run s) into
      ≡ rest c (in_block_if b numbers line ts) r s
  unfolding rest perform act
  block_if true s =
      on_on (enter_block c.setting objects line s) leaving into
      ∙ same_on (enter_block c.setting objects line s) _ _ left
      ∙ sym (on_on (enter_block c.setting objects line s) (λ b. done (record r { blocks = b ∷ r.blocks }))
      (rest c (ts ++ Do Leave ∷ [])))
  block_if false s = h r.blocks s

  pub block_comes : (s : State)
      → on (choose (has_objects objects) (enter_block c.setting objects line >>= leaving) run s) into
      ≡ rest c (in_block_tasks r.activation numbers line ts) r s
  block_comes s = block_if (has_objects objects) s

module _ (c : Course) (r : Registers) where
  -- a condition, then a task on its value
  pub condition_then : (e : Expression) (t : Task) (k : Bool → Run Completion) (C : Completion → Run Registers)
      (s : State)
      → ((v : Rvalue) (s : State) → on (k (not (is_zero v.value)) s) C ≡ perform c t (pushed v r) s)
      → on (on (holds (env_at c r) (Some e) s) k) C ≡ rest c (Evaluate e ∷ t ∷ []) r s
  condition_then e t k C s h =
      on_on (holds (env_at c r) (Some e) s) k C
      ∙ on_on (evaluate (env_at c r) e s) (λ v. done (not (is_zero v.value))) _
      ∙ evaluated c r (t ∷ []) s e _ (λ v s. h v s ∙ last_one c t (pushed v r) s)

  -- one that may be left out
  pub any_condition_then : (o : Option Expression) (t : Task) (k : Bool → Run Completion)
      (C : Completion → Run Registers) (s : State)
      → ((v : Rvalue) (s : State) → on (k (not (is_zero v.value)) s) C ≡ perform c t (pushed v r) s)
      → on (on (holds (env_at c r) o s) k) C ≡ rest c (condition_task o ∷ t ∷ []) r s
  unfolding rest perform act
  any_condition_then None t k C s h =
      h (rvalue (integer 1)) s ∙ last_one c t (pushed (rvalue (integer 1)) r) s
  any_condition_then (Some e) t k C s h = condition_then e t k C s h

  -- an expression whose value is let go, declarations, and then a task
  module _ (t : Task) (k : Run Completion) (C : Completion → Run Registers)
      (h : (s : State) → on (k s) C ≡ perform c t r s) where
    behind : (s : State) → on (k s) C ≡ rest c (t ∷ []) r s
    behind s = h s ∙ last_one c t r s

    pub expression_then : (o : Option Expression) (s : State)
        → on (on (find (env_at c r) o s) (λ _. k)) C ≡ rest c (expression_tasks o ++ t ∷ []) r s
    unfolding rest perform act
    expression_then None s = behind s
    expression_then (Some e) s =
        on_on (on (evaluate (env_at c r) e s) (λ _. skip)) (λ _. k) C
        ∙ on_on (evaluate (env_at c r) e s) (λ _. skip) _
        ∙ evaluated c r (Do Drop ∷ t ∷ []) s e _ (λ v s. behind s)

    pub first_then : (f : First) (s : State)
        → on (on (perform_first (env_at c r) f s) (λ _. k)) C ≡ rest c (first_tasks f ++ t ∷ []) r s
    unfolding rest perform act
    first_then nothing s = behind s
    first_then (first_expression e) s = expression_then (Some e) s
    first_then (first_declaration ds) s =
        on_on (initialize_all (env_at c r) ds s) (λ _. k) C
        ∙ same_on (initialize_all (env_at c r) ds s) _ _ (λ _ s. behind s)
        ∙ sym (on_on (initialize_all (env_at c r) ds s) (λ _. done r) (rest c (t ∷ [])))
