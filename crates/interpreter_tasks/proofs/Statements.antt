-- Each statement means its parts.
use Rattle.std.proofs.Common.{◌≡◌, suc, [], ◌∷◌, refl, sym, ap, ◌∙◌, Some, None}
use Rattle.c_tree.specs.Tree.{kind_of, line_of}
use Rattle.c_tree.specs.Statements.{Statement, expression_statement, empty, declaration, block, if_then, if_else}
use Rattle.c_tree.specs.Statements.{while_do, do_while, for, switch, break, continue, return}
use Rattle.c_tree.specs.Blocks.{block_variables, first_variables, switch_variables}
use Rattle.source_meaning.specs.State.{State, Rvalue, Run, on, done}
use Rattle.source_meaning.specs.Structures.{take_value}
use Rattle.source_meaning.specs.Expressions.{evaluate}
use Rattle.source_meaning.specs.Initializers.{initialize_all}
use Rattle.source_meaning.specs.Statements.{Completion, Normal, Returned, each_of, in_order, items_of, run_switch}
use Rattle.interpreter_tasks.specs.Registers.{Course, Registers, env_at, pushed, completed}
use Rattle.interpreter_tasks.specs.Actions.{Count, Drop, Return, Take, act}
use Rattle.interpreter_tasks.specs.Tasks.{Do, Initialize, Execute, InOrder, Branch, Turn, TurnBefore}
use Rattle.interpreter_tasks.specs.Tasks.{Select, Loop, looping, perform, rest}
use Rattle.interpreter_tasks.specs.Parts.{in_block_tasks, statement_parts}
use Rattle.interpreter_tasks.proofs.Flow.{on_on, worked, no_work, last_one, evaluated}
use Rattle.interpreter_tasks.proofs.Blocks.{block_comes, condition_then, first_then}

module _ (c : Course) where
  module _ (r : Registers) where
    -- the completion of a statement
    abbrev into : Completion → Run Registers
    into x = done (completed x r)

    -- where a statement begins
    abbrev begun : Registers
    begun = completed Normal r

    pub statement_comes : (x : Statement) (s : State)
        → perform c (Execute x) r s ≡ rest c (statement_parts r.activation x).tasks begun
        (worked (statement_parts r.activation x).work s)
    unfolding rest perform act statement_parts
    statement_comes (expression_statement e) s =
        on_on (evaluate (env_at c r) e (worked 1 s)) (λ _. done Normal) into
        ∙ evaluated c begun (Do Drop ∷ []) (worked 1 s) e _ (λ v s. refl)
    statement_comes empty s = refl
    statement_comes (declaration ds) s =
        on_on (initialize_all (env_at c r) ds s) (λ _. done Normal) into
        ∙ last_one c (Initialize ds) begun s
        ∙ ap (rest c (Initialize ds ∷ []) begun) (no_work s)
    statement_comes (block line body) s =
        block_comes c begun r (block_variables body) line (InOrder body ∷ [])
        (in_order (each_of (env_at c r) body))
        (λ bs s. last_one c (InOrder body) (record begun { blocks = bs }) s) (worked 1 s)
    statement_comes (if_then e body) s =
        condition_then c begun e (Branch body None) _ into (worked 1 s) (λ v s. refl)
    statement_comes (if_else e body other) s =
        condition_then c begun e (Branch body (Some other)) _ into (worked 1 s) (λ v s. refl)
    statement_comes (while_do e body) s =
        last_one c (Turn (suc r.activation.left) (record { condition = Some e; body = body; step = None })) begun
        (worked 1 s)
    statement_comes (do_while body e) s =
        last_one c (TurnBefore (suc r.activation.left) e body) begun (worked 1 s)
    statement_comes (for line first condition onward body) s =
        block_comes c begun r (first_variables first) line _ _
        (λ bs s. first_then c (record begun { blocks = bs }) (Turn (suc r.activation.left) l)
        (looping (env_at c r) c.limit (suc r.activation.left) l)
        (λ x. done (record r { completion = x; blocks = bs })) (λ s. refl) first s) (worked 1 s)
      where
        l : Loop
        l = record { condition = condition; body = body; step = onward }
    statement_comes (switch e line is) s =
        on_on (evaluate (env_at c r) e (worked 1 s)) _ into
        ∙ evaluated c begun (Do (Count 1) ∷ in_block_tasks r.activation (switch_variables is) line (Select is ∷ []))
        (worked 1 s) e _ (λ v s.
        block_comes c (pushed v begun) r (switch_variables is) line (Select is ∷ [])
        (run_switch v.value.word (items_of (env_at c r) is))
        (λ bs s. last_one c (Select is) (record (pushed v begun) { blocks = bs }) s) (worked 1 s))
    statement_comes break s = refl
    statement_comes continue s = refl
    statement_comes (return None) s = refl
    statement_comes (return (Some e)) s =
        on_on (on (evaluate (env_at c r) e (worked 1 s)) take) (λ v. done (Returned v)) into
        ∙ on_on (evaluate (env_at c r) e (worked 1 s)) take (λ v. into (Returned v))
        ∙ evaluated c begun (Do (Take (kind_of e) (line_of e)) ∷ Do Return ∷ []) (worked 1 s) e _ (λ v s.
        sym (on_on (take v s) (λ w. done (pushed w begun)) (rest c (Do Return ∷ []))))
      where
        take : Rvalue → Run Rvalue
        take = take_value (kind_of e) (line_of e)
