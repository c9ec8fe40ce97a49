-- A function that gives nothing returns no other value than 0: none of its returns has an expression (C99 6.8.6.4).
use Rattle.std.proofs.Common.{◌≡◌, ℕ, zero, suc, List, [], ◌∷◌, Bool, true, false, Option, Some, None, refl, ap, ◌∙◌}
use Rattle.std.specs.Prelude.{length, map}
use Rattle.c_tree.specs.declared.expression.Kind.TheVariants.{Void}
use Rattle.c_tree.specs.declared.statement.CaseLabel.{CaseLabel}
use Rattle.c_tree.specs.Tree.{Expression, kind_of}
use Rattle.c_tree.specs.Kinds.{is_kind, is_value}
use Rattle.c_tree.specs.Statements.{Statement, expression_statement, empty, declaration, block, if_then, if_else}
use Rattle.c_tree.specs.Statements.{while_do, do_while, for, switch, break, continue, return, Statements}
use Rattle.c_tree.specs.Statements.{no_statements, statements, SwitchItems, no_items, items}
use Rattle.c_tree.specs.Blocks.{block_objects, block_variables, switch_variables, first_variables}
use Rattle.c_tree.specs.Valid.{Scope, is_valid, is_condition, within}
use Rattle.c_tree.specs.ValidProgram.{Inside, in_loop, in_switch, is_first, is_condition_if, is_expression_if}
use Rattle.c_tree.specs.ValidProgram.{is_return, is_statement}
use Rattle.c_tree.specs.ValidProgram.{are_statements, are_items}
use Rattle.source_meaning.specs.State.{State, Outcome, Gives, Ended, Paused, Run, on, ◌>>=◌, choose, done, change}
use Rattle.source_meaning.specs.State.{skip, tally, Env}
use Rattle.source_meaning.specs.Actions.{integer, begin_turn}
use Rattle.source_meaning.specs.Structures.{rvalue}
use Rattle.source_meaning.specs.Expressions.{counted, evaluate}
use Rattle.source_meaning.specs.Initializers.{initialize_all}
use Rattle.source_meaning.specs.Blocks.{has_objects, enter_block, leave_block}
use Rattle.source_meaning.specs.Statements.{Completion, Normal, Broken, Continued, Returned, next_after, in_order}
use Rattle.source_meaning.specs.Statements.{holds, perform, perform_first, labels_of, compared}
use Rattle.source_meaning.specs.Statements.{after_body, turns, turns_before, LabeledRun, run_labeled, is_case_of}
use Rattle.source_meaning.specs.Statements.{is_default, labels_from, items_at, items_from, or_default, run_items}
use Rattle.source_meaning.specs.Statements.{after_switch, run_switch, in_block, execute, each_of, items_of}
use Rattle.source_meaning.proofs.ValidNames.{both, three, five, same_kind}

abbrev pub ReturnsZero : Completion → Type 0
ReturnsZero Normal = Unit {0}
ReturnsZero Broken = Unit {0}
ReturnsZero Continued = Unit {0}
ReturnsZero (Returned v) = v ≡ rvalue (integer 0)

abbrev pub CompletesWithZero : Outcome Completion → Type 0
CompletesWithZero (Gives completion s) = ReturnsZero completion
CompletesWithZero (Ended e s) = Unit {0}
CompletesWithZero (Paused s) = Unit {0}

-- wherever a run begins
pub record GivesNothing (r : Run Completion) : Type 0 where
  pub by : (s : State) → CompletesWithZero (r s)

-- ---- runs one after another

nothing_done : (completion : Completion) → ReturnsZero completion → GivesNothing (done completion)
nothing_done completion h = record { by = λ s. h }

nothing_on : {A : Type 0} (o : Outcome A) (next : A → Run Completion) → ((a : A) → GivesNothing (next a))
    → CompletesWithZero (on o next)
nothing_on (Gives a s) next h = (h a).by s
nothing_on (Ended e s) next h = tt
nothing_on (Paused s) next h = tt

-- behind a run of any value
nothing_behind : {A : Type 0} (r : Run A) {next : A → Run Completion} → ((a : A) → GivesNothing (next a))
    → GivesNothing (r >>= next)
nothing_behind r {next = next} h = record { by = λ s. nothing_on (r s) next h }

completed_on : (o : Outcome Completion) (next : Completion → Run Completion) → CompletesWithZero o
    → ((completion : Completion) → ReturnsZero completion → GivesNothing (next completion))
    → CompletesWithZero (on o next)
completed_on (Gives completion s) next z h = (h completion z).by s
completed_on (Ended e s) next z h = tt
completed_on (Paused s) next z h = tt

-- behind one that completes
completed : {r : Run Completion} {next : Completion → Run Completion} → GivesNothing r
    → ((completion : Completion) → ReturnsZero completion → GivesNothing (next completion))
    → GivesNothing (r >>= next)
completed {r = r} {next = next} g h = record { by = λ s. completed_on (r s) next (g.by s) h }

nothing_counted : {r : Run Completion} → GivesNothing r → GivesNothing (counted r)
nothing_counted h = nothing_behind (tally 1) (λ _. h)

nothing_chosen : (b : Bool) {r other : Run Completion} → GivesNothing r → GivesNothing other
    → GivesNothing (choose b r other)
nothing_chosen true g h = g
nothing_chosen false g h = h

nothing_next : (completion : Completion) {rest : Run Completion} → GivesNothing rest → ReturnsZero completion
    → GivesNothing (next_after completion rest)
nothing_next Normal h z = h
nothing_next Broken h z = nothing_done Broken tt
nothing_next Continued h z = nothing_done Continued tt
nothing_next (Returned v) h z = nothing_done (Returned v) z

-- ---- loops

nothing_after : (completion : Completion) {rest : Run Completion} → GivesNothing rest → ReturnsZero completion
    → GivesNothing (after_body completion rest)
nothing_after Normal h z = h
nothing_after Broken h z = nothing_done Normal tt
nothing_after Continued h z = h
nothing_after (Returned v) h z = nothing_done (Returned v) z

module _ (limit : ℕ) (condition : Run Bool) (body : Run Completion) (b : GivesNothing body) where
  nothing_turns : (step : Run (Unit {0})) (n : ℕ) → GivesNothing (turns n limit condition body step)
  nothing_turns step zero = record { by = λ s. tt }
  nothing_turns step (suc n) =
      nothing_behind condition (λ again. nothing_chosen again
      (nothing_behind (begin_turn limit) (λ _. completed b (λ completion z.
      nothing_after completion (nothing_behind step (λ _. nothing_turns step n)) z)))
      (nothing_done Normal tt))

  nothing_turns_before : (n : ℕ) → GivesNothing (turns_before n limit condition body)
  nothing_turns_before zero = record { by = λ s. tt }
  nothing_turns_before (suc n) =
      nothing_behind (begin_turn limit) (λ _. completed b (λ completion z.
      nothing_after completion
      (nothing_behind condition (λ again. nothing_chosen again (nothing_turns_before n) (nothing_done Normal tt))) z))

-- ---- blocks and switches

nothing_in_block : (env : Env) (numbers : List ℕ) (line : ℕ) {body : Run Completion} → GivesNothing body
    → GivesNothing (in_block env numbers line body)
nothing_in_block env numbers line h =
    let own = block_objects env.variables numbers in
    nothing_chosen (has_objects own)
    (nothing_behind (enter_block env.setting own line) (λ b.
    completed h (λ completion z. nothing_behind (change (leave_block b)) (λ _. nothing_done completion z)))) h

abbrev AllGiveNothing : List LabeledRun → Type 0
AllGiveNothing [] = Unit {0}
AllGiveNothing (i ∷ is) = GivesNothing i.run × AllGiveNothing is

abbrev IfAnyGiveNothing : Option (List LabeledRun) → Type 0
IfAnyGiveNothing None = Unit {0}
IfAnyGiveNothing (Some is) = AllGiveNothing is

nothing_found : (o : Option (List CaseLabel)) (i : LabeledRun) (is : List LabeledRun) (p : Option (List LabeledRun))
    → GivesNothing i.run → AllGiveNothing is → IfAnyGiveNothing p → IfAnyGiveNothing (items_at o i is p)
nothing_found None i is p h all q = q
nothing_found (Some ls) i is p h all q = (h, all)

nothing_from : (is_sought : CaseLabel → Bool) (is : List LabeledRun) → AllGiveNothing is
    → IfAnyGiveNothing (items_from is_sought is)
nothing_from is_sought [] h = tt
nothing_from is_sought (i ∷ is) h =
    nothing_found (labels_from is_sought i.labels) i is (items_from is_sought is) h.0 h.1
    (nothing_from is_sought is h.1)

nothing_default : (p : Option (List LabeledRun)) → IfAnyGiveNothing p → (all : List LabeledRun) → AllGiveNothing all
    → IfAnyGiveNothing (or_default p all)
nothing_default None q all h = nothing_from is_default all h
nothing_default (Some is) q all h = q

nothing_items : (is : List LabeledRun) → AllGiveNothing is → GivesNothing (in_order (map run_labeled is))
nothing_items [] h = nothing_done Normal tt
nothing_items (i ∷ is) h =
    completed (nothing_behind (tally (length i.labels)) (λ _. h.0))
    (λ completion z. nothing_next completion (nothing_items is h.1) z)

nothing_run : (p : Option (List LabeledRun)) → IfAnyGiveNothing p → GivesNothing (run_items p)
nothing_run None h = nothing_done Normal tt
nothing_run (Some is) h = nothing_items is h

switched_zero : (completion : Completion) → ReturnsZero completion → ReturnsZero (after_switch completion)
switched_zero Normal z = tt
switched_zero Broken z = tt
switched_zero Continued z = tt
switched_zero (Returned v) z = z

nothing_switch : (word : ℕ) (all : List LabeledRun) → AllGiveNothing all → GivesNothing (run_switch word all)
nothing_switch word all h =
    nothing_behind (tally (compared word (labels_of all))) (λ _.
    completed (nothing_run (or_default (items_from (is_case_of word) all) all)
    (nothing_default (items_from (is_case_of word) all) (nothing_from (is_case_of word) all h) all h))
    (λ completion z. nothing_done (after_switch completion) (switched_zero completion z)))

-- ---- statements

-- an expression of no value is returned by no valid statement
no_expression : (scope : Scope) (e : Expression) → scope.result ≡ Void → is_return scope (Some e) ≡ true → ⊥
no_expression scope e void h =
    let q = three (is_valid scope e) (is_kind (kind_of e) scope.result) (is_value (kind_of e)) h in
    let none : is_value (kind_of e) ≡ false = ap is_value (same_kind (kind_of e) scope.result q.1 ∙ void) in
    cc

module _ (env : Env) where
  mutual
    execute_nothing : (scope : Scope) → scope.result ≡ Void → (inside : Inside) (s : Statement)
        → is_statement scope inside s ≡ true → GivesNothing (execute env s)
    execute_nothing scope void inside (expression_statement e) h =
        nothing_counted (nothing_behind (evaluate env e) (λ _. nothing_done Normal tt))
    execute_nothing scope void inside empty h = nothing_counted (nothing_done Normal tt)
    execute_nothing scope void inside (declaration ds) h =
        nothing_behind (initialize_all env ds) (λ _. nothing_done Normal tt)
    execute_nothing scope void inside (block line body) h =
        nothing_counted (nothing_in_block env (block_variables body) line
        (row_nothing (within scope (block_variables body)) void inside body h))
    execute_nothing scope void inside (if_then e s) h =
        let q = three (is_condition scope e) (is_statement scope inside s) _ h in
        nothing_counted (nothing_behind (holds env (Some e)) (λ b.
        nothing_chosen b (execute_nothing scope void inside s q.1) (nothing_done Normal tt)))
    execute_nothing scope void inside (if_else e s other) h =
        let q = five (is_condition scope e) (is_statement scope inside s) _ (is_statement scope inside other) _ h in
        nothing_counted (nothing_behind (holds env (Some e)) (λ b.
        nothing_chosen b (execute_nothing scope void inside s q.1) (execute_nothing scope void inside other q.3)))
    execute_nothing scope void inside (while_do e s) h =
        let q = three (is_condition scope e) (is_statement scope in_loop s) _ h in
        nothing_counted (nothing_turns env.limit (holds env (Some e)) (execute env s)
        (execute_nothing scope void in_loop s q.1) skip env.depth)
    execute_nothing scope void inside (do_while s e) h =
        let q = three (is_statement scope in_loop s) _ (is_condition scope e) h in
        nothing_counted (nothing_turns_before env.limit (holds env (Some e)) (execute env s)
        (execute_nothing scope void in_loop s q.0) env.depth)
    execute_nothing scope void inside (for line first condition step s) h =
        let d = within scope (first_variables first) in
        let q = five (is_first d first) (is_condition_if d condition) (is_expression_if d step)
        (is_statement d in_loop s) _ h in
        nothing_counted (nothing_in_block env (first_variables first) line
        (nothing_behind (perform_first env first) (λ _.
        nothing_turns env.limit (holds env condition) (execute env s) (execute_nothing d void in_loop s q.3)
        (perform env step) env.depth)))
    execute_nothing scope void inside (switch e line is) h =
        let d = within scope (switch_variables is) in
        let q = five (is_valid scope e) _ _ _ (are_items d (in_switch inside) is) h in
        nothing_counted (nothing_behind (evaluate env e) (λ v.
        nothing_counted (nothing_in_block env (switch_variables is) line
        (nothing_switch v.value.word (items_of env is) (items_nothing d void (in_switch inside) is q.4)))))
    execute_nothing scope void inside break h = nothing_counted (nothing_done Broken tt)
    execute_nothing scope void inside continue h = nothing_counted (nothing_done Continued tt)
    execute_nothing scope void inside (return None) h =
        nothing_counted (nothing_done (Returned (rvalue (integer 0))) refl)
    execute_nothing scope void inside (return (Some e)) h = absurd (no_expression scope e void h)

    pub row_nothing : (scope : Scope) → scope.result ≡ Void → (inside : Inside) (ss : Statements)
        → are_statements scope inside ss ≡ true → GivesNothing (in_order (each_of env ss))
    row_nothing scope void inside no_statements h = nothing_done Normal tt
    row_nothing scope void inside (statements s ss) h =
        let q = both (is_statement scope inside s) (are_statements scope inside ss) h in
        completed (execute_nothing scope void inside s q.0)
        (λ completion z. nothing_next completion (row_nothing scope void inside ss q.1) z)

    items_nothing : (scope : Scope) → scope.result ≡ Void → (inside : Inside) (is : SwitchItems)
        → are_items scope inside is ≡ true → AllGiveNothing (items_of env is)
    items_nothing scope void inside no_items h = tt
    items_nothing scope void inside (items labels s is) h =
        let q = both (is_statement scope inside s) (are_items scope inside is) h in
        (execute_nothing scope void inside s q.0, items_nothing scope void inside is q.1)
