-- The same relations hold of statements and of calls.
use Rattle.std.proofs.Common.{◌≡◌, ℕ, List, [], ◌∷◌, ◌++◌, map, Bool, true, false, Option, Some, None, refl, ap, ◌∙◌}
use Rattle.std.proofs.Common.{subst}
use Rattle.std.specs.Prelude.{not, length}
use Rattle.c_tree.specs.Tree.{Expression, kind_of, line_of}
use Rattle.c_tree.specs.Programs.{Function}
use Rattle.c_tree.specs.Statements.{First, nothing, first_expression, first_declaration, Statement}
use Rattle.c_tree.specs.Statements.{expression_statement, empty, declaration, block, if_then, if_else, while_do}
use Rattle.c_tree.specs.Statements.{do_while, for, switch, break, continue, return, Statements, no_statements}
use Rattle.c_tree.specs.Statements.{statements, SwitchItems, no_items, items}
use Rattle.c_tree.specs.declared.statement.CaseLabel.{CaseLabel}
use Rattle.source_meaning.specs.Statements.{Completion}
use Rattle.source_meaning.specs.Statements.{Normal, Broken, Continued, Returned}
use Rattle.source_meaning.specs.State.{Rvalue, Run, done, choose, tally, Setting, Env}
use Rattle.source_meaning.specs.Actions.{integer, is_zero}
use Rattle.source_meaning.specs.Structures.{rvalue}
use Rattle.source_meaning.specs.Expressions.{counted, argument, evaluate}
use Rattle.source_meaning.specs.Statements.{next_after, in_order, holds, perform, perform_first, LabeledRun}
use Rattle.source_meaning.specs.Statements.{run_labeled, is_case_of, is_default, labels_from, items_at, items_from}
use Rattle.source_meaning.specs.Statements.{labels_of, compared, or_default, run_items, after_switch, run_switch}
use Rattle.source_meaning.specs.Statements.{execute, each_of, items_of}
use Rattle.source_meaning.specs.Calls.{header_of, result_of, enter_begun, enter_found}
use Rattle.c_tree.specs.declared.program.Variable.{Variable}
use Rattle.c_tree.specs.Blocks.{all_of, block_objects, block_variables, switch_variables, first_variables}
use Rattle.source_meaning.specs.Blocks.{has_objects, scoped}
use Rattle.source_meaning.proofs.Acting.{acts_done, acts_skip, acts_stop, acts_tally, acts_read}
use Rattle.source_meaning.proofs.ActionsAct.{acts_set_up, acts_returned, acts_back_to, acts_enter_block}
use Rattle.source_meaning.proofs.ActionsAct.{acts_leave_block}
use Rattle.source_meaning.proofs.Related.{Related, evaluate_related, argument_related, initialize_all_related}

module _ (g : Setting) (variables : List Variable) (limit limit' depth depth' : ℕ)
    (call call' : ℕ → List Rvalue → ℕ → Run Rvalue)
    (R : (A : Type 0) → Run A → Run A → Type 0)
    (h : Related (record { setting = g; variables = variables; limit = limit; depth = depth; call = call })
    (record { setting = g; variables = variables; limit = limit'; depth = depth'; call = call' }) R) where
  abbrev env : Env
  env = record { setting = g; variables = variables; limit = limit; depth = depth; call = call }

  abbrev env' : Env
  env' = record { setting = g; variables = variables; limit = limit'; depth = depth'; call = call' }

  evaluated : (e : Expression) → R _ (evaluate env e) (evaluate env' e)
  evaluated = evaluate_related g variables limit limit' depth depth' call call' R h

  argued : (e : Expression) → R _ (argument (kind_of e) (line_of e) (evaluate env e))
      (argument (kind_of e) (line_of e) (evaluate env' e))
  argued = argument_related g variables limit limit' depth depth' call call' R h

  choose_related : {A : Type 0} (b : Bool) {r r' q q' : Run A} → R _ r q → R _ r' q'
      → R _ (choose b r r') (choose b q q')
  choose_related true p q = p
  choose_related false p q = q

  counted_related : {A : Type 0} {r r' : Run A} → R _ r r' → R _ (counted r) (counted r')
  counted_related p = h.on (h.action (acts_tally 1)) (λ _. p)

  done_related : {A : Type 0} (a : A) → R _ (done a) (done a)
  done_related a = h.action acts_done

  next_related : (completion : Completion) {rest rest' : Run Completion} → R _ rest rest'
      → R _ (next_after completion rest) (next_after completion rest')
  next_related Normal p = p
  next_related Broken p = done_related Broken
  next_related Continued p = done_related Continued
  next_related (Returned v) p = done_related (Returned v)

  holds_related : (e : Option Expression) → R _ (holds env e) (holds env' e)
  holds_related None = done_related true
  holds_related (Some e) = h.on (evaluated e) (λ v. done_related (not (is_zero v.value)))

  perform_related : (e : Option Expression) → R _ (perform env e) (perform env' e)
  perform_related None = h.action acts_skip
  perform_related (Some e) = h.on (evaluated e) (λ v. h.action acts_skip)

  first_related : (f : First) → R _ (perform_first env f) (perform_first env' f)
  first_related nothing = h.action acts_skip
  first_related (first_expression e) = perform_related (Some e)
  first_related (first_declaration ds) = initialize_all_related g variables limit limit' depth depth' call call' R h ds

  -- the items of a switch one by one: the same labels, and statements that are related
  abbrev SameItem : LabeledRun → LabeledRun → Type 0
  SameItem i j = (i.labels ≡ j.labels) × R _ i.run j.run

  abbrev SameItems : List LabeledRun → List LabeledRun → Type 0
  SameItems [] [] = Unit {0}
  SameItems [] (j ∷ js) = ⊥
  SameItems (i ∷ is) [] = ⊥
  SameItems (i ∷ is) (j ∷ js) = SameItem i j × SameItems is js

  abbrev SameFound : Option (List LabeledRun) → Option (List LabeledRun) → Type 0
  SameFound None None = Unit {0}
  SameFound None (Some js) = ⊥
  SameFound (Some is) None = ⊥
  SameFound (Some is) (Some js) = SameItems is js

  found_at : (o o' : Option (List CaseLabel)) → o ≡ o' → (i j : LabeledRun) → R _ i.run j.run
      → (is js : List LabeledRun) → SameItems is js
      → (p q : Option (List LabeledRun)) → SameFound p q → SameFound (items_at o i is p) (items_at o' j js q)
  found_at None None e i j r is js same p q f = f
  found_at None (Some ms) e i j r is js same p q f = absurd (cc)
  found_at (Some ls) None e i j r is js same p q f = absurd (cc)
  found_at (Some ls) (Some ms) e i j r is js same p q f = ((cc, r), same)

  found_from : (is_sought : CaseLabel → Bool) (is js : List LabeledRun) → SameItems is js
      → SameFound (items_from is_sought is) (items_from is_sought js)
  found_from is_sought [] [] same = tt
  found_from is_sought [] (j ∷ js) same = absurd same
  found_from is_sought (i ∷ is) [] same = absurd same
  found_from is_sought (i ∷ is) (j ∷ js) same =
      found_at (labels_from is_sought i.labels) (labels_from is_sought j.labels) (ap (labels_from is_sought) same.0.0) i
      j same.0.1 is js same.1
      (items_from is_sought is) (items_from is_sought js) (found_from is_sought is js same.1)

  default_related : (p q : Option (List LabeledRun)) → SameFound p q → (is js : List LabeledRun) → SameItems is js
      → SameFound (or_default p is) (or_default q js)
  default_related None None f is js same = found_from is_default is js same
  default_related None (Some b) f is js same = absurd f
  default_related (Some a) None f is js same = absurd f
  default_related (Some a) (Some b) f is js same = f

  labels_same : (is js : List LabeledRun) → SameItems is js → labels_of is ≡ labels_of js
  labels_same [] [] same = refl
  labels_same [] (j ∷ js) same = absurd same
  labels_same (i ∷ is) [] same = absurd same
  labels_same (i ∷ is) (j ∷ js) same = ap (λ a. a ++ labels_of is) same.0.0
      ∙ ap (λ b. j.labels ++ b) (labels_same is js same.1)

  tally_related : (n m : ℕ) → n ≡ m → R _ (tally n) (tally m)
  tally_related n m e = subst (λ k. R _ (tally n) (tally k)) e (h.action (acts_tally n))

  items_related : (is js : List LabeledRun) → SameItems is js
      → R _ (in_order (map run_labeled is)) (in_order (map run_labeled js))
  items_related [] [] same = done_related Normal
  items_related [] (j ∷ js) same = absurd same
  items_related (i ∷ is) [] same = absurd same
  items_related (i ∷ is) (j ∷ js) same =
      h.on (h.on (tally_related (length i.labels) (length j.labels) (ap length same.0.0)) (λ _. same.0.1))
      (λ completion. next_related completion (items_related is js same.1))

  run_related : (p q : Option (List LabeledRun)) → SameFound p q → R _ (run_items p) (run_items q)
  run_related None None f = done_related Normal
  run_related None (Some b) f = absurd f
  run_related (Some a) None f = absurd f
  run_related (Some a) (Some b) f = items_related a b f

  switch_related : (word : ℕ) (is js : List LabeledRun) → SameItems is js
      → R _ (run_switch word is) (run_switch word js)
  switch_related word is js same =
      h.on (tally_related _ _ (ap (compared word) (labels_same is js same))) (λ _.
      h.on (run_related _ _ (default_related _ _ (found_from (is_case_of word) is js same) is js same))
      (λ completion. done_related (after_switch completion)))

  scoped_related : (vs : List Variable) (line : ℕ) {r r' : Run Completion} → R _ r r'
      → R _ (scoped g vs line r) (scoped g vs line r')
  scoped_related vs line p =
      choose_related (has_objects vs)
      (h.on (h.action (acts_enter_block g vs line))
      (λ b. h.on p (λ completion. h.on (h.action (acts_leave_block b)) (λ _. done_related completion)))) p

  mutual
    pub execute_related : (s : Statement) → R _ (execute env s) (execute env' s)
    execute_related (expression_statement e) = counted_related (h.on (evaluated e) (λ _. done_related Normal))
    execute_related empty = counted_related (done_related Normal)
    execute_related (declaration ds) = h.on
        (initialize_all_related g variables limit limit' depth depth' call call' R h ds) (λ _. done_related Normal)
    execute_related (block line body) = counted_related
        (scoped_related (block_objects variables (block_variables body)) line (row_related body))
    execute_related (if_then e body) = counted_related
        (h.on (holds_related (Some e))
        (λ is_taken. choose_related is_taken (execute_related body) (done_related Normal)))
    execute_related (if_else e body other) =
        counted_related (h.on (holds_related (Some e))
        (λ is_taken. choose_related is_taken (execute_related body) (execute_related other)))
    execute_related (while_do e body) = counted_related
        (h.loop (holds_related (Some e)) (execute_related body) (h.action acts_skip))
    execute_related (do_while body e) = counted_related (h.loop_before (holds_related (Some e)) (execute_related body))
    execute_related (for line first condition step body) =
        counted_related (scoped_related (block_objects variables (first_variables first)) line
        (h.on (first_related first)
        (λ _. h.loop (holds_related condition) (execute_related body) (perform_related step))))
    execute_related (switch e line is) =
        counted_related (h.on (evaluated e)
        (λ v. counted_related
        (scoped_related (block_objects variables (switch_variables is)) line
        (switch_related v.value.word _ _ (switch_items_related is)))))
    execute_related break = counted_related (done_related Broken)
    execute_related continue = counted_related (done_related Continued)
    execute_related (return None) = counted_related (done_related (Returned (rvalue (integer 0))))
    execute_related (return (Some e)) = counted_related (h.on (argued e) (λ v. done_related (Returned v)))

    pub row_related : (ss : Statements) → R _ (in_order (each_of env ss)) (in_order (each_of env' ss))
    row_related no_statements = done_related Normal
    row_related (statements s ss) = h.on (execute_related s) (λ completion. next_related completion (row_related ss))

    switch_items_related : (is : SwitchItems) → SameItems (items_of env is) (items_of env' is)
    switch_items_related no_items = tt
    switch_items_related (items labels s is) = ((refl, execute_related s), switch_items_related is)

  pub begun_related : (f : Function) (vs : List Rvalue) (line : ℕ)
      → R _ (enter_begun env f vs line) (enter_begun env' f vs line)
  begun_related f vs line =
      h.on (h.action (acts_read (λ k s. refl))) (λ c. h.on (h.action (acts_set_up g (header_of f) vs line)) (λ _.
      h.on (counted_related (row_related f.body))
      (λ completion. h.on (h.action (acts_returned (result_of g f.type_number) completion))
      (λ v. h.on (h.action (acts_back_to c)) (λ _. done_related v)))))

module _ (g : Setting) (variables : List Variable) (limit limit' depth depth' : ℕ)
    (call call' : ℕ → List Rvalue → ℕ → Run Rvalue)
    (R : (A : Type 0) → Run A → Run A → Type 0)
    (h : Related (record { setting = g; variables = variables; limit = limit; depth = depth; call = call })
    (record { setting = g; variables = variables; limit = limit'; depth = depth'; call = call' }) R) where
  -- over the variables of another function
  elsewhere : (others : List Variable)
      → Related (record { setting = g; variables = others; limit = limit; depth = depth; call = call })
      (record { setting = g; variables = others; limit = limit'; depth = depth'; call = call' }) R
  elsewhere others = record
      { on = h.on; action = h.action; turn = h.turn; call = h.call; loop = h.loop; loop_before = h.loop_before }

  pub found_related : (o : Option Function) (vs : List Rvalue) (line : ℕ)
      → R _ (enter_found (record { setting = g; variables = variables; limit = limit; depth = depth; call = call }) o vs
      line) (enter_found (record
      { setting = g; variables = variables; limit = limit'; depth = depth'; call = call' }) o vs line)
  found_related None vs line = h.action acts_stop
  found_related (Some f) vs line = h.on h.turn
      (λ _. begun_related g (all_of f) limit limit' depth depth' call call' R (elsewhere (all_of f)) f vs line)
