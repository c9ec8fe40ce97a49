-- Statements keep objects sound.
use Rattle.source_meaning.specs.Good.{function_count, Any, ArgumentIs, Calling, CompletionIs, Context, Inside, Sure}
use Rattle.source_meaning.specs.Good.{context_of}
use Rattle.c_tree.specs.Valid.{Scope}
use Rattle.std.proofs.Common.{ℕ, zero, suc, ◌+◌, List, [], ◌∷◌, map, Bool, true, false, Option, Some, None, refl, sym}
use Rattle.std.proofs.Common.{subst, nat_lt}
use Rattle.std.specs.Prelude.{length}
use Rattle.addr_map.specs.Places.{MapSizes}
use Rattle.obj_memory.specs.Objects.{Objects}
use Rattle.c_tree.specs.Tree.{Expression}
use Rattle.c_tree.specs.Statements.{First, nothing, first_expression, first_declaration, Statement}
use Rattle.c_tree.specs.Statements.{expression_statement, empty, declaration, block, if_then, if_else, while_do}
use Rattle.c_tree.specs.Statements.{do_while, for, switch, break, continue, return, Statements, no_statements}
use Rattle.c_tree.specs.Statements.{statements, SwitchItems, no_items, items}
use Rattle.c_tree.specs.declared.statement.CaseLabel.{CaseLabel}
use Rattle.source_meaning.specs.Statements.{Completion}
use Rattle.source_meaning.specs.Statements.{Normal, Broken, Continued, Returned}
use Rattle.source_meaning.specs.State.{Run, done, pause, choose, change, Env}
use Rattle.source_meaning.specs.Actions.{integer, begin_turn}
use Rattle.source_meaning.specs.Statements.{next_after, in_order, holds, perform, perform_first, after_body, turns}
use Rattle.source_meaning.specs.Statements.{turns_before, LabeledRun, run_labeled, is_case_of, is_default, labels_from}
use Rattle.source_meaning.specs.Statements.{items_at, items_from, labels_of, compared, or_default, run_items}
use Rattle.source_meaning.specs.Statements.{after_switch, run_switch, in_block, execute, each_of, items_of}
use Rattle.source_meaning.proofs.Naming.{IsNoStructure, NamesIfAny, FirstNames, StatementNames, StatementsName}
use Rattle.source_meaning.proofs.Naming.{ItemsName}
use Rattle.c_tree.specs.declared.program.Variable.{Variable}
use Rattle.c_tree.specs.declared.expression.Kind.{Kind}
use Rattle.source_meaning.specs.Structures.{rvalue}
use Rattle.c_tree.specs.Blocks.{opened, block_variables, switch_variables, first_variables}
use Rattle.source_meaning.proofs.SureBlocks.{scoped_sure}
use Rattle.source_meaning.proofs.Separating.{ends_same}
use Rattle.source_meaning.proofs.Holding.{lives_same}
use Rattle.source_meaning.proofs.Sure.{zero_of_kind, sure_on, sure_any, sure_done, sure_skip, sure_pause, sure_tally}
use Rattle.source_meaning.proofs.Sure.{sure_counted, sure_choose, argument_is}
use Rattle.source_meaning.proofs.SureTree.{evaluate_sure, argument_sure, initialize_all_sure}

-- the items of a switch
abbrev AllSure : Context → Kind → List LabeledRun → Type 0
AllSure sc result [] = Unit {0}
AllSure sc result (i ∷ is) = Sure sc Any i.run (CompletionIs (function_count sc) result) × AllSure sc result is

abbrev SureIfAny : Context → Kind → Option (List LabeledRun) → Type 0
SureIfAny sc result None = Unit {0}
SureIfAny sc result (Some is) = AllSure sc result is

-- turns

module _ {sc : Context} where
  turn_by : {P : Objects → Type 0} (b : Bool)
      → Sure sc P (choose b (change (λ s. record s { turns = s.turns + 1 })) pause) (λ _. P)
  turn_by true = record {
    by = λ s good p. (
      record
          { good = good; lives = lives_same s.objects; frame = refl; ended = ends_same s.objects },
      p,
    );
  }
  turn_by false = sure_pause

  pub sure_begin_turn : {P : Objects → Type 0} (limit : ℕ) → Sure sc P (begin_turn limit) (λ _. P)
  sure_begin_turn limit = record { by = λ s good p. (turn_by (nat_lt s.turns limit)).by s good p }

module _ {sc : Context} {result : Kind} where
  next_sure : (completion : Completion) {rest : Run Completion}
      → Sure sc Any rest (CompletionIs (function_count sc) result)
      → Sure sc (CompletionIs (function_count sc) result completion) (next_after completion rest)
      (CompletionIs (function_count sc) result)
  next_sure Normal h = sure_any h
  next_sure Broken h = sure_done (λ o c. c)
  next_sure Continued h = sure_done (λ o c. c)
  next_sure (Returned v) h = sure_done (λ o c. c)

  after_sure : (completion : Completion) {rest : Run Completion}
      → Sure sc Any rest (CompletionIs (function_count sc) result)
      → Sure sc (CompletionIs (function_count sc) result completion) (after_body completion rest)
      (CompletionIs (function_count sc) result)
  after_sure Normal h = sure_any h
  after_sure Broken h = sure_done (λ o c. tt)
  after_sure Continued h = sure_any h
  after_sure (Returned v) h = sure_done (λ o c. c)

  switched_sure : (completion : Completion)
      → Sure sc (CompletionIs (function_count sc) result completion) (done (after_switch completion))
      (CompletionIs (function_count sc) result)
  switched_sure Normal = sure_done (λ o c. tt)
  switched_sure Broken = sure_done (λ o c. tt)
  switched_sure Continued = sure_done (λ o c. tt)
  switched_sure (Returned v) = sure_done (λ o c. c)

  module _ (limit : ℕ) {condition : Run Bool} {body : Run Completion} {step : Run (Unit {0})}
      (c : Sure sc Any condition (λ _. Any)) (b : Sure sc Any body (CompletionIs (function_count sc) result))
      (p : Sure sc Any step (λ _. Any)) where
    turns_sure : (n : ℕ) → Sure sc Any (turns n limit condition body step) (CompletionIs (function_count sc) result)
    turns_sure zero = sure_pause
    turns_sure (suc n) =
        sure_on c (λ again. sure_choose again
        (sure_on (sure_begin_turn limit) (λ _. sure_on b (λ x. after_sure x (sure_on p (λ _. turns_sure n)))))
        (sure_done (λ o h. tt)))

    turns_before_sure : (n : ℕ) → Sure sc Any (turns_before n limit condition body)
        (CompletionIs (function_count sc) result)
    turns_before_sure zero = sure_pause
    turns_before_sure (suc n) =
        sure_on (sure_begin_turn limit)
        (λ _. sure_on b (λ x. after_sure x
        (sure_on c (λ again. sure_choose again (turns_before_sure n) (sure_done (λ o h. tt))))))

module _ (sc : Context) (result : Kind) where
  found_sure : (o : Option (List CaseLabel)) (i : LabeledRun) (is : List LabeledRun) (p : Option (List LabeledRun))
      → Sure sc Any i.run (CompletionIs (function_count sc) result) → AllSure sc result is → SureIfAny sc result p
      → SureIfAny sc result (items_at o i is p)
  found_sure None i is p h all q = q
  found_sure (Some ls) i is p h all q = (h, all)

  from_sure : (is_sought : CaseLabel → Bool) (is : List LabeledRun) → AllSure sc result is
      → SureIfAny sc result (items_from is_sought is)
  from_sure is_sought [] h = tt
  from_sure is_sought (i ∷ is) h = found_sure (labels_from is_sought i.labels) i is (items_from is_sought is) h.0 h.1
      (from_sure is_sought is h.1)

  default_sure : (p : Option (List LabeledRun)) → SureIfAny sc result p → (all : List LabeledRun)
      → AllSure sc result all → SureIfAny sc result (or_default p all)
  default_sure None q all h = from_sure is_default all h
  default_sure (Some is) q all h = q

  items_sure : (is : List LabeledRun) → AllSure sc result is
      → Sure sc Any (in_order (map run_labeled is)) (CompletionIs (function_count sc) result)
  items_sure [] h = sure_done (λ o p. tt)
  items_sure (i ∷ is) h = sure_on (sure_on (sure_tally (length i.labels)) (λ _. h.0))
      (λ x. next_sure x (items_sure is h.1))

  run_sure : (p : Option (List LabeledRun)) → SureIfAny sc result p
      → Sure sc Any (run_items p) (CompletionIs (function_count sc) result)
  run_sure None h = sure_done (λ o p. tt)
  run_sure (Some is) h = items_sure is h

  switch_sure : (word : ℕ) (all : List LabeledRun) → AllSure sc result all
      → Sure sc Any (run_switch word all) (CompletionIs (function_count sc) result)
  switch_sure word all h =
      sure_on (sure_tally (compared word (labels_of all))) (λ _.
      sure_on (run_sure (or_default (items_from (is_case_of word) all) all)
      (default_sure (items_from (is_case_of word) all) (from_sure (is_case_of word) all h) all h)) switched_sure)

module _ {sc : Context} {env : Env} (c : Calling sc env) where
  pub holds_sure : (e : Option Expression) → NamesIfAny sc.scope e → Sure sc Any (holds env e) (λ _. Any)
  holds_sure None h = sure_done (λ o p. tt)
  holds_sure (Some e) h = sure_on (evaluate_sure c e h) (λ v. sure_done (λ o p. tt))

  pub perform_sure : (e : Option Expression) → NamesIfAny sc.scope e → Sure sc Any (perform env e) (λ _. Any)
  perform_sure None h = sure_skip
  perform_sure (Some e) h = sure_on (evaluate_sure c e h) (λ v. sure_any sure_skip)

  pub first_sure : (f : First) → FirstNames sc.scope f → Sure sc Any (perform_first env f) (λ _. Any)
  first_sure nothing h = sure_skip
  first_sure (first_expression e) h = perform_sure (Some e) h
  first_sure (first_declaration ds) h = initialize_all_sure c ds h

module _ {base : Scope} {sizes : MapSizes} {env : Env} (i : Inside base sizes env) where
  -- where some variables can be named
  abbrev at : List Variable → Context
  at variables = context_of base sizes env.variables variables

  blocked : (vs : List Variable) (numbers : List ℕ) (line : ℕ) {body : Run Completion}
      → Sure (at (opened numbers 0 env.variables vs)) Any body (CompletionIs (length base.functions) base.result)
      → Sure (at vs) Any (in_block env numbers line body) (CompletionIs (length base.functions) base.result)
  blocked vs numbers line {body = body} h = scoped_sure base sizes env.variables vs numbers env.setting i.at i.mapped
      line body h

  mutual
    pub execute_sure : (vs : List Variable) (s : Statement) → StatementNames (at vs).scope s
        → Sure (at vs) Any (execute env s) (CompletionIs (length base.functions) base.result)
    execute_sure vs (expression_statement e) h = sure_counted
        (sure_on (evaluate_sure (i.calling vs) e h) (λ v. sure_done (λ o p. tt)))
    execute_sure vs empty h = sure_counted (sure_done (λ o p. tt))
    execute_sure vs (declaration ds) h = sure_on (initialize_all_sure (i.calling vs) ds h) (λ _. sure_done (λ o p. tt))
    execute_sure vs (block line body) h = sure_counted
        (blocked vs (block_variables body) line (row_sure (opened (block_variables body) 0 env.variables vs) body h))
    execute_sure vs (if_then e body) h = sure_counted
        (sure_on (holds_sure (i.calling vs) (Some e) h.0)
        (λ b. sure_choose b (execute_sure vs body h.1) (sure_done (λ o p. tt))))
    execute_sure vs (if_else e body other) h =
        sure_counted (sure_on (holds_sure (i.calling vs) (Some e) h.0)
        (λ b. sure_choose b (execute_sure vs body h.1) (execute_sure vs other h.2)))
    execute_sure vs (while_do e body) h = sure_counted
        (turns_sure env.limit (holds_sure (i.calling vs) (Some e) h.0) (execute_sure vs body h.1) sure_skip env.depth)
    execute_sure vs (do_while body e) h = sure_counted
        (turns_before_sure env.limit (holds_sure (i.calling vs) (Some e) h.1) (execute_sure vs body h.0)
        sure_skip env.depth)
    execute_sure vs (for line first condition next body) h =
        let d = opened (first_variables first) 0 env.variables vs in
        sure_counted (blocked vs (first_variables first) line
        (sure_on (first_sure (i.calling d) first h.0)
        (λ _. turns_sure env.limit (holds_sure (i.calling d) condition h.1) (execute_sure d body h.3)
        (perform_sure (i.calling d) next h.2) env.depth)))
    execute_sure vs (switch e line is) h =
        let d = opened (switch_variables is) 0 env.variables vs in
        sure_counted (sure_on (evaluate_sure (i.calling vs) e h.0) (λ v.
        sure_any (sure_counted
        (blocked vs (switch_variables is) line
        (switch_sure (at d) base.result v.value.word (items_of env is) (switch_items_sure d is h.1))))))
    execute_sure vs break h = sure_counted (sure_done (λ o p. tt))
    execute_sure vs continue h = sure_counted (sure_done (λ o p. tt))
    execute_sure vs (return None) h = sure_counted
        (sure_done {a = Returned (rvalue (integer 0))}
        (λ o p. argument_is _ base.result (rvalue (integer 0)) o (subst IsNoStructure (sym h) tt)
        (tt, refl, zero_of_kind _ base.result)))
    execute_sure vs (return (Some e)) h =
        sure_counted (sure_on (argument_sure (i.calling vs) e h.0)
        (λ v. sure_done {a = Returned v} (λ o x. subst (λ k. ArgumentIs (length base.functions) k v o) h.1 x)))

    pub row_sure : (vs : List Variable) (ss : Statements) → StatementsName (at vs).scope ss
        → Sure (at vs) Any (in_order (each_of env ss)) (CompletionIs (length base.functions) base.result)
    row_sure vs no_statements h = sure_done (λ o p. tt)
    row_sure vs (statements s ss) h = sure_on (execute_sure vs s h.0) (λ x. next_sure x (row_sure vs ss h.1))

    switch_items_sure : (vs : List Variable) (is : SwitchItems) → ItemsName (at vs).scope is
        → AllSure (at vs) base.result (items_of env is)
    switch_items_sure vs no_items h = tt
    switch_items_sure vs (items labels s is) h = (execute_sure vs s h.0, switch_items_sure vs is h.1)
