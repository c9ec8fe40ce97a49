-- The meaning of statements (C99 6.8).
use Rattle.std.specs.Prelude.{ℕ, zero, suc, ◌+◌, Bool, true, false, not, ◌==◌, List, [], ◌∷◌, ◌++◌, map, length, Option}
use Rattle.std.specs.Prelude.{Some, None}
use Rattle.c_tree.specs.declared.statement.CaseLabel.{CaseLabel}
use Rattle.c_tree.specs.declared.statement.CaseLabel.TheVariants.{Case, Default}
use Rattle.c_tree.specs.Tree.{Expression, kind_of, line_of}
use Rattle.c_tree.specs.Statements.{First, nothing, first_expression, first_declaration, Statement}
use Rattle.c_tree.specs.Statements.{expression_statement, empty, declaration, block, if_then, if_else, while_do}
use Rattle.c_tree.specs.Statements.{do_while, for, switch, break, continue, return, Statements, no_statements}
use Rattle.c_tree.specs.Statements.{statements, SwitchItems, no_items, items}
use Rattle.c_tree.specs.Blocks.{block_objects, block_variables, switch_variables, first_variables}
use Rattle.source_meaning.specs.Blocks.{scoped}
use Rattle.source_meaning.specs.State.{Rvalue, Run, ◌>>=◌, ◌>>◌, done, pause, choose, skip, tally, Env}
use Rattle.source_meaning.specs.Actions.{begin_turn, integer, is_zero}
use Rattle.source_meaning.specs.Structures.{rvalue}
use Rattle.source_meaning.specs.Expressions.{counted, argument, evaluate}
use Rattle.source_meaning.specs.Initializers.{initialize_all}

-- how a statement completes: by its end, by `break`, by `continue`, or by `return` with the value of its expression, or
-- a word of 0 where it has none (6.8.6)
pub data Completion : Type 0 where
  Normal : Completion
  Broken : Completion
  Continued : Completion
  Returned : Rvalue → Completion

-- statements one after another

-- what follows a statement that another follows
abbrev pub next_after : Completion → Run Completion → Run Completion
next_after Normal rest = rest
next_after Broken rest = done Broken
next_after Continued rest = done Continued
next_after (Returned v) rest = done (Returned v)

abbrev pub in_order : List (Run Completion) → Run Completion
in_order [] = done Normal
in_order (r ∷ rs) = do
  completion ← r
  next_after completion (in_order rs)

-- loops (6.8.5)

-- whether a condition holds; one that is left out does
abbrev pub holds : Env → Option Expression → Run Bool
holds env None = done true
holds env (Some e) = do
  v ← evaluate env e
  done (not (is_zero v.value))

abbrev pub perform : Env → Option Expression → Run (Unit {0})
perform env None = skip
perform env (Some e) = do
  evaluate env e
  skip

abbrev pub perform_first : Env → First → Run (Unit {0})
perform_first env nothing = skip
perform_first env (first_expression e) = perform env (Some e)
perform_first env (first_declaration ds) = initialize_all env ds

-- what follows the body of a loop: the rest of the loop, or what is behind it
abbrev pub after_body : Completion → Run Completion → Run Completion
after_body Normal rest = rest
after_body Broken rest = done Normal
after_body Continued rest = rest
after_body (Returned v) rest = done (Returned v)

-- the turns of a loop, at most n of them: its condition, a turn begun, its body, and its step
abbrev pub turns : (n : ℕ) → (limit : ℕ) → Run Bool → Run Completion → Run (Unit {0}) → Run Completion
turns zero limit condition body step = pause
turns (suc n) limit condition body step = do
  again ← condition
  choose again (do
    begin_turn limit
    completion ← body
    after_body completion (do
      step
      turns n limit condition body step)) (done Normal)

-- the turns of a loop whose condition comes behind its body
abbrev pub turns_before : (n : ℕ) → (limit : ℕ) → Run Bool → Run Completion → Run Completion
turns_before zero limit condition body = pause
turns_before (suc n) limit condition body = do
  begin_turn limit
  completion ← body
  after_body completion (do
    again ← condition
    choose again (turns_before n limit condition body) (done Normal))

-- switch (6.8.4.2)

-- an item of a switch: its labels, each of which is a statement that is reached before the statement behind it (6.8.1)
pub record LabeledRun : Type 0 where
  pub labels : List CaseLabel
  pub run : Run Completion

abbrev pub run_labeled : LabeledRun → Run Completion
run_labeled i = do
  tally (length i.labels)
  i.run

abbrev pub is_case_of : (word : ℕ) → CaseLabel → Bool
is_case_of word (Case k) = k == word
is_case_of word Default = false

abbrev pub is_default : CaseLabel → Bool
is_default (Case k) = false
is_default Default = true

-- the labels of an item from the first one of some kind on
abbrev pub labels_from : (CaseLabel → Bool) → List CaseLabel → Option (List CaseLabel)
labels_from is_sought [] = None
labels_from is_sought (l ∷ ls) = elim (is_sought l) [ true ↦ Some (l ∷ ls) | false ↦ labels_from is_sought ls ]

-- the items from the first label of some kind on, else others
abbrev pub items_at : Option (List CaseLabel) → LabeledRun → (rest : List LabeledRun)
    → (others : Option (List LabeledRun)) → Option (List LabeledRun)
items_at (Some ls) i rest others = Some (record { labels = ls; run = i.run } ∷ rest)
items_at None i rest others = others

abbrev pub items_from : (CaseLabel → Bool) → List LabeledRun → Option (List LabeledRun)
items_from is_sought [] = None
items_from is_sought (i ∷ is) = items_at (labels_from is_sought i.labels) i is (items_from is_sought is)

abbrev pub labels_of : List LabeledRun → List CaseLabel
labels_of [] = []
labels_of (i ∷ is) = i.labels ++ labels_of is

-- how many case labels a value is compared with: all up to the first that is equal
abbrev pub compared : (word : ℕ) → List CaseLabel → ℕ
compared word [] = 0
compared word (Default ∷ ls) = compared word ls
compared word (Case k ∷ ls) = elim (k == word) [ true ↦ 1 | false ↦ 1 + compared word ls ]

-- the items that are run: from the case label of the value on, else from the default label, else none
abbrev pub or_default : Option (List LabeledRun) → (all : List LabeledRun) → Option (List LabeledRun)
or_default (Some is) all = Some is
or_default None all = items_from is_default all

abbrev pub run_items : Option (List LabeledRun) → Run Completion
run_items None = done Normal
run_items (Some is) = in_order (map run_labeled is)

-- how a switch completes as its block does
abbrev pub after_switch : Completion → Completion
after_switch Normal = Normal
after_switch Broken = Normal
after_switch Continued = Continued
after_switch (Returned v) = Returned v

abbrev pub run_switch : (word : ℕ) → List LabeledRun → Run Completion
run_switch word all = do
  tally (compared word (labels_of all))
  completion ← run_items (or_default (items_from (is_case_of word) all) all)
  done (after_switch completion)

-- a run in the block that declares some variables
abbrev pub in_block : {A : Type 0} → Env → (numbers : List ℕ) → (line : ℕ) → Run A → Run A
in_block env numbers line body = scoped env.setting (block_objects env.variables numbers) line body

-- Each statement that is reached is work, but a declaration. A block is entered at the line of its `{`; a `for` with a
-- declaration is one around its loop, at the line of the word (6.8.5 paragraph 5); the block of a switch is entered
-- once its value was found.
abbrev mutual
  pub execute : Env → Statement → Run Completion
  execute env (expression_statement e) = counted (do
    evaluate env e
    done Normal)
  execute env empty = counted (done Normal)
  execute env (declaration ds) = do
    initialize_all env ds
    done Normal
  execute env (block line body) = counted (in_block env (block_variables body) line (in_order (each_of env body)))
  execute env (if_then e body) = counted (do
    is_taken ← holds env (Some e)
    choose is_taken (execute env body) (done Normal))
  execute env (if_else e body other) = counted (do
    is_taken ← holds env (Some e)
    choose is_taken (execute env body) (execute env other))
  execute env (while_do e body) = counted
      (turns env.depth env.limit (holds env (Some e)) (execute env body) skip)
  execute env (do_while body e) = counted
      (turns_before env.depth env.limit (holds env (Some e)) (execute env body))
  execute env (for line first condition step body) = counted (in_block env (first_variables first) line (do
    perform_first env first
    turns env.depth env.limit (holds env condition) (execute env body) (perform env step)))
  execute env (switch e line is) = counted (do
    v ← evaluate env e
    counted (in_block env (switch_variables is) line (run_switch v.value.word (items_of env is))))
  execute env break = counted (done Broken)
  execute env continue = counted (done Continued)
  execute env (return None) = counted (done (Returned (rvalue (integer 0))))
  execute env (return (Some e)) = counted (do
    v ← argument (kind_of e) (line_of e) (evaluate env e)
    done (Returned v))

  pub each_of : Env → Statements → List (Run Completion)
  each_of env no_statements = []
  each_of env (statements s ss) = execute env s ∷ each_of env ss

  pub items_of : Env → SwitchItems → List LabeledRun
  items_of env no_items = []
  items_of env (items labels s is) = record { labels = labels; run = execute env s } ∷ items_of env is
