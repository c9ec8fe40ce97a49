-- Statements keep what expressions, declarations and scopes keep; so they lead to a file behind them.
use Rattle.std.proofs.Common.{◌≡◌, ℕ, Bool, true, false, List, [], ◌++◌, Option, Some, None}
use Rattle.std.specs.Prelude.{Ok, Err}
use Rattle.obj_memory.specs.declared.int_type.IntType.{IntType}
use Rattle.c_syntax.specs.Statements.{Block, BlockItem, BlockItems, ForInit}
use Rattle.c_syntax.specs.Statements as t
use Rattle.c_syntax.specs.Tree.{Expression}
use Rattle.c_tree.specs.declared.c_type.TypeWord.{TypeWord}
use Rattle.c_tree.specs.declared.statement.CaseLabel.{CaseLabel}
use Rattle.c_tree.specs.Statements.{First, Statement, Statements, SwitchItems}
use Rattle.c_tree.specs.Statements as tree
use Rattle.c_tree.specs.Tree.{kind_of}
use Rattle.c_const.specs.Integers.{constant_word, type_of}
use Rattle.c_faults.specs.declared.fault.Fault.{Fault}
use Rattle.c_faults.specs.Answer.{Answer, ◌>>=◌}
use Rattle.c_rules.specs.Values.{Value}
use Rattle.c_typing_state.specs.State.{State, Typing, done, judged, ◌>>>◌}
use Rattle.c_expression_typing.specs.Constructs.{valued}
use Rattle.c_expression_typing.specs.Typed.{typed}
use Rattle.c_unit_typing.specs.Constructs.{Around, Labelled, Labels, behind_first, case_label, case_with, controlled}
use Rattle.c_unit_typing.specs.Constructs.{controlling, controls, controls_if, declaration_typed, default_label}
use Rattle.c_unit_typing.specs.Constructs.{do_behind, do_typed, evaluated, evaluated_if, expression_typed, fault_before}
use Rattle.c_unit_typing.specs.Constructs.{fault_or, first_typed, for_typed, head_typed, if_else_typed, if_typed}
use Rattle.c_unit_typing.specs.Constructs.{in_scope, jump, labelled, labels_on, looping, no_labels, returned}
use Rattle.c_unit_typing.specs.Constructs.{returned_nothing, returned_value, scope_closed, scope_opened, switch_typed}
use Rattle.c_unit_typing.specs.Constructs.{switches, switching, switching_on, valued_if, while_typed, without_labels}
use Rattle.c_unit_typing.specs.Declarations.{declaration}
use Rattle.c_unit_typing.specs.Files.{File, FileTyping, finished, in_state, ◌~>◌}
use Rattle.c_unit_typing.specs.Statements.{block, block_item, block_items, statement, switch_block, switch_item}
use Rattle.c_unit_typing.specs.Statements.{switch_items}
use Rattle.typing_laws.specs.Validity.Regular.{is_regular}
use Rattle.typing_laws.specs.Validity.Sound.{IsFormed}
use Rattle.typing_laws.proofs.Validity.Common.{first, second}
use Rattle.typing_laws.specs.Declarators.Extending.{Extends}
use Rattle.typing_laws.proofs.Declarators.Parameters.{within_formed}
use Rattle.typing_laws.specs.Scopes.Leaving.{FileLeads, Leading}
use Rattle.typing_laws.specs.Scopes.Regular.{are_regular_block_items, is_regular_block, is_regular_block_item}
use Rattle.typing_laws.specs.Scopes.Regular.{is_regular_declaration, is_regular_first, is_regular_if}
use Rattle.typing_laws.specs.Scopes.Regular.{is_regular_statement}
use Rattle.typing_laws.proofs.Scopes.Declarations.{declaration_leads}
use Rattle.typing_laws.proofs.Scopes.Initializers.{IfBehind, ValueWalk, judged_walks}
use Rattle.typing_laws.proofs.Scopes.Initializers.{then_state, values_walk, walks_then}
use Rattle.typing_laws.proofs.Scopes.Leading.{closed_leads, file_on, file_same, leads_by, state_leads}

abbrev pub IfFileBehind : {A : Type 0} → (File → File → Type 0) → File → Answer (File × A) → Type 0
IfFileBehind files f (Ok r) = files f r.0
IfFileBehind files f (Err e) = Unit {0}

-- what is added where statements are typed: a relation of states that the values of expressions keep, and one of files
-- that declarations and scopes keep
pub record Walk (states : State → State → Type 0) (files : File → File → Type 0) : Type 0 where
  pub values : ValueWalk states
  pub file_same : (f : File) → IsFormed f.state → files f f
  pub file_on : (f g h : File) → files f g → files g h → files f h
  pub file_formed : (f g : File) → files f g → IsFormed g.state
  pub in_file : (f : File) (t : State) → states f.state t → files f (record f { state = t })
  pub scope : (f g : File) → IsFormed f.state → files (scope_opened f) g → files f (scope_closed g)
  pub declared : (in_head : Bool) (d : t.Declaration) → is_regular_declaration d ≡ true → (f : File) → IsFormed f.state
      → IfFileBehind files f (declaration in_head d f)

module _ (states : State → State → Type 0) (files : File → File → Type 0) (walk : Walk states files) where
  -- constructs behind one another

  from_file : {A : Type 0} (f g : File) → files f g → (a : Answer (File × A)) → IfFileBehind files g a
      → IfFileBehind files f a
  from_file f g h (Ok r) is = walk.file_on f g r.0 h is
  from_file f g h (Err e) is = tt

  then_file : {A B : Type 0} (f : File) (a : Answer (File × A)) (next : A → FileTyping B) → IfFileBehind files f a
      → ((x : A) (g : File) → IsFormed g.state → IfFileBehind files g (next x g))
      → IfFileBehind files f (a >>= λ r. next r.1 r.0)
  then_file f (Ok r) next h g = from_file f r.0 h (next r.1 r.0) (g r.1 r.0 (walk.file_formed f r.0 h))
  then_file f (Err e) next h g = tt

  state_by : {A : Type 0} (f : File) (a : Answer (State × A)) → IfBehind states f.state a
      → IfFileBehind files f (a >>= λ r. Ok (record f { state = r.0 }, r.1))
  state_by f (Ok r) is = walk.in_file f r.0 is
  state_by f (Err e) is = tt

  closed_by : {A : Type 0} (f : File) → IsFormed f.state → (a : Answer (File × A))
      → IfFileBehind files (scope_opened f) a → IfFileBehind files f (a >>= λ r. Ok (scope_closed r.0, r.1))
  closed_by f formed (Ok r) h = walk.scope f r.0 formed h
  closed_by f formed (Err e) h = tt

  -- a construct behind whatever file is formed
  abbrev Leads : {A : Type 0} → FileTyping A → Type 0
  Leads typing = (f : File) → IsFormed f.state → IfFileBehind files f (typing f)

  finished_leads : {A : Type 0} (x : A) → Leads (finished x)
  finished_leads x f formed = walk.file_same f formed

  chain : {A B : Type 0} (typing : FileTyping A) (next : A → FileTyping B) → Leads typing → ((x : A) → Leads (next x))
      → Leads (typing ~> next)
  chain typing next h g f formed = then_file f (typing f) next (h f formed) (λ x k is. g x k is)

  scoped : {A : Type 0} (typing : FileTyping A) → Leads typing → Leads (in_scope typing)
  scoped typing h f formed =
      closed_by f formed (typing (scope_opened f)) (h (scope_opened f) (within_formed f.state formed))

  state_extending : {A : Type 0} (typing : Typing A)
      → ((s : State) → IsFormed s → IfBehind states s (typing s)) → Leads (in_state typing)
  state_extending typing h f formed = state_by f (typing f.state) (h f.state formed)

  labelled_leads : (ls : Labels) (typing : FileTyping Statement) → Leads typing → Leads (labelled ls typing)
  labelled_leads ls typing h =
      chain typing (λ s. finished (record { labels = ls.own; statement = s })) h
      (λ s. finished_leads {A = Labelled} (record { labels = ls.own; statement = s }))

  unlabelled_leads : (typing : FileTyping Labelled) → Leads typing → Leads (without_labels typing)
  unlabelled_leads typing h = chain typing (λ s. finished s.statement) h (λ s. finished_leads s.statement)

  controlled_leads : (typing : FileTyping Labelled) → Leads typing → Leads (controlled typing)
  controlled_leads typing h = scoped (without_labels typing) (unlabelled_leads typing h)

  -- expressions of statements

  pub evaluated_walks : (e : Expression) → is_regular e ≡ true → (s : State) → IsFormed s
      → IfBehind states s (evaluated e s)
  evaluated_walks e c s formed =
      walks_then states walk.values true e c s formed (λ v. done v.tree) (λ v u g. walk.values.same u g)

  pub evaluated_if_walks : (e : Option Expression) → is_regular_if e ≡ true → (s : State) → IsFormed s
      → IfBehind states s (evaluated_if e s)
  evaluated_if_walks None c s formed = walk.values.same s formed
  evaluated_if_walks (Some e) c s formed =
      then_state states walk.values s (evaluated e s) (λ e. done (Some e)) (evaluated_walks e c s formed)
      (λ e u g. walk.values.same u g)

  pub expression_walks : (e : Option Expression) → is_regular_if e ≡ true → (s : State) → IsFormed s
      → IfBehind states s (expression_typed e s)
  expression_walks None c s formed = walk.values.same s formed
  expression_walks (Some e) c s formed =
      then_state states walk.values s (evaluated e s) (λ e. done (tree.expression_statement e))
      (evaluated_walks e c s formed) (λ e u g. walk.values.same u g)

  pub controlling_walks : (line : ℕ) (e : Expression) → is_regular e ≡ true → (s : State) → IsFormed s
      → IfBehind states s (controlling line e s)
  controlling_walks line e c s formed =
      walks_then states walk.values true e c s formed (λ v. judged (controls line v))
      (λ v u g. judged_walks states walk.values u g (controls line v))

  pub switching_walks : (line : ℕ) (e : Expression) → is_regular e ≡ true → (s : State) → IsFormed s
      → IfBehind states s (switching_on line e s)
  switching_walks line e c s formed =
      walks_then states walk.values true e c s formed (λ v. judged (switches line v))
      (λ v u g. judged_walks states walk.values u g (switches line v))

  pub returned_walks : (line : ℕ) (result : List TypeWord) (e : Option Expression) → is_regular_if e ≡ true
      → (s : State) → IsFormed s → IfBehind states s (returned line result e s)
  returned_walks line result None c s formed = judged_walks states walk.values s formed (returned_nothing line result)
  returned_walks line result (Some e) c s formed =
      walks_then states walk.values true e c s formed (λ v. judged (returned_value line result v))
      (λ v u g. judged_walks states walk.values u g (returned_value line result v))

  pub case_walks : (ls : Labels) (line : ℕ) (e : Expression) → is_regular e ≡ true → (s : State) → IsFormed s
      → IfBehind states s (case_label ls line e s)
  case_walks ls line e c s formed =
      walks_then states walk.values false e c s formed (λ v. judged (λ s. case_with line (constant_word v.tree) ls))
      (λ v u g. judged_walks states walk.values u g (λ s. case_with line (constant_word v.tree) ls))

  pub valued_if_walks : (e : Option Expression) → is_regular_if e ≡ true → (s : State) → IsFormed s
      → IfBehind states s (valued_if e s)
  valued_if_walks None c s formed = walk.values.same s formed
  valued_if_walks (Some e) c s formed =
      walks_then states walk.values true e c s formed (λ v. done (Some v)) (λ v u g. walk.values.same u g)

  behind_first_extends : (line : ℕ) (condition step : Option Expression) → is_regular_if condition ≡ true
      → is_regular_if step ≡ true → (x : First) (s : State) → IsFormed s
      → IfBehind states s (behind_first line condition step x s)
  behind_first_extends line condition step c d x s formed =
      then_state states walk.values s (valued_if condition s)
      (λ v. evaluated_if step >>> λ step. judged (controls_if line v) >>> λ c.
      done (record { first = x; condition = c; step = step })) (valued_if_walks condition c s formed)
      (λ v u g. then_state states walk.values u (evaluated_if step u)
      (λ step. judged (controls_if line v) >>> λ c. done (record { first = x; condition = c; step = step }))
      (evaluated_if_walks step d u g)
      (λ e w h. then_state states walk.values w (judged (controls_if line v) w)
      (λ c. done (record { first = x; condition = c; step = e }))
      (judged_walks states walk.values w h (controls_if line v))
      (λ c z i. walk.values.same z i)))

  -- declarations

  local_leads : (d : t.Declaration) → is_regular_declaration d ≡ true → Leads (declaration_typed d)
  local_leads d c =
      chain (declaration false d) (λ vs. finished (tree.declaration vs)) (walk.declared false d c)
      (λ vs. finished_leads (tree.declaration vs))

  first_leads : (x : ForInit) → is_regular_first x ≡ true → Leads (first_typed x)
  first_leads (t.declares d) c =
      chain (declaration true d) (λ vs. finished (tree.first_declaration vs)) (walk.declared true d c)
      (λ vs. finished_leads (tree.first_declaration vs))
  first_leads (t.evaluates None at) c = finished_leads tree.nothing
  first_leads (t.evaluates (Some e) at) c =
      chain (in_state (evaluated e)) (λ e. finished (tree.first_expression e))
      (state_extending (evaluated e) (evaluated_walks e c)) (λ e. finished_leads (tree.first_expression e))

  -- selection and iteration

  if_leads : (line : ℕ) (e : Expression) → is_regular e ≡ true → (body : FileTyping Statement) → Leads body
      → Leads (if_typed line e body)
  if_leads line e c body h =
      scoped (in_state (controlling line e) ~> λ c. body ~> λ s. finished (tree.if_then c s))
      (chain (in_state (controlling line e)) (λ c. body ~> λ s. finished (tree.if_then c s))
      (state_extending (controlling line e) (controlling_walks line e c))
      (λ c. chain body (λ s. finished (tree.if_then c s)) h (λ s. finished_leads (tree.if_then c s))))

  if_else_leads : (line : ℕ) (e : Expression) → is_regular e ≡ true → (body other : FileTyping Statement) → Leads body
      → Leads other → Leads (if_else_typed line e body other)
  if_else_leads line e c body other h g =
      scoped (in_state (controlling line e) ~> λ c. body ~> λ s. other ~> λ other. finished (tree.if_else c s other))
      (chain (in_state (controlling line e)) (λ c. body ~> λ s. other ~> λ other. finished (tree.if_else c s other))
      (state_extending (controlling line e) (controlling_walks line e c))
      (λ c. chain body (λ s. other ~> λ other. finished (tree.if_else c s other)) h
      (λ s. chain other (λ other. finished (tree.if_else c s other)) g (λ o. finished_leads (tree.if_else c s o)))))

  while_leads : (line : ℕ) (e : Expression) → is_regular e ≡ true → (body : FileTyping Statement) → Leads body
      → Leads (while_typed line e body)
  while_leads line e c body h =
      scoped (in_state (controlling line e) ~> λ c. body ~> λ s. finished (tree.while_do c s))
      (chain (in_state (controlling line e)) (λ c. body ~> λ s. finished (tree.while_do c s))
      (state_extending (controlling line e) (controlling_walks line e c))
      (λ c. chain body (λ s. finished (tree.while_do c s)) h (λ s. finished_leads (tree.while_do c s))))

  no_file : {B : Type 0} (f : File) (e : Fault) (a : Answer B) → IfFileBehind {A = Statement} files f (fault_or e a)
  no_file f e (Ok x) = tt
  no_file f e (Err g) = tt

  fault_leads : (f : File) (line : ℕ) (e : Fault) (a : Answer (State × Value))
      → IfFileBehind {A = Statement} files f (fault_before line e a)
  fault_leads f line e (Ok r) = no_file f e (controls line r.1 r.0)
  fault_leads f line e (Err g) = tt

  do_by : (line : ℕ) (e : Expression) → is_regular e ≡ true → (f : File) → IsFormed f.state
      → (a : Answer (File × Statement)) → IfFileBehind files f a → IfFileBehind files f (do_behind line e f a)
  do_by line e c f formed (Ok r) h =
      then_file f (Ok r) (λ s. in_state (controlling line e) ~> λ c. finished (tree.do_while s c)) h
      (λ s g is. chain (in_state (controlling line e)) (λ c. finished (tree.do_while s c))
      (state_extending (controlling line e) (controlling_walks line e c)) (λ x. finished_leads
      (tree.do_while s x)) g is)
  do_by line e c f formed (Err g) h = fault_leads f line g (valued (typed true e) f.state)

  do_leads : (line : ℕ) (e : Expression) → is_regular e ≡ true → (body : FileTyping Statement) → Leads body
      → Leads (do_typed line body e)
  do_leads line e c body h =
      scoped (λ f. do_behind line e f (body f)) (λ f formed. do_by line e c f formed (body f) (h f formed))

  for_leads : (line : ℕ) (x : ForInit) → is_regular_first x ≡ true → (condition step : Option Expression)
      → is_regular_if condition ≡ true → is_regular_if step ≡ true → (body : FileTyping Statement) → Leads body
      → Leads (for_typed line x condition step body)
  for_leads line x c condition step d e body h =
      scoped
      (head_typed line x condition step ~> λ h. body ~> λ s. finished (tree.for line h.first h.condition h.step s))
      (chain (head_typed line x condition step)
      (λ h. body ~> λ s. finished (tree.for line h.first h.condition h.step s))
      (chain (first_typed x) (λ first. in_state (behind_first line condition step first)) (first_leads x c)
      (λ y. state_extending (behind_first line condition step y) (behind_first_extends line condition step d e y)))
      (λ k. chain body (λ s. finished (tree.for line k.first k.condition k.step s)) h
      (λ s. finished_leads (tree.for line k.first k.condition k.step s))))

  mutual
    pub statement_walks : (a : Around) (ls : Labels) (s : t.Statement) → is_regular_statement s ≡ true → (f : File)
        → IsFormed f.state → IfFileBehind files f (statement a ls s f)
    statement_walks a ls (t.compound b) c f formed =
        labelled_leads ls (block a b) (λ g h. block_leads a b c g h) f formed
    statement_walks a ls (t.expression e at) c f formed =
        labelled_leads ls (in_state (expression_typed e)) (state_extending (expression_typed e)
        (expression_walks e c)) f
        formed
    statement_walks a ls (t.if_then at l e r s) c f formed =
        labelled_leads ls (if_typed at.line e (controlled (statement a no_labels s)))
        (if_leads at.line e (first _ _ c) (controlled (statement a no_labels s))
        (controlled_leads (statement a no_labels s) (λ g h. statement_walks a no_labels s (second _ _ c) g h))) f formed
    statement_walks a ls (t.if_else at l e r s word other) c f formed =
        labelled_leads ls
        (if_else_typed at.line e (controlled (statement a no_labels s)) (controlled (statement a no_labels other)))
        (if_else_leads at.line e (first _ _ (first _ _ c)) (controlled (statement a no_labels s))
        (controlled (statement a no_labels other))
        (controlled_leads (statement a no_labels s)
        (λ g h. statement_walks a no_labels s (second _ _ (first _ _ c)) g h))
        (controlled_leads (statement a no_labels other)
        (λ g h. statement_walks a no_labels other (second _ _ c) g h))) f formed
    statement_walks a ls (t.switch at l e r b) c f formed =
        labelled_leads ls (switch_typed at.line e (λ v. switch_block (switching a) v b))
        (scoped (in_state (switching_on at.line e) ~> λ v. switch_block (switching a) v b)
        (chain (in_state (switching_on at.line e)) (λ v. switch_block (switching a) v b)
        (state_extending (switching_on at.line e) (switching_walks at.line e (first _ _ c)))
        (λ v g h. switch_leads (switching a) v b (second _ _ c) g h))) f formed
    statement_walks a ls (t.while_do at l e r s) c f formed =
        labelled_leads ls (while_typed at.line e (controlled (statement (looping a) no_labels s)))
        (while_leads at.line e (first _ _ c) (controlled (statement (looping a) no_labels s))
        (controlled_leads (statement (looping a) no_labels s)
        (λ g h. statement_walks (looping a) no_labels s (second _ _ c) g h))) f formed
    statement_walks a ls (t.do_while at s word l e r end) c f formed =
        labelled_leads ls (do_typed at.line (controlled (statement (looping a) no_labels s)) e)
        (do_leads at.line e (second _ _ c) (controlled (statement (looping a) no_labels s))
        (controlled_leads (statement (looping a) no_labels s)
        (λ g h. statement_walks (looping a) no_labels s (first _ _ c) g h))) f formed
    statement_walks a ls (t.for at l x condition semicolon step r s) c f formed =
        labelled_leads ls (for_typed at.line x condition step (controlled (statement (looping a) no_labels s)))
        (for_leads at.line x (first _ _ (first _ _ (first _ _ c))) condition step
        (second _ _ (first _ _ (first _ _ c))) (second _ _ (first _ _ c))
        (controlled (statement (looping a) no_labels s))
        (controlled_leads (statement (looping a) no_labels s)
        (λ g h. statement_walks (looping a) no_labels s (second _ _ c) g h))) f formed
    statement_walks a ls (t.case at e colon s) c f formed =
        chain (in_state (case_label ls at.line e)) (λ ls. statement a ls s)
        (state_extending (case_label ls at.line e) (case_walks ls at.line e (first _ _ c)))
        (λ new g h. statement_walks a new s (second _ _ c) g h) f formed
    statement_walks a ls (t.default at colon s) c f formed =
        chain (in_state (judged (default_label ls at.line))) (λ ls. statement a ls s)
        (state_extending (judged (default_label ls at.line))
        (λ s g. judged_walks states walk.values s g (default_label ls at.line)))
        (λ new g h. statement_walks a new s c g h) f formed
    statement_walks a ls (t.break at end) c f formed =
        labelled_leads ls (in_state (judged (jump a.inside.may_break at.line tree.break)))
        (state_extending (judged (jump a.inside.may_break at.line tree.break))
        (λ s g. judged_walks states walk.values s g (jump a.inside.may_break at.line tree.break))) f formed
    statement_walks a ls (t.continue at end) c f formed =
        labelled_leads ls (in_state (judged (jump a.inside.may_continue at.line tree.continue)))
        (state_extending (judged (jump a.inside.may_continue at.line tree.continue))
        (λ s g. judged_walks states walk.values s g (jump a.inside.may_continue at.line tree.continue))) f formed
    statement_walks a ls (t.return at e end) c f formed =
        labelled_leads ls (in_state (returned at.line a.result e))
        (state_extending (returned at.line a.result e) (returned_walks at.line a.result e c)) f formed

    block_leads : (a : Around) (b : Block) → is_regular_block b ≡ true → (f : File) → IsFormed f.state
        → IfFileBehind files f (block a b f)
    block_leads a (t.block l xs r) c f formed =
        chain (in_scope (block_items a xs)) (λ ss. finished (tree.block l.line ss))
        (scoped (block_items a xs) (λ g h. items_walk a xs c g h)) (λ ss. finished_leads (tree.block l.line ss)) f
        formed

    pub items_walk : (a : Around) (xs : BlockItems) → are_regular_block_items xs ≡ true → (f : File) → IsFormed f.state
        → IfFileBehind files f (block_items a xs f)
    items_walk a t.no_items c f formed = walk.file_same f formed
    items_walk a (t.items x more) c f formed =
        chain (block_item a x) (λ s. block_items a more ~> λ ss. finished (tree.statements s ss))
        (λ g h. item_leads a x (first _ _ c) g h)
        (λ s. chain (block_items a more) (λ ss. finished (tree.statements s ss))
        (λ g h. items_walk a more (second _ _ c) g h) (λ ss. finished_leads (tree.statements s ss))) f formed

    item_leads : (a : Around) (x : BlockItem) → is_regular_block_item x ≡ true → (f : File) → IsFormed f.state
        → IfFileBehind files f (block_item a x f)
    item_leads a (t.local d) c f formed = local_leads d c f formed
    item_leads a (t.inner s) c f formed =
        unlabelled_leads (statement a no_labels s) (λ g h. statement_walks a no_labels s c g h) f formed

    switch_leads : (a : Around) (v : Value) (b : Block) → is_regular_block b ≡ true → (f : File) → IsFormed f.state
        → IfFileBehind files f (switch_block a v b f)
    switch_leads a v (t.block l xs r) c f formed =
        chain (in_scope (switch_items a (type_of (kind_of v.tree)) [] xs))
        (λ is. finished (tree.switch v.tree l.line is))
        (scoped (switch_items a (type_of (kind_of v.tree)) [] xs)
        (λ g h. switch_items_walk a (type_of (kind_of v.tree)) [] xs c g h))
        (λ is. finished_leads (tree.switch v.tree l.line is)) f formed

    switch_items_walk : (a : Around) (type : IntType) (earlier : List CaseLabel) (xs : BlockItems)
        → are_regular_block_items xs ≡ true → (f : File) → IsFormed f.state
        → IfFileBehind files f (switch_items a type earlier xs f)
    switch_items_walk a type earlier t.no_items c f formed = walk.file_same f formed
    switch_items_walk a type earlier (t.items x more) c f formed =
        chain (switch_item a (labels_on type earlier) x)
        (λ s. switch_items a type (earlier ++ s.labels) more ~> λ is. finished (tree.items s.labels s.statement is))
        (λ g h. switch_item_leads a (labels_on type earlier) x (first _ _ c) g h)
        (λ s. chain (switch_items a type (earlier ++ s.labels) more)
        (λ is. finished (tree.items s.labels s.statement is))
        (λ g h. switch_items_walk a type (earlier ++ s.labels) more (second _ _ c) g h)
        (λ is. finished_leads (tree.items s.labels s.statement is))) f formed

    switch_item_leads : (a : Around) (ls : Labels) (x : BlockItem) → is_regular_block_item x ≡ true → (f : File)
        → IsFormed f.state → IfFileBehind files f (switch_item a ls x f)
    switch_item_leads a ls (t.local d) c f formed =
        labelled_leads ls (declaration_typed d) (local_leads d c) f formed
    switch_item_leads a ls (t.inner s) c f formed = statement_walks a ls s c f formed

leading_by : {A : Type 0} (f : File) (a : Answer (File × A)) → Leading f a → IfFileBehind FileLeads f a
leading_by f (Ok r) is = is
leading_by f (Err e) is = tt

by_leading : {A : Type 0} (f : File) (a : Answer (File × A)) → IfFileBehind FileLeads f a → Leading f a
by_leading f (Ok r) is = is
by_leading f (Err e) is = tt

-- states that extend the one before, and files that lead behind
pub leads_walk : Walk (Extends false) FileLeads
leads_walk = record {
  values = values_walk;
  file_same = file_same;
  file_on = file_on;
  file_formed = λ f g h. h.state.formed;
  in_file = λ f t h. state_leads f t (leads_by f.state t h);
  scope = closed_leads;
  declared = λ in_head d c f formed. leading_by f (declaration in_head d f) (declaration_leads in_head d c f formed);
}

pub statement_leads : (a : Around) (ls : Labels) (s : t.Statement) → is_regular_statement s ≡ true → (f : File)
    → IsFormed f.state → Leading f (statement a ls s f)
statement_leads a ls s c f formed =
    by_leading f (statement a ls s f) (statement_walks (Extends false) FileLeads leads_walk a ls s c f formed)

pub items_lead : (a : Around) (xs : BlockItems) → are_regular_block_items xs ≡ true → (f : File) → IsFormed f.state
    → Leading f (block_items a xs f)
items_lead a xs c f formed =
    by_leading f (block_items a xs f) (items_walk (Extends false) FileLeads leads_walk a xs c f formed)
