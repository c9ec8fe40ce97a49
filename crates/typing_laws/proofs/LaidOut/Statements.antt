-- Statements leave a file laid out.
use Rattle.std.proofs.Common.{◌≡◌, ℕ, true, false, List, [], ◌++◌, Option, Some, None}
use Rattle.std.specs.Prelude.{Ok, Err}
use Rattle.obj_memory.specs.declared.int_type.IntType.{IntType}
use Rattle.c_syntax.specs.Statements.{Block, BlockItem, BlockItems, ForInit}
use Rattle.c_syntax.specs.Statements as t
use Rattle.c_syntax.specs.Tree.{Expression}
use Rattle.c_tree.specs.declared.c_type.TypeWord.{TypeWord}
use Rattle.c_tree.specs.declared.statement.CaseLabel.{CaseLabel}
use Rattle.c_tree.specs.Statements.{First, Statement}
use Rattle.c_tree.specs.Statements as tree
use Rattle.c_tree.specs.Tree as tree_of
use Rattle.c_tree.specs.Tree.{kind_of}
use Rattle.c_const.specs.Integers.{constant_word, type_of}
use Rattle.c_faults.specs.declared.fault.Fault.{Fault}
use Rattle.c_faults.specs.Answer.{Answer}
use Rattle.c_rules.specs.Values.{Value}
use Rattle.c_typing_state.specs.State.{State, done, judged, ◌>>>◌}
use Rattle.c_expression_typing.specs.Constructs.{valued}
use Rattle.c_expression_typing.specs.Typed.{typed}
use Rattle.c_unit_typing.specs.Constructs.{Around, Head, Labelled, Labels, behind_first, case_label, case_with}
use Rattle.c_unit_typing.specs.Constructs.{controlled}
use Rattle.c_unit_typing.specs.Constructs.{controlling, controls, controls_if, declaration_typed, default_label}
use Rattle.c_unit_typing.specs.Constructs.{do_behind, do_typed, evaluated, evaluated_if, expression_typed}
use Rattle.c_unit_typing.specs.Constructs.{fault_before, fault_or, first_typed, for_typed, head_typed, if_else_typed}
use Rattle.c_unit_typing.specs.Constructs.{if_typed, in_scope, jump, labelled, labels_on, looping, no_labels, returned}
use Rattle.c_unit_typing.specs.Constructs.{returned_nothing, returned_value, switch_typed, switches, switching}
use Rattle.c_unit_typing.specs.Constructs.{switching_on, valued_if, while_typed, without_labels}
use Rattle.c_unit_typing.specs.Declarations.{declaration}
use Rattle.c_unit_typing.specs.Files.{File, FileTyping, finished, in_state, ◌~>◌}
use Rattle.c_unit_typing.specs.Statements.{block, block_item, block_items, statement, switch_block, switch_item}
use Rattle.c_unit_typing.specs.Statements.{switch_items}
use Rattle.typing_laws.specs.Validity.Regular.{is_regular}
use Rattle.typing_laws.specs.Validity.Sound.{IsFormed}
use Rattle.typing_laws.proofs.Validity.Common.{first, second}
use Rattle.typing_laws.specs.Layouts.Listed.{IsLaidOut}
use Rattle.typing_laws.specs.Scopes.Regular.{are_regular_block_items, is_regular_block, is_regular_block_item}
use Rattle.typing_laws.specs.Scopes.Regular.{is_regular_declaration, is_regular_first, is_regular_if}
use Rattle.typing_laws.specs.Scopes.Regular.{is_regular_statement}
use Rattle.typing_laws.proofs.Scopes.Leading.{file_same}
use Rattle.typing_laws.specs.LaidOut.Behind.{IfLaid}
use Rattle.typing_laws.proofs.LaidOut.Chained.{Lays, StateLays, chain, done_lays, finished_lays, judged_lays}
use Rattle.typing_laws.proofs.LaidOut.Chained.{scoped, state_chain, state_lays, then_lays, value_lays}
use Rattle.typing_laws.proofs.LaidOut.Declarations.{declaration_laid}

labelled_lays : (ls : Labels) (typing : FileTyping Statement) → Lays typing → Lays (labelled ls typing)
labelled_lays ls typing h =
    chain typing (λ s. finished (record { labels = ls.own; statement = s })) h
    (λ s. finished_lays {A = Labelled} (record { labels = ls.own; statement = s }))

unlabelled_lays : (typing : FileTyping Labelled) → Lays typing → Lays (without_labels typing)
unlabelled_lays typing h = chain typing (λ s. finished s.statement) h (λ s. finished_lays s.statement)

controlled_lays : (typing : FileTyping Labelled) → Lays typing → Lays (controlled typing)
controlled_lays typing h = scoped (without_labels typing) (unlabelled_lays typing h)

-- expressions of statements

pub evaluated_lays : (e : Expression) → is_regular e ≡ true → StateLays (evaluated e)
evaluated_lays e c =
    state_chain (valued (typed true e)) (λ v. done v.tree) (value_lays true e c) (λ v. done_lays v.tree)

evaluated_if_lays : (e : Option Expression) → is_regular_if e ≡ true → StateLays (evaluated_if e)
evaluated_if_lays None c = done_lays {A = Option tree_of.Expression} None
evaluated_if_lays (Some e) c =
    state_chain (evaluated e) (λ e. done (Some e)) (evaluated_lays e c) (λ e. done_lays (Some e))

pub expression_lays : (e : Option Expression) → is_regular_if e ≡ true → StateLays (expression_typed e)
expression_lays None c = done_lays tree.empty
expression_lays (Some e) c =
    state_chain (evaluated e) (λ e. done (tree.expression_statement e)) (evaluated_lays e c)
    (λ e. done_lays (tree.expression_statement e))

pub controlling_lays : (line : ℕ) (e : Expression) → is_regular e ≡ true → StateLays (controlling line e)
controlling_lays line e c =
    state_chain (valued (typed true e)) (λ v. judged (controls line v)) (value_lays true e c)
    (λ v. judged_lays (controls line v))

pub switching_lays : (line : ℕ) (e : Expression) → is_regular e ≡ true → StateLays (switching_on line e)
switching_lays line e c =
    state_chain (valued (typed true e)) (λ v. judged (switches line v)) (value_lays true e c)
    (λ v. judged_lays (switches line v))

pub returned_lays : (line : ℕ) (result : List TypeWord) (e : Option Expression) → is_regular_if e ≡ true
    → StateLays (returned line result e)
returned_lays line result None c = judged_lays (returned_nothing line result)
returned_lays line result (Some e) c =
    state_chain (valued (typed true e)) (λ v. judged (returned_value line result v)) (value_lays true e c)
    (λ v. judged_lays (returned_value line result v))

pub case_lays : (ls : Labels) (line : ℕ) (e : Expression) → is_regular e ≡ true → StateLays (case_label ls line e)
case_lays ls line e c =
    state_chain (valued (typed false e)) (λ v. judged (λ s. case_with line (constant_word v.tree) ls))
    (value_lays false e c) (λ v. judged_lays (λ s. case_with line (constant_word v.tree) ls))

valued_if_lays : (e : Option Expression) → is_regular_if e ≡ true → StateLays (valued_if e)
valued_if_lays None c = done_lays {A = Option Value} None
valued_if_lays (Some e) c =
    state_chain (valued (typed true e)) (λ v. done (Some v)) (value_lays true e c) (λ v. done_lays (Some v))

pub behind_first_lays : (line : ℕ) (condition step : Option Expression) → is_regular_if condition ≡ true
    → is_regular_if step ≡ true → (x : First) → StateLays (behind_first line condition step x)
behind_first_lays line condition step c d x =
    state_chain (valued_if condition)
    (λ v. evaluated_if step >>> λ step. judged (controls_if line v) >>> λ c.
    done (record { first = x; condition = c; step = step })) (valued_if_lays condition c)
    (λ v. state_chain (evaluated_if step)
    (λ step. judged (controls_if line v) >>> λ c. done (record { first = x; condition = c; step = step }))
    (evaluated_if_lays step d)
    (λ e. state_chain (judged (controls_if line v)) (λ c. done (record { first = x; condition = c; step = e }))
    (judged_lays (controls_if line v)) (λ c. done_lays {A = Head} (record { first = x; condition = c; step = e }))))

-- declarations

local_lays : (d : t.Declaration) → is_regular_declaration d ≡ true → Lays (declaration_typed d)
local_lays d c =
    chain (declaration false d) (λ vs. finished (tree.declaration vs)) (declaration_laid false d c)
    (λ vs. finished_lays (tree.declaration vs))

first_lays : (x : ForInit) → is_regular_first x ≡ true → Lays (first_typed x)
first_lays (t.declares d) c =
    chain (declaration true d) (λ vs. finished (tree.first_declaration vs)) (declaration_laid true d c)
    (λ vs. finished_lays (tree.first_declaration vs))
first_lays (t.evaluates None at) c = finished_lays tree.nothing
first_lays (t.evaluates (Some e) at) c =
    chain (in_state (evaluated e)) (λ e. finished (tree.first_expression e))
    (state_lays (evaluated e) (evaluated_lays e c)) (λ e. finished_lays (tree.first_expression e))

-- selection and iteration

if_lays : (line : ℕ) (e : Expression) → is_regular e ≡ true → (body : FileTyping Statement) → Lays body
    → Lays (if_typed line e body)
if_lays line e c body h =
    scoped (in_state (controlling line e) ~> λ c. body ~> λ s. finished (tree.if_then c s))
    (chain (in_state (controlling line e)) (λ c. body ~> λ s. finished (tree.if_then c s))
    (state_lays (controlling line e) (controlling_lays line e c))
    (λ c. chain body (λ s. finished (tree.if_then c s)) h (λ s. finished_lays (tree.if_then c s))))

if_else_lays : (line : ℕ) (e : Expression) → is_regular e ≡ true → (body other : FileTyping Statement) → Lays body
    → Lays other → Lays (if_else_typed line e body other)
if_else_lays line e c body other h g =
    scoped (in_state (controlling line e) ~> λ c. body ~> λ s. other ~> λ other. finished (tree.if_else c s other))
    (chain (in_state (controlling line e)) (λ c. body ~> λ s. other ~> λ other. finished (tree.if_else c s other))
    (state_lays (controlling line e) (controlling_lays line e c))
    (λ c. chain body (λ s. other ~> λ other. finished (tree.if_else c s other)) h
    (λ s. chain other (λ other. finished (tree.if_else c s other)) g (λ o. finished_lays (tree.if_else c s o)))))

while_lays : (line : ℕ) (e : Expression) → is_regular e ≡ true → (body : FileTyping Statement) → Lays body
    → Lays (while_typed line e body)
while_lays line e c body h =
    scoped (in_state (controlling line e) ~> λ c. body ~> λ s. finished (tree.while_do c s))
    (chain (in_state (controlling line e)) (λ c. body ~> λ s. finished (tree.while_do c s))
    (state_lays (controlling line e) (controlling_lays line e c))
    (λ c. chain body (λ s. finished (tree.while_do c s)) h (λ s. finished_lays (tree.while_do c s))))

no_file : {B : Type 0} (f : File) (e : Fault) (a : Answer B) → IfLaid {A = Statement} f (fault_or e a)
no_file f e (Ok x) = tt
no_file f e (Err g) = tt

fault_lays : (f : File) (line : ℕ) (e : Fault) (a : Answer (State × Value))
    → IfLaid {A = Statement} f (fault_before line e a)
fault_lays f line e (Ok r) = no_file f e (controls line r.1 r.0)
fault_lays f line e (Err g) = tt

do_by : (line : ℕ) (e : Expression) → is_regular e ≡ true → (f : File) → (a : Answer (File × Statement))
    → IfLaid f a → IfLaid f (do_behind line e f a)
do_by line e c f (Ok r) h =
    then_lays f (Ok r) (λ s. in_state (controlling line e) ~> λ c. finished (tree.do_while s c)) h
    (λ s g is laid. chain (in_state (controlling line e)) (λ c. finished (tree.do_while s c))
    (state_lays (controlling line e) (controlling_lays line e c)) (λ x. finished_lays (tree.do_while s x)) g is laid)
do_by line e c f (Err g) h = fault_lays f line g (valued (typed true e) f.state)

do_lays : (line : ℕ) (e : Expression) → is_regular e ≡ true → (body : FileTyping Statement) → Lays body
    → Lays (do_typed line body e)
do_lays line e c body h =
    scoped (λ f. do_behind line e f (body f)) (λ f formed laid. do_by line e c f (body f) (h f formed laid))

for_lays : (line : ℕ) (x : ForInit) → is_regular_first x ≡ true → (condition step : Option Expression)
    → is_regular_if condition ≡ true → is_regular_if step ≡ true → (body : FileTyping Statement) → Lays body
    → Lays (for_typed line x condition step body)
for_lays line x c condition step d e body h =
    scoped
    (head_typed line x condition step ~> λ h. body ~> λ s. finished (tree.for line h.first h.condition h.step s))
    (chain (head_typed line x condition step)
    (λ h. body ~> λ s. finished (tree.for line h.first h.condition h.step s))
    (chain (first_typed x) (λ first. in_state (behind_first line condition step first)) (first_lays x c)
    (λ y. state_lays (behind_first line condition step y) (behind_first_lays line condition step d e y)))
    (λ k. chain body (λ s. finished (tree.for line k.first k.condition k.step s)) h
    (λ s. finished_lays (tree.for line k.first k.condition k.step s))))

mutual
  pub statement_laid : (a : Around) (ls : Labels) (s : t.Statement) → is_regular_statement s ≡ true → (f : File)
      → IsFormed f.state → IsLaidOut f.state → IfLaid f (statement a ls s f)
  statement_laid a ls (t.compound b) c f formed laid =
      labelled_lays ls (block a b) (λ g h k. block_laid a b c g h k) f formed laid
  statement_laid a ls (t.expression e at) c f formed laid =
      labelled_lays ls (in_state (expression_typed e)) (state_lays (expression_typed e) (expression_lays e c)) f formed
      laid
  statement_laid a ls (t.if_then at l e r s) c f formed laid =
      labelled_lays ls (if_typed at.line e (controlled (statement a no_labels s)))
      (if_lays at.line e (first _ _ c) (controlled (statement a no_labels s))
      (controlled_lays (statement a no_labels s) (λ g h k. statement_laid a no_labels s (second _ _ c) g h k))) f formed
      laid
  statement_laid a ls (t.if_else at l e r s word other) c f formed laid =
      labelled_lays ls
      (if_else_typed at.line e (controlled (statement a no_labels s)) (controlled (statement a no_labels other)))
      (if_else_lays at.line e (first _ _ (first _ _ c)) (controlled (statement a no_labels s))
      (controlled (statement a no_labels other))
      (controlled_lays (statement a no_labels s)
      (λ g h k. statement_laid a no_labels s (second _ _ (first _ _ c)) g h k))
      (controlled_lays (statement a no_labels other)
      (λ g h k. statement_laid a no_labels other (second _ _ c) g h k))) f formed laid
  statement_laid a ls (t.switch at l e r b) c f formed laid =
      labelled_lays ls (switch_typed at.line e (λ v. switch_block (switching a) v b))
      (scoped (in_state (switching_on at.line e) ~> λ v. switch_block (switching a) v b)
      (chain (in_state (switching_on at.line e)) (λ v. switch_block (switching a) v b)
      (state_lays (switching_on at.line e) (switching_lays at.line e (first _ _ c)))
      (λ v g h k. switch_laid (switching a) v b (second _ _ c) g h k))) f formed laid
  statement_laid a ls (t.while_do at l e r s) c f formed laid =
      labelled_lays ls (while_typed at.line e (controlled (statement (looping a) no_labels s)))
      (while_lays at.line e (first _ _ c) (controlled (statement (looping a) no_labels s))
      (controlled_lays (statement (looping a) no_labels s)
      (λ g h k. statement_laid (looping a) no_labels s (second _ _ c) g h k))) f formed laid
  statement_laid a ls (t.do_while at s word l e r end) c f formed laid =
      labelled_lays ls (do_typed at.line (controlled (statement (looping a) no_labels s)) e)
      (do_lays at.line e (second _ _ c) (controlled (statement (looping a) no_labels s))
      (controlled_lays (statement (looping a) no_labels s)
      (λ g h k. statement_laid (looping a) no_labels s (first _ _ c) g h k))) f formed laid
  statement_laid a ls (t.for at l x condition semicolon step r s) c f formed laid =
      labelled_lays ls (for_typed at.line x condition step (controlled (statement (looping a) no_labels s)))
      (for_lays at.line x (first _ _ (first _ _ (first _ _ c))) condition step
      (second _ _ (first _ _ (first _ _ c))) (second _ _ (first _ _ c))
      (controlled (statement (looping a) no_labels s))
      (controlled_lays (statement (looping a) no_labels s)
      (λ g h k. statement_laid (looping a) no_labels s (second _ _ c) g h k))) f formed laid
  statement_laid a ls (t.case at e colon s) c f formed laid =
      chain (in_state (case_label ls at.line e)) (λ ls. statement a ls s)
      (state_lays (case_label ls at.line e) (case_lays ls at.line e (first _ _ c)))
      (λ new g h k. statement_laid a new s (second _ _ c) g h k) f formed laid
  statement_laid a ls (t.default at colon s) c f formed laid =
      chain (in_state (judged (default_label ls at.line))) (λ ls. statement a ls s)
      (state_lays (judged (default_label ls at.line)) (judged_lays (default_label ls at.line)))
      (λ new g h k. statement_laid a new s c g h k) f formed laid
  statement_laid a ls (t.break at end) c f formed laid =
      labelled_lays ls (in_state (judged (jump a.inside.may_break at.line tree.break)))
      (state_lays (judged (jump a.inside.may_break at.line tree.break))
      (judged_lays (jump a.inside.may_break at.line tree.break))) f formed laid
  statement_laid a ls (t.continue at end) c f formed laid =
      labelled_lays ls (in_state (judged (jump a.inside.may_continue at.line tree.continue)))
      (state_lays (judged (jump a.inside.may_continue at.line tree.continue))
      (judged_lays (jump a.inside.may_continue at.line tree.continue))) f formed laid
  statement_laid a ls (t.return at e end) c f formed laid =
      labelled_lays ls (in_state (returned at.line a.result e))
      (state_lays (returned at.line a.result e) (returned_lays at.line a.result e c)) f formed laid

  block_laid : (a : Around) (b : Block) → is_regular_block b ≡ true → (f : File) → IsFormed f.state
      → IsLaidOut f.state → IfLaid f (block a b f)
  block_laid a (t.block l xs r) c f formed laid =
      chain (in_scope (block_items a xs)) (λ ss. finished (tree.block l.line ss))
      (scoped (block_items a xs) (λ g h k. items_laid a xs c g h k)) (λ ss. finished_lays (tree.block l.line ss)) f
      formed laid

  pub items_laid : (a : Around) (xs : BlockItems) → are_regular_block_items xs ≡ true → (f : File)
      → IsFormed f.state → IsLaidOut f.state → IfLaid f (block_items a xs f)
  items_laid a t.no_items c f formed laid = (file_same f formed, laid)
  items_laid a (t.items x more) c f formed laid =
      chain (block_item a x) (λ s. block_items a more ~> λ ss. finished (tree.statements s ss))
      (λ g h k. item_laid a x (first _ _ c) g h k)
      (λ s. chain (block_items a more) (λ ss. finished (tree.statements s ss))
      (λ g h k. items_laid a more (second _ _ c) g h k) (λ ss. finished_lays (tree.statements s ss))) f formed laid

  item_laid : (a : Around) (x : BlockItem) → is_regular_block_item x ≡ true → (f : File) → IsFormed f.state
      → IsLaidOut f.state → IfLaid f (block_item a x f)
  item_laid a (t.local d) c f formed laid = local_lays d c f formed laid
  item_laid a (t.inner s) c f formed laid =
      unlabelled_lays (statement a no_labels s) (λ g h k. statement_laid a no_labels s c g h k) f formed laid

  switch_laid : (a : Around) (v : Value) (b : Block) → is_regular_block b ≡ true → (f : File) → IsFormed f.state
      → IsLaidOut f.state → IfLaid f (switch_block a v b f)
  switch_laid a v (t.block l xs r) c f formed laid =
      chain (in_scope (switch_items a (type_of (kind_of v.tree)) [] xs)) (λ is. finished (tree.switch v.tree l.line is))
      (scoped (switch_items a (type_of (kind_of v.tree)) [] xs)
      (λ g h k. switch_items_laid a (type_of (kind_of v.tree)) [] xs c g h k))
      (λ is. finished_lays (tree.switch v.tree l.line is)) f formed laid

  switch_items_laid : (a : Around) (type : IntType) (earlier : List CaseLabel) (xs : BlockItems)
      → are_regular_block_items xs ≡ true → (f : File) → IsFormed f.state → IsLaidOut f.state
      → IfLaid f (switch_items a type earlier xs f)
  switch_items_laid a type earlier t.no_items c f formed laid = (file_same f formed, laid)
  switch_items_laid a type earlier (t.items x more) c f formed laid =
      chain (switch_item a (labels_on type earlier) x)
      (λ s. switch_items a type (earlier ++ s.labels) more ~> λ is. finished (tree.items s.labels s.statement is))
      (λ g h k. switch_item_laid a (labels_on type earlier) x (first _ _ c) g h k)
      (λ s. chain (switch_items a type (earlier ++ s.labels) more)
      (λ is. finished (tree.items s.labels s.statement is))
      (λ g h k. switch_items_laid a type (earlier ++ s.labels) more (second _ _ c) g h k)
      (λ is. finished_lays (tree.items s.labels s.statement is))) f formed laid

  switch_item_laid : (a : Around) (ls : Labels) (x : BlockItem) → is_regular_block_item x ≡ true → (f : File)
      → IsFormed f.state → IsLaidOut f.state → IfLaid f (switch_item a ls x f)
  switch_item_laid a ls (t.local d) c f formed laid =
      labelled_lays ls (declaration_typed d) (local_lays d c) f formed laid
  switch_item_laid a ls (t.inner s) c f formed laid = statement_laid a ls s c f formed laid
