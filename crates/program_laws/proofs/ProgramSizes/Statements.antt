-- What statements are typed to has at most 3 nodes for each of their words (C99 6.8).
use Rattle.std.proofs.Common.{ℕ, ◌+◌, ◌*◌, Bool, true, false, refl, List, [], ◌∷◌, ◌++◌, Option, Some, None, arith}
use Rattle.std.proofs.Common.{if◌then◌else◌, length}
use Rattle.std.specs.Prelude.{Ok, Err}
use Rattle.std.specs.List.{list_any}
use Rattle.std.proofs.lemmas.List.{length-append}
use Rattle.obj_memory.specs.declared.int_type.IntType.{IntType}
use Rattle.obj_memory.specs.Integers.{fit}
use Rattle.c_syntax.specs.Statements.{Block, BlockItem, BlockItems, ForInit}
use Rattle.c_syntax.specs.Statements as t
use Rattle.c_syntax.specs.Tree.{Expression}
use Rattle.c_tree.specs.declared.c_type.TypeWord.{TypeWord}
use Rattle.c_tree.specs.declared.statement.CaseLabel.{CaseLabel}
use Rattle.c_tree.specs.declared.statement.CaseLabel.TheVariants.{Case, Default}
use Rattle.c_tree.specs.Statements.{First, Statement}
use Rattle.c_tree.specs.Statements as tree
use Rattle.c_tree.specs.Tree.{kind_of}
use Rattle.c_tree.specs.ValidProgram.{same_label}
use Rattle.c_const.specs.Integers.{constant_word, type_of}
use Rattle.c_faults.specs.declared.fault.Fault.{Fault}
use Rattle.c_faults.specs.declared.fault.Rule.TheVariants.{MisplacedLabel, MistakenReturn}
use Rattle.c_faults.specs.Answer.{Answer, violates, ◌>>=◌}
use Rattle.c_rules.specs.Conversions.{assigned}
use Rattle.c_rules.specs.Values.{Value}
use Rattle.c_typing_state.specs.State.{State, extents, judged}
use Rattle.c_expression_typing.specs.Constructs.{valued}
use Rattle.c_expression_typing.specs.Typed.{typed}
use Rattle.c_unit_typing.specs.Constructs.{Around, Head, Labelled, Labels, added, behind_first, case_label, case_on}
use Rattle.c_unit_typing.specs.Constructs.{case_with, controlled, controlling, controls, controls_if, declaration_typed}
use Rattle.c_unit_typing.specs.Constructs.{default_label, default_on, do_behind, do_typed, evaluated, evaluated_if}
use Rattle.c_unit_typing.specs.Constructs.{expression_typed, fault_before, fault_or, first_typed, for_typed, gives_void}
use Rattle.c_unit_typing.specs.Constructs.{head_typed, if_else_typed, if_typed, in_scope, jump, labelled, labels_on}
use Rattle.c_unit_typing.specs.Constructs.{looping, no_labels, returned, scope_opened, switch_typed, switching}
use Rattle.c_unit_typing.specs.Constructs.{switching_on, valued_if, while_typed, without_labels}
use Rattle.c_unit_typing.specs.Files.{File, FileTyping, finished, in_state, ◌~>◌}
use Rattle.c_unit_typing.specs.Statements.{block, block_item, block_items, statement, switch_block, switch_item}
use Rattle.c_unit_typing.specs.Statements.{switch_items}
use Rattle.program_laws.specs.TreeSizes.AtMost.{AtMost, in_state_size, value_size}
use Rattle.program_laws.specs.TreeSizes.Nodes.{first_nodes, items_nodes, nodes, nodes_if, statement_nodes}
use Rattle.program_laws.specs.TreeSizes.Nodes.{statements_nodes}
use Rattle.program_laws.specs.TreeSizes.WordCounts.{words_in, words_in_block, words_in_block_item, words_in_block_items}
use Rattle.program_laws.specs.TreeSizes.WordCounts.{words_in_declaration, words_in_first, words_in_if}
use Rattle.program_laws.specs.TreeSizes.WordCounts.{words_in_statement}
use Rattle.program_laws.proofs.TreeSizes.Bounded.{gives, more, refuses, then_gives}
use Rattle.program_laws.proofs.TreeSizes.Operators.{assigned_nodes, condition_nodes, switch_nodes}
use Rattle.program_laws.proofs.TreeSizes.Recursion.{value_sizes}
use Rattle.program_laws.proofs.TreeSizes.Steps.{judged_gives}
use Rattle.program_laws.specs.ProgramSizes.Sizes.{file_nodes, in_file_size, labelled_nodes}
use Rattle.program_laws.proofs.ProgramSizes.Declarations.{declaration_bound, in_state_gives}

-- expressions

pub evaluated_nodes : (e : Expression) (s : State)
    → AtMost (in_state_size nodes) (length s.literals + 3 * words_in e) (evaluated e s)
evaluated_nodes e s = then_gives (value_sizes true e s) (λ v h. gives h)

evaluated_if_nodes : (e : Option Expression) (s : State)
    → AtMost (in_state_size nodes_if) (length s.literals + 3 * words_in_if e) (evaluated_if e s)
evaluated_if_nodes None s = gives (omega arith)
evaluated_if_nodes (Some e) s = then_gives (evaluated_nodes e s) (λ x h. gives h)

controls_nodes : (line : ℕ) (v : Value) (s : State) → AtMost nodes (value_size v) (controls line v s)
controls_nodes line v s = condition_nodes (extents s) line v

controlling_nodes : (line : ℕ) (e : Expression) (s : State)
    → AtMost (in_state_size nodes) (length s.literals + 3 * words_in e) (controlling line e s)
controlling_nodes line e s =
    then_gives (value_sizes true e s) (λ v h. judged_gives v.0 (controls_nodes line v.1 v.0) h)

switching_nodes : (line : ℕ) (e : Expression) (s : State)
    → AtMost (in_state_size value_size) (length s.literals + (1 + 3 * words_in e)) (switching_on line e s)
switching_nodes line e s =
    then_gives (value_sizes true e s)
    (λ v h. judged_gives v.0 (switch_nodes (extents v.0) line v.1) (omega arith))

expression_nodes : (e : Option Expression) (s : State)
    → AtMost (in_state_size statement_nodes) (length s.literals + (1 + 3 * words_in_if e)) (expression_typed e s)
expression_nodes None s = gives (omega arith)
expression_nodes (Some e) s = then_gives (evaluated_nodes e s) (λ x h. gives (omega arith))

-- labels

abbrev own_nodes : Labels → ℕ
own_nodes ls = length ls.own

added_by : (b : Bool) (line : ℕ) (l : CaseLabel) (ls : Labels)
    → AtMost own_nodes (1 + own_nodes ls) (if b then violates MisplacedLabel line
    else Ok (record ls { own = ls.own ++ l ∷ [] }))
added_by true line l ls = refuses
added_by false line l ls = gives (omega (arith, length-append ls.own (l ∷ [])))

added_nodes : (line : ℕ) (l : CaseLabel) (ls : Labels) → AtMost own_nodes (1 + own_nodes ls) (added line l ls)
added_nodes line l ls = added_by (list_any (same_label l) (ls.earlier ++ ls.own)) line l ls

case_on_nodes : (line w : ℕ) (ls : Labels) (type : Option IntType)
    → AtMost own_nodes (1 + own_nodes ls) (case_on line w ls type)
case_on_nodes line w ls None = refuses
case_on_nodes line w ls (Some type) = added_nodes line (Case (fit type w)) ls

case_with_nodes : (line : ℕ) (w : Option ℕ) (ls : Labels)
    → AtMost own_nodes (1 + own_nodes ls) (case_with line w ls)
case_with_nodes line None ls = refuses
case_with_nodes line (Some w) ls = case_on_nodes line w ls ls.switch

case_nodes : (ls : Labels) (line : ℕ) (e : Expression) (s : State)
    → AtMost (in_state_size own_nodes) (length s.literals + (1 + own_nodes ls + 3 * words_in e))
    (case_label ls line e s)
case_nodes ls line e s =
    then_gives (value_sizes false e s)
    (λ v h. judged_gives v.0 (case_with_nodes line (constant_word v.1.tree) ls) (omega arith))

default_on_nodes : (line : ℕ) (ls : Labels) (type : Option IntType)
    → AtMost own_nodes (1 + own_nodes ls) (default_on line ls type)
default_on_nodes line ls None = refuses
default_on_nodes line ls (Some type) = added_nodes line Default ls

default_nodes : (ls : Labels) (line : ℕ) (s : State)
    → AtMost (in_state_size own_nodes) (length s.literals + (1 + own_nodes ls)) (judged (default_label ls line) s)
default_nodes ls line s = judged_gives s (default_on_nodes line ls ls.switch) (omega arith)

-- jumps

jump_by : (b : Bool) (line : ℕ) (st : Statement)
    → AtMost statement_nodes (statement_nodes st) (if b then Ok st else violates MisplacedLabel line)
jump_by true line st = gives (omega arith)
jump_by false line st = refuses

jump_nodes : (b : Bool) (line : ℕ) (st : Statement) (s : State)
    → AtMost (in_state_size statement_nodes) (length s.literals + statement_nodes st) (judged (jump b line st) s)
jump_nodes b line st s = judged_gives s (jump_by b line st) (omega arith)

nothing_by : (b : Bool) (line : ℕ)
    → AtMost statement_nodes 1 (if b then Ok (tree.return None) else violates MistakenReturn line)
nothing_by true line = gives (omega arith)
nothing_by false line = refuses

value_by : (b : Bool) (line : ℕ) (result : List TypeWord) (v : Value) (s : State)
    → AtMost statement_nodes (2 + value_size v) (if b then violates MistakenReturn line
    else (assigned (extents s) line result v >>= λ e. Ok (tree.return (Some e))))
value_by true line result v s = refuses
value_by false line result v s = then_gives (assigned_nodes (extents s) line result v) (λ e h. gives (omega arith))

returned_nodes : (line : ℕ) (result : List TypeWord) (e : Option Expression) (s : State)
    → AtMost (in_state_size statement_nodes) (length s.literals + (2 + 3 * words_in_if e)) (returned line result e s)
returned_nodes line result None s = judged_gives s (nothing_by (gives_void result) line) (omega arith)
returned_nodes line result (Some e) s =
    then_gives (value_sizes true e s)
    (λ v h. judged_gives v.0 (value_by (gives_void result) line result v.1 v.0) (omega arith))

-- the head of a `for`

abbrev value_size_if : Option Value → ℕ
value_size_if None = 0
value_size_if (Some v) = value_size v

valued_if_nodes : (e : Option Expression) (s : State)
    → AtMost (in_state_size value_size_if) (length s.literals + 3 * words_in_if e) (valued_if e s)
valued_if_nodes None s = gives (omega arith)
valued_if_nodes (Some e) s = then_gives (value_sizes true e s) (λ v h. gives h)

controls_if_nodes : (line : ℕ) (v : Option Value) (s : State)
    → AtMost nodes_if (value_size_if v) (controls_if line v s)
controls_if_nodes line None s = gives (omega arith)
controls_if_nodes line (Some v) s = then_gives (controls_nodes line v s) (λ e h. gives h)

abbrev head_nodes : Head → ℕ
head_nodes h = first_nodes h.first + nodes_if h.condition + nodes_if h.step

behind_first_nodes : (line : ℕ) (condition step : Option Expression) (x : First) (s : State)
    → AtMost (in_state_size head_nodes)
    (length s.literals + (first_nodes x + 3 * words_in_if condition + 3 * words_in_if step))
    (behind_first line condition step x s)
behind_first_nodes line condition step x s =
    then_gives (valued_if_nodes condition s) (λ v h.
    then_gives (evaluated_if_nodes step v.0) (λ e g.
    then_gives (judged_gives {n = value_size_if v.1 + length e.0.literals} e.0 (controls_if_nodes line v.1 e.0)
    (omega arith))
    (λ c k. gives (omega arith))))

first_bound : (x : ForInit) (f : File)
    → AtMost (in_file_size first_nodes) (file_nodes f + 3 * words_in_first x) (first_typed x f)
first_bound (t.declares d) f = then_gives (declaration_bound true d f) (λ vs h. gives (omega arith))
first_bound (t.evaluates None at) f = gives (omega arith)
first_bound (t.evaluates (Some e) at) f =
    then_gives (in_state_gives nodes f (evaluated e) (evaluated_nodes e f.state)) (λ x h. gives (omega arith))

-- statements in scopes, with and without labels

scope_nodes : {A : Type 0} (size : A → ℕ) {n : ℕ} (typing : FileTyping A) (f : File)
    → AtMost (in_file_size size) n (typing (scope_opened f)) → AtMost (in_file_size size) n (in_scope typing f)
scope_nodes size typing f h = then_gives h (λ r g. gives g)

labels_nodes : {n : ℕ} (ls : Labels) (typing : FileTyping Statement) (f : File)
    → AtMost (in_file_size statement_nodes) n (typing f)
    → AtMost (in_file_size labelled_nodes) (own_nodes ls + n) (labelled ls typing f)
labels_nodes ls typing f h = then_gives h (λ r g. gives (omega arith))

unlabelled_nodes : {n : ℕ} (typing : FileTyping Labelled) (f : File) → AtMost (in_file_size labelled_nodes) n (typing f)
    → AtMost (in_file_size statement_nodes) n (without_labels typing f)
unlabelled_nodes typing f h = then_gives h (λ r g. gives (omega arith))

-- a statement of so many words
abbrev Bounded : FileTyping Statement → ℕ → Type 0
Bounded typing n = (f : File) → AtMost (in_file_size statement_nodes) (file_nodes f + 3 * n) (typing f)

controlled_nodes : (typing : FileTyping Labelled) (n : ℕ)
    → ((f : File) → AtMost (in_file_size labelled_nodes) (file_nodes f + 0 + 3 * n) (typing f))
    → Bounded (controlled typing) n
controlled_nodes typing n h f =
    more (omega arith)
    (scope_nodes statement_nodes (without_labels typing) f
    (unlabelled_nodes typing (scope_opened f) (h (scope_opened f))))

local_nodes : (d : t.Declaration) → Bounded (declaration_typed d) (words_in_declaration d)
local_nodes d f = then_gives (declaration_bound false d f) (λ vs h. gives (omega arith))

-- selection and iteration

condition_bound : (line : ℕ) (e : Expression) (f : File)
    → AtMost (in_file_size nodes) (file_nodes f + 3 * words_in e) (in_state (controlling line e) f)
condition_bound line e f =
    more (omega arith) (in_state_gives nodes f (controlling line e) (controlling_nodes line e f.state))

if_nodes : (line : ℕ) (e : Expression) (body : FileTyping Statement) (n : ℕ) → Bounded body n
    → Bounded (if_typed line e body) (3 + words_in e + n)
if_nodes line e body n h f =
    scope_nodes statement_nodes (in_state (controlling line e) ~> λ c. body ~> λ s. finished (tree.if_then c s)) f
    (then_gives (condition_bound line e (scope_opened f)) (λ c g.
    then_gives (h c.0) (λ s k. gives (omega arith))))

if_else_nodes : (line : ℕ) (e : Expression) (body other : FileTyping Statement) (n m : ℕ) → Bounded body n
    → Bounded other m → Bounded (if_else_typed line e body other) (4 + words_in e + n + m)
if_else_nodes line e body other n m h i f =
    scope_nodes statement_nodes
    (in_state (controlling line e) ~> λ c. body ~> λ s. other ~> λ other. finished (tree.if_else c s other)) f
    (then_gives (condition_bound line e (scope_opened f)) (λ c g.
    then_gives (h c.0) (λ s k. then_gives (i s.0) (λ o j. gives (omega arith)))))

while_nodes : (line : ℕ) (e : Expression) (body : FileTyping Statement) (n : ℕ) → Bounded body n
    → Bounded (while_typed line e body) (3 + words_in e + n)
while_nodes line e body n h f =
    scope_nodes statement_nodes (in_state (controlling line e) ~> λ c. body ~> λ s. finished (tree.while_do c s)) f
    (then_gives (condition_bound line e (scope_opened f)) (λ c g.
    then_gives (h c.0) (λ s k. gives (omega arith))))

no_statement : {B : Type 0} {n : ℕ} (e : Fault) (a : Answer B)
    → AtMost (in_file_size statement_nodes) n (fault_or e a)
no_statement e (Ok x) = refuses
no_statement e (Err g) = refuses

fault_nodes : {n : ℕ} (line : ℕ) (e : Fault) (a : Answer (State × Value))
    → AtMost (in_file_size statement_nodes) n (fault_before line e a)
fault_nodes line e (Ok r) = no_statement e (controls line r.1 r.0)
fault_nodes line e (Err g) = refuses

do_by : (line : ℕ) (e : Expression) (f : File) (n : ℕ) (a : Answer (File × Statement))
    → AtMost (in_file_size statement_nodes) n a
    → AtMost (in_file_size statement_nodes) (n + (1 + 3 * words_in e)) (do_behind line e f a)
do_by line e f n (Ok r) h =
    let low = h.each r refl in
    then_gives (condition_bound line e r.0) (λ c g. gives (omega arith))
do_by line e f n (Err g) h = fault_nodes line g (valued (typed true e) f.state)

do_nodes : (line : ℕ) (e : Expression) (body : FileTyping Statement) (n : ℕ) → Bounded body n
    → Bounded (do_typed line body e) (5 + n + words_in e)
do_nodes line e body n h f =
    scope_nodes statement_nodes (λ f. do_behind line e f (body f)) f
    (more (omega arith)
    (do_by line e (scope_opened f) (file_nodes f + 3 * n) (body (scope_opened f)) (h (scope_opened f))))

head_bound : (line : ℕ) (x : ForInit) (condition step : Option Expression) (f : File)
    → AtMost (in_file_size head_nodes)
    (file_nodes f + 3 * (words_in_first x + words_in_if condition + words_in_if step))
    (head_typed line x condition step f)
head_bound line x condition step f =
    then_gives (first_bound x f) (λ y h. more (omega arith)
    (in_state_gives head_nodes y.0 (behind_first line condition step y.1)
    (behind_first_nodes line condition step y.1 y.0.state)))

for_nodes : (line : ℕ) (x : ForInit) (condition step : Option Expression) (body : FileTyping Statement) (n : ℕ)
    → Bounded body n
    → Bounded (for_typed line x condition step body)
    (4 + words_in_first x + words_in_if condition + words_in_if step + n)
for_nodes line x condition step body n h f =
    scope_nodes statement_nodes
    (head_typed line x condition step ~> λ h. body ~> λ s. finished (tree.for line h.first h.condition h.step s)) f
    (then_gives (head_bound line x condition step (scope_opened f)) (λ k g.
    then_gives (h k.0) (λ s i. gives (omega arith))))

mutual
  pub statement_bound : (a : Around) (ls : Labels) (x : t.Statement) (f : File)
      → AtMost (in_file_size labelled_nodes) (file_nodes f + own_nodes ls + 3 * words_in_statement x)
      (statement a ls x f)
  statement_bound a ls (t.compound b) f = more (omega arith) (labels_nodes ls (block a b) f (block_bound a b f))
  statement_bound a ls (t.expression e at) f =
      more (omega arith) (labels_nodes ls (in_state (expression_typed e)) f
      (in_state_gives statement_nodes f (expression_typed e) (expression_nodes e f.state)))
  statement_bound a ls (t.if_then at l e r x) f =
      more (omega arith) (labels_nodes ls (if_typed at.line e (controlled (statement a no_labels x))) f
      (if_nodes at.line e (controlled (statement a no_labels x)) (words_in_statement x)
      (controlled_nodes (statement a no_labels x) (words_in_statement x) (statement_bound a no_labels x)) f))
  statement_bound a ls (t.if_else at l e r x word other) f =
      more (omega arith) (labels_nodes ls
      (if_else_typed at.line e (controlled (statement a no_labels x)) (controlled (statement a no_labels other))) f
      (if_else_nodes at.line e (controlled (statement a no_labels x)) (controlled (statement a no_labels other))
      (words_in_statement x) (words_in_statement other)
      (controlled_nodes (statement a no_labels x) (words_in_statement x) (statement_bound a no_labels x))
      (controlled_nodes (statement a no_labels other) (words_in_statement other)
      (statement_bound a no_labels other)) f))
  statement_bound a ls (t.switch at l e r b) f =
      more (omega arith) (labels_nodes ls (switch_typed at.line e (λ v. switch_block (switching a) v b)) f
      (scope_nodes statement_nodes (in_state (switching_on at.line e) ~> λ v. switch_block (switching a) v b) f
      (then_gives
      (in_state_gives value_size (scope_opened f) (switching_on at.line e)
      (switching_nodes at.line e (scope_opened f).state))
      (λ v h. more {n = file_nodes f + 3 * (1 + words_in e + words_in_block b)} (omega arith)
      (switch_bound (switching a) v.1 b v.0)))))
  statement_bound a ls (t.while_do at l e r x) f =
      more (omega arith) (labels_nodes ls (while_typed at.line e (controlled (statement (looping a) no_labels x))) f
      (while_nodes at.line e (controlled (statement (looping a) no_labels x)) (words_in_statement x)
      (controlled_nodes (statement (looping a) no_labels x) (words_in_statement x)
      (statement_bound (looping a) no_labels x)) f))
  statement_bound a ls (t.do_while at x word l e r end) f =
      more (omega arith) (labels_nodes ls (do_typed at.line (controlled (statement (looping a) no_labels x)) e) f
      (do_nodes at.line e (controlled (statement (looping a) no_labels x)) (words_in_statement x)
      (controlled_nodes (statement (looping a) no_labels x) (words_in_statement x)
      (statement_bound (looping a) no_labels x)) f))
  statement_bound a ls (t.for at l x condition semicolon step r y) f =
      more (omega arith) (labels_nodes ls
      (for_typed at.line x condition step (controlled (statement (looping a) no_labels y))) f
      (for_nodes at.line x condition step (controlled (statement (looping a) no_labels y)) (words_in_statement y)
      (controlled_nodes (statement (looping a) no_labels y) (words_in_statement y)
      (statement_bound (looping a) no_labels y)) f))
  statement_bound a ls (t.case at e colon x) f =
      then_gives (in_state_gives own_nodes f (case_label ls at.line e) (case_nodes ls at.line e f.state))
      (λ new h. more (omega arith) (statement_bound a new.1 x new.0))
  statement_bound a ls (t.default at colon x) f =
      then_gives (in_state_gives own_nodes f (judged (default_label ls at.line)) (default_nodes ls at.line f.state))
      (λ new h. more (omega arith) (statement_bound a new.1 x new.0))
  statement_bound a ls (t.break at end) f =
      more (omega arith) (labels_nodes ls (in_state (judged (jump a.inside.may_break at.line tree.break))) f
      (in_state_gives statement_nodes f (judged (jump a.inside.may_break at.line tree.break))
      (jump_nodes a.inside.may_break at.line tree.break f.state)))
  statement_bound a ls (t.continue at end) f =
      more (omega arith) (labels_nodes ls (in_state (judged (jump a.inside.may_continue at.line tree.continue))) f
      (in_state_gives statement_nodes f (judged (jump a.inside.may_continue at.line tree.continue))
      (jump_nodes a.inside.may_continue at.line tree.continue f.state)))
  statement_bound a ls (t.return at e end) f =
      more (omega arith) (labels_nodes ls (in_state (returned at.line a.result e)) f
      (in_state_gives statement_nodes f (returned at.line a.result e) (returned_nodes at.line a.result e f.state)))

  block_bound : (a : Around) (b : Block) (f : File)
      → AtMost (in_file_size statement_nodes) (file_nodes f + 3 * words_in_block b) (block a b f)
  block_bound a (t.block l xs r) f =
      then_gives (scope_nodes statements_nodes (block_items a xs) f (items_bound a xs (scope_opened f)))
      (λ ss h. gives (omega arith))

  pub items_bound : (a : Around) (xs : BlockItems) (f : File)
      → AtMost (in_file_size statements_nodes) (file_nodes f + 3 * words_in_block_items xs) (block_items a xs f)
  items_bound a t.no_items f = gives (omega arith)
  items_bound a (t.items x z) f =
      then_gives (item_bound a x f) (λ s h. then_gives (items_bound a z s.0) (λ ss g. gives (omega arith)))

  item_bound : (a : Around) (x : BlockItem) (f : File)
      → AtMost (in_file_size statement_nodes) (file_nodes f + 3 * words_in_block_item x) (block_item a x f)
  item_bound a (t.local d) f = local_nodes d f
  item_bound a (t.inner x) f =
      more (omega arith) (unlabelled_nodes (statement a no_labels x) f (statement_bound a no_labels x f))

  switch_bound : (a : Around) (v : Value) (b : Block) (f : File)
      → AtMost (in_file_size statement_nodes) (file_nodes f + nodes v.tree + 3 * words_in_block b)
      (switch_block a v b f)
  switch_bound a v (t.block l xs r) f =
      then_gives (scope_nodes items_nodes (switch_items a (type_of (kind_of v.tree)) [] xs) f
      (switch_items_bound a (type_of (kind_of v.tree)) [] xs (scope_opened f)))
      (λ is h. gives (omega arith))

  switch_items_bound : (a : Around) (type : IntType) (earlier : List CaseLabel) (xs : BlockItems) (f : File)
      → AtMost (in_file_size items_nodes) (file_nodes f + 3 * words_in_block_items xs)
      (switch_items a type earlier xs f)
  switch_items_bound a type earlier t.no_items f = gives (omega arith)
  switch_items_bound a type earlier (t.items x z) f =
      then_gives (switch_item_bound a (labels_on type earlier) x f) (λ s h.
      then_gives (switch_items_bound a type (earlier ++ s.1.labels) z s.0) (λ is g. gives (omega arith)))

  switch_item_bound : (a : Around) (ls : Labels) (x : BlockItem) (f : File)
      → AtMost (in_file_size labelled_nodes) (file_nodes f + own_nodes ls + 3 * words_in_block_item x)
      (switch_item a ls x f)
  switch_item_bound a ls (t.local d) f =
      more (omega arith) (labels_nodes ls (declaration_typed d) f (local_nodes d f))
  switch_item_bound a ls (t.inner x) f = statement_bound a ls x f
