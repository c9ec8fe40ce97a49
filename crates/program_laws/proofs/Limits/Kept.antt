-- Declarations and statements define no functions (C99 6.7, 6.8, 6.9.1).
use Rattle.std.proofs.Common.{◌≡◌, ℕ, Bool, true, false, refl, ◌∙◌, List, [], ◌∷◌, ◌++◌, Option, Some, None}
use Rattle.std.proofs.Common.{if◌then◌else◌}
use Rattle.std.specs.Prelude.{Ok, Err, is_none, is_some, option_map}
use Rattle.obj_memory.specs.declared.int_type.IntType.{IntType}
use Rattle.c_syntax.specs.declared.position.Position.{Position}
use Rattle.c_syntax.specs.Statements.{Block, BlockItem, BlockItems, ForInit}
use Rattle.c_syntax.specs.Statements as t
use Rattle.c_syntax.specs.Tree.{Expression, Initializer}
use Rattle.c_tree.specs.declared.c_type.TypeWord.{TypeWord}
use Rattle.c_tree.specs.declared.statement.CaseLabel.{CaseLabel}
use Rattle.c_tree.specs.Statements.{DeclaredVariable, Part, Statement}
use Rattle.c_tree.specs.Statements as tree
use Rattle.c_tree.specs.Tree.{kind_of}
use Rattle.c_const.specs.Integers.{type_of}
use Rattle.c_faults.specs.declared.fault.Fault.{Fault}
use Rattle.c_faults.specs.Answer.{Answer, ◌>>=◌}
use Rattle.c_rules.specs.Values.{Value}
use Rattle.c_scope.specs.declared.meaning.Designated.TheVariants as what
use Rattle.c_scope.specs.declared.meaning.Meaning.{Meaning}
use Rattle.c_scope.specs.declared.meaning.Meaning.TheVariants as meaning
use Rattle.c_scope.specs.Names.{Name}
use Rattle.c_declarator_typing.specs.Declarators.{Shape}
use Rattle.c_declarator_typing.specs.Specifications.{Specification}
use Rattle.c_typing_state.specs.State.{State, Typing, judged}
use Rattle.c_expression_typing.specs.Constructs.{valued}
use Rattle.c_expression_typing.specs.Typed.{shape, typed}
use Rattle.c_unit_typing.specs.Constructs.{Around, Labelled, Labels, behind_first, case_label, controlled, controlling}
use Rattle.c_unit_typing.specs.Constructs.{controls, declaration_typed, default_label, do_behind, do_typed, evaluated}
use Rattle.c_unit_typing.specs.Constructs.{expression_typed, fault_before, fault_or, first_typed, for_typed}
use Rattle.c_unit_typing.specs.Constructs.{head_typed, if_else_typed, if_typed, in_scope, jump, labelled, labels_on}
use Rattle.c_unit_typing.specs.Constructs.{looping, no_labels, returned, scope_closed, scope_opened, switch_typed}
use Rattle.c_unit_typing.specs.Constructs.{switching, switching_on, while_typed, without_labels}
use Rattle.c_unit_typing.specs.Declarations.{alone_in, declaration, declared_as, declared_with, initialized_if}
use Rattle.c_unit_typing.specs.Declarations.{initializer_in, named_by, specified, with_declarator, with_declarators}
use Rattle.c_unit_typing.specs.Declarations.{with_others, with_parts, with_static, with_variable}
use Rattle.c_unit_typing.specs.Files.{File, FileTyping, finished, in_state, ◌~>◌}
use Rattle.c_unit_typing.specs.Lines.{initializer_line}
use Rattle.c_unit_typing.specs.Statements.{block, block_item, block_items, statement, switch_block, switch_item}
use Rattle.c_unit_typing.specs.Statements.{switch_items}

abbrev pub IfKept : {A : Type 0} → File → Answer (File × A) → Type 0
IfKept f (Ok r) = r.0.definitions ≡ f.definitions
IfKept f (Err e) = Unit {0}

-- the file behind a construct has the same definitions
pub record Keeping {A : Type 0} (f : File) (a : Answer (File × A)) : Type 0 where
  pub by : IfKept f a

pub done_keeps : {A : Type 0} {f : File} {x : A} → Keeping f (Ok (f, x))
done_keeps = record { by = refl }

more_by : {A : Type 0} (f g : File) → g.definitions ≡ f.definitions → (a : Answer (File × A)) → IfKept g a
    → IfKept f a
more_by f g e (Ok r) h = h ∙ e
more_by f g e (Err x) h = tt

then_by : {A B : Type 0} (f : File) (a : Answer (File × A)) (next : File × A → Answer (File × B)) → IfKept f a
    → ((r : File × A) → Keeping r.0 (next r)) → IfKept f (a >>= next)
then_by f (Ok r) next h go = more_by f r.0 h (next r) (go r).by
then_by f (Err e) next h go = tt

pub then_keeps : {A B : Type 0} {f : File} {a : Answer (File × A)} {next : File × A → Answer (File × B)}
    → Keeping f a → ((r : File × A) → Keeping r.0 (next r)) → Keeping f (a >>= next)
then_keeps {f = f} {a = a} {next = next} h go = record { by = then_by f a next h.by go }

state_by : {A : Type 0} (f : File) (a : Answer (State × A)) → IfKept f (a >>= λ r. Ok (record f { state = r.0 }, r.1))
state_by f (Ok r) = refl
state_by f (Err e) = tt

pub state_keeps : {A : Type 0} (typing : Typing A) (f : File) → Keeping f (in_state typing f)
state_keeps typing f = record { by = state_by f (typing f.state) }

scope_by : {A : Type 0} (f : File) (a : Answer (File × A)) → IfKept (scope_opened f) a
    → IfKept f (a >>= λ r. Ok (scope_closed r.0, r.1))
scope_by f (Ok r) h = h
scope_by f (Err e) h = tt

scope_keeps : {A : Type 0} (typing : FileTyping A) (f : File) → Keeping (scope_opened f) (typing (scope_opened f))
    → Keeping f (in_scope typing f)
scope_keeps typing f h = record { by = scope_by f (typing (scope_opened f)) h.by }

-- declarations

variable_keeps : (n : ℕ) (b : Bool) (r : List TypeWord × List Part) (f : File) → Keeping f (with_variable n b r f)
variable_keeps n b r f = record { by = refl }

static_keeps : (n : ℕ) (r : List TypeWord × List Part) (f : File) → Keeping f (with_static n r f)
static_keeps n r f = record { by = refl }

parts_by : (b : Bool) (n : ℕ) (r : List TypeWord × List Part) (f : File)
    → (if b then record f { initializers = f.initializers ++ (n, r.1) ∷ [] } else f).definitions ≡ f.definitions
parts_by true n r f = refl
parts_by false n r f = refl

parts_keep : (n : ℕ) (b : Bool) (r : List TypeWord × List Part) (f : File) → Keeping f (with_parts n b r f)
parts_keep n b r f = record { by = parts_by b n r f }

declared_keeps : (name : Name × ℕ) (x : Option Initializer) (m : Option Meaning) (f : File)
    → Keeping f (declared_with name x m f)
declared_keeps name x (Some (meaning.Named (what.Variable n) type)) f =
    then_keeps (state_keeps (initialized_if (what.Variable n) name type x) f)
    (λ r. variable_keeps n (is_some x) r.1 r.0)
declared_keeps name x (Some (meaning.Named (what.Static n) type)) f =
    then_keeps (state_keeps (initialized_if (what.Static n) name type x) f) (λ r. static_keeps n r.1 r.0)
declared_keeps name x (Some (meaning.Named (what.Object n) type)) f =
    then_keeps (state_keeps (initialized_if (what.Object n) name type x) f) (λ r. parts_keep n (is_some x) r.1 r.0)
declared_keeps name x _ f = done_keeps

named_keeps : (in_head : Bool) (spec : Specification) (x : Option Initializer) (sh : Shape) (name : Option (Name × ℕ))
    (f : File) → Keeping f (named_by in_head spec x sh name f)
named_keeps in_head spec x sh None f = done_keeps
named_keeps in_head spec x sh (Some name) f =
    then_keeps (state_keeps (declared_as in_head spec sh (option_map initializer_line x) name) f)
    (λ m. declared_keeps name x m.1 m.0)

declarator_keeps : (in_head : Bool) (spec : Specification) (d : t.InitDeclarator) (f : File)
    → Keeping f (with_declarator in_head spec d f)
declarator_keeps in_head spec d f =
    then_keeps (state_keeps (shape false d.declarator) f)
    (λ sh. named_keeps in_head spec (initializer_in d) sh.1 sh.1.name sh.0)

others_keep : (in_head : Bool) (spec : Specification) (ds : List (Position × t.InitDeclarator))
    (vs : List DeclaredVariable) (f : File) → Keeping f (with_others in_head spec ds vs f)
others_keep in_head spec [] vs f = done_keeps
others_keep in_head spec (d ∷ ds) vs f =
    then_keeps (declarator_keeps in_head spec d.1 f) (λ us. others_keep in_head spec ds (vs ++ us.1) us.0)

declarators_keep : (in_head : Bool) (spec : Specification) (ds : Option t.InitDeclarators) (f : File)
    → Keeping f (with_declarators in_head spec ds f)
declarators_keep in_head spec None f = state_keeps (judged (alone_in in_head spec)) f
declarators_keep in_head spec (Some ds) f =
    then_keeps (declarator_keeps in_head spec ds.first f) (λ vs. others_keep in_head spec ds.others vs.1 vs.0)

pub declaration_keeps : (in_head : Bool) (d : t.Declaration) (f : File) → Keeping f (declaration in_head d f)
declaration_keeps in_head d f =
    then_keeps (state_keeps (specified (is_none d.declarators) d) f)
    (λ spec. declarators_keep in_head spec.1 d.declarators spec.0)

-- statements that are controlled, and with labels

labels_keep : (ls : Labels) (typing : FileTyping Statement) (f : File) → Keeping f (typing f)
    → Keeping f (labelled ls typing f)
labels_keep ls typing f h = then_keeps h (λ r. done_keeps)

unlabelled_keeps : (typing : FileTyping Labelled) (f : File) → Keeping f (typing f)
    → Keeping f (without_labels typing f)
unlabelled_keeps typing f h = then_keeps h (λ r. done_keeps)

-- what keeps the definitions of each file
abbrev Keeps : {A : Type 0} → FileTyping A → Type 0
Keeps typing = (f : File) → Keeping f (typing f)

controlled_keeps : (typing : FileTyping Labelled) → Keeps typing → Keeps (controlled typing)
controlled_keeps typing h f =
    scope_keeps (without_labels typing) f (unlabelled_keeps typing (scope_opened f) (h (scope_opened f)))

local_keeps : (d : t.Declaration) → Keeps (declaration_typed d)
local_keeps d f = then_keeps (declaration_keeps false d f) (λ vs. done_keeps)

-- selection and iteration

if_keeps : (line : ℕ) (e : Expression) (body : FileTyping Statement) → Keeps body → Keeps (if_typed line e body)
if_keeps line e body h f =
    scope_keeps (in_state (controlling line e) ~> λ c. body ~> λ s. finished (tree.if_then c s)) f
    (then_keeps (state_keeps (controlling line e) (scope_opened f)) (λ c. then_keeps (h c.0) (λ s. done_keeps)))

if_else_keeps : (line : ℕ) (e : Expression) (body other : FileTyping Statement) → Keeps body → Keeps other
    → Keeps (if_else_typed line e body other)
if_else_keeps line e body other h g f =
    scope_keeps (in_state (controlling line e) ~> λ c. body ~> λ s. other ~> λ other. finished (tree.if_else c s other))
    f
    (then_keeps (state_keeps (controlling line e) (scope_opened f)) (λ c.
    then_keeps (h c.0) (λ s. then_keeps (g s.0) (λ o. done_keeps))))

while_keeps : (line : ℕ) (e : Expression) (body : FileTyping Statement) → Keeps body
    → Keeps (while_typed line e body)
while_keeps line e body h f =
    scope_keeps (in_state (controlling line e) ~> λ c. body ~> λ s. finished (tree.while_do c s)) f
    (then_keeps (state_keeps (controlling line e) (scope_opened f)) (λ c. then_keeps (h c.0) (λ s. done_keeps)))

no_statement : {B : Type 0} (f : File) (e : Fault) (a : Answer B) → IfKept {A = Statement} f (fault_or e a)
no_statement f e (Ok x) = tt
no_statement f e (Err g) = tt

fault_keeps : (f : File) (line : ℕ) (e : Fault) (a : Answer (State × Value))
    → IfKept {A = Statement} f (fault_before line e a)
fault_keeps f line e (Ok r) = no_statement f e (controls line r.1 r.0)
fault_keeps f line e (Err g) = tt

do_by : (line : ℕ) (e : Expression) (f : File) (a : Answer (File × Statement)) → IfKept f a
    → IfKept f (do_behind line e f a)
do_by line e f (Ok r) h =
    more_by f r.0 h ((in_state (controlling line e) ~> λ c. finished (tree.do_while r.1 c)) r.0)
    (do_end r).by
  where
    do_end : (r : File × Statement)
        → Keeping r.0 ((in_state (controlling line e) ~> λ c. finished (tree.do_while r.1 c)) r.0)
    do_end r = then_keeps (state_keeps (controlling line e) r.0) (λ c. done_keeps)
do_by line e f (Err g) h = fault_keeps f line g (valued (typed true e) f.state)

do_keeps : (line : ℕ) (e : Expression) (body : FileTyping Statement) → Keeps body → Keeps (do_typed line body e)
do_keeps line e body h f =
    scope_keeps (λ f. do_behind line e f (body f)) f
    (record { by = do_by line e (scope_opened f) (body (scope_opened f)) (h (scope_opened f)).by })

first_keeps : (x : ForInit) → Keeps (first_typed x)
first_keeps (t.declares d) f = then_keeps (declaration_keeps true d f) (λ vs. done_keeps)
first_keeps (t.evaluates None at) f = done_keeps
first_keeps (t.evaluates (Some e) at) f = then_keeps (state_keeps (evaluated e) f) (λ x. done_keeps)

head_keeps : (line : ℕ) (x : ForInit) (condition step : Option Expression) → Keeps (head_typed line x condition step)
head_keeps line x condition step f =
    then_keeps (first_keeps x f) (λ y. state_keeps (behind_first line condition step y.1) y.0)

for_keeps : (line : ℕ) (x : ForInit) (condition step : Option Expression) (body : FileTyping Statement) → Keeps body
    → Keeps (for_typed line x condition step body)
for_keeps line x condition step body h f =
    scope_keeps
    (head_typed line x condition step ~> λ y. body ~> λ s.
    finished (tree.for line y.first y.condition y.step s)) f
    (then_keeps (head_keeps line x condition step (scope_opened f)) (λ y. then_keeps (h y.0) (λ s. done_keeps)))

-- statements, blocks and the items of a switch

mutual
  statement_keeps : (a : Around) (ls : Labels) (x : t.Statement) (f : File) → Keeping f (statement a ls x f)
  statement_keeps a ls (t.compound b) f = labels_keep ls (block a b) f (block_keeps a b f)
  statement_keeps a ls (t.expression e at) f =
      labels_keep ls (in_state (expression_typed e)) f (state_keeps (expression_typed e) f)
  statement_keeps a ls (t.if_then at l e r x) f =
      let body = controlled (statement a no_labels x) in
      labels_keep ls (if_typed at.line e body) f
      (if_keeps at.line e body (controlled_keeps (statement a no_labels x) (statement_keeps a no_labels x)) f)
  statement_keeps a ls (t.if_else at l e r x word y) f =
      let body = controlled (statement a no_labels x) in
      let other = controlled (statement a no_labels y) in
      labels_keep ls (if_else_typed at.line e body other) f
      (if_else_keeps at.line e body other
      (controlled_keeps (statement a no_labels x) (statement_keeps a no_labels x))
      (controlled_keeps (statement a no_labels y) (statement_keeps a no_labels y)) f)
  statement_keeps a ls (t.switch at l e r b) f =
      labels_keep ls (switch_typed at.line e (λ v. switch_block (switching a) v b)) f
      (scope_keeps (in_state (switching_on at.line e) ~> λ v. switch_block (switching a) v b) f
      (then_keeps (state_keeps (switching_on at.line e) (scope_opened f))
      (λ v. switch_keeps (switching a) v.1 b v.0)))
  statement_keeps a ls (t.while_do at l e r x) f =
      let body = controlled (statement (looping a) no_labels x) in
      labels_keep ls (while_typed at.line e body) f
      (while_keeps at.line e body
      (controlled_keeps (statement (looping a) no_labels x) (statement_keeps (looping a) no_labels x)) f)
  statement_keeps a ls (t.do_while at x word l e r end) f =
      let body = controlled (statement (looping a) no_labels x) in
      labels_keep ls (do_typed at.line body e) f
      (do_keeps at.line e body
      (controlled_keeps (statement (looping a) no_labels x) (statement_keeps (looping a) no_labels x)) f)
  statement_keeps a ls (t.for at l x condition semicolon step r y) f =
      let body = controlled (statement (looping a) no_labels y) in
      labels_keep ls (for_typed at.line x condition step body) f
      (for_keeps at.line x condition step body
      (controlled_keeps (statement (looping a) no_labels y) (statement_keeps (looping a) no_labels y)) f)
  statement_keeps a ls (t.case at e colon x) f =
      then_keeps (state_keeps (case_label ls at.line e) f) (λ new. statement_keeps a new.1 x new.0)
  statement_keeps a ls (t.default at colon x) f =
      then_keeps (state_keeps (judged (default_label ls at.line)) f) (λ new. statement_keeps a new.1 x new.0)
  statement_keeps a ls (t.break at end) f =
      labels_keep ls (in_state (judged (jump a.inside.may_break at.line tree.break))) f
      (state_keeps (judged (jump a.inside.may_break at.line tree.break)) f)
  statement_keeps a ls (t.continue at end) f =
      labels_keep ls (in_state (judged (jump a.inside.may_continue at.line tree.continue))) f
      (state_keeps (judged (jump a.inside.may_continue at.line tree.continue)) f)
  statement_keeps a ls (t.return at e end) f =
      labels_keep ls (in_state (returned at.line a.result e)) f (state_keeps (returned at.line a.result e) f)

  block_keeps : (a : Around) (b : Block) (f : File) → Keeping f (block a b f)
  block_keeps a (t.block l xs r) f =
      then_keeps (scope_keeps (block_items a xs) f (items_keep a xs (scope_opened f))) (λ ss. done_keeps)

  pub items_keep : (a : Around) (xs : BlockItems) (f : File) → Keeping f (block_items a xs f)
  items_keep a t.no_items f = done_keeps
  items_keep a (t.items x z) f =
      then_keeps (item_keeps a x f) (λ s. then_keeps (items_keep a z s.0) (λ ss. done_keeps))

  item_keeps : (a : Around) (x : BlockItem) (f : File) → Keeping f (block_item a x f)
  item_keeps a (t.local d) f = local_keeps d f
  item_keeps a (t.inner x) f = unlabelled_keeps (statement a no_labels x) f (statement_keeps a no_labels x f)

  switch_keeps : (a : Around) (v : Value) (b : Block) (f : File) → Keeping f (switch_block a v b f)
  switch_keeps a v (t.block l xs r) f =
      then_keeps (scope_keeps (switch_items a (type_of (kind_of v.tree)) [] xs) f
      (switch_items_keep a (type_of (kind_of v.tree)) [] xs (scope_opened f))) (λ is. done_keeps)

  switch_items_keep : (a : Around) (type : IntType) (earlier : List CaseLabel) (xs : BlockItems) (f : File)
      → Keeping f (switch_items a type earlier xs f)
  switch_items_keep a type earlier t.no_items f = done_keeps
  switch_items_keep a type earlier (t.items x z) f =
      then_keeps (switch_item_keeps a (labels_on type earlier) x f) (λ s.
      then_keeps (switch_items_keep a type (earlier ++ s.1.labels) z s.0) (λ is. done_keeps))

  switch_item_keeps : (a : Around) (ls : Labels) (x : BlockItem) (f : File) → Keeping f (switch_item a ls x f)
  switch_item_keeps a ls (t.local d) f = labels_keep ls (declaration_typed d) f (local_keeps d f)
  switch_item_keeps a ls (t.inner x) f = statement_keeps a ls x f
