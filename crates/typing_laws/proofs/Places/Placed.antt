-- Statements are typed to statements that stand where they may.
use Rattle.std.proofs.Common.{◌≡◌, ℕ, Bool, true, false, ◌&&◌, refl, sym, ap, ◌∙◌, List, [], ◌++◌}
use Rattle.std.proofs.Common.{Option, Some, None, if◌then◌else◌}
use Rattle.std.specs.Prelude.{Ok, Err, not}
use Rattle.std.specs.List.{list_all}
use Rattle.std.proofs.lemmas.Bool.{and_from}
use Rattle.std.proofs.lemmas.List.{append_assoc, append-nil}
use Rattle.obj_memory.specs.declared.int_type.IntType.{IntType}
use Rattle.c_syntax.specs.Statements.{Block, BlockItem, BlockItems, ForInit}
use Rattle.c_syntax.specs.Statements as t
use Rattle.c_syntax.specs.Tree.{Expression}
use Rattle.c_tree.specs.declared.c_type.TypeWord.{TypeWord}
use Rattle.c_tree.specs.declared.statement.CaseLabel.{CaseLabel}
use Rattle.c_tree.specs.Kinds.{integer, is_integer}
use Rattle.c_tree.specs.Statements.{Statement, Statements, SwitchItems}
use Rattle.c_tree.specs.Statements as tree
use Rattle.c_tree.specs.Tree.{kind_of}
use Rattle.c_tree.specs.Tree as typed_tree
use Rattle.c_tree.specs.ValidProgram.{are_different, in_switch, is_declaration, is_label, labels_of}
use Rattle.c_const.specs.Integers.{constant_word, type_of}
use Rattle.c_faults.specs.declared.fault.Fault.{Fault}
use Rattle.c_faults.specs.declared.fault.Rule.TheVariants.{MistakenReturn}
use Rattle.c_faults.specs.Answer.{Answer, violates, ◌>>=◌}
use Rattle.c_rules.specs.Conversions.{assigned}
use Rattle.c_rules.specs.Values.{Value}
use Rattle.c_typing_state.specs.State.{State, done, extents, judged}
use Rattle.c_expression_typing.specs.Constructs.{valued}
use Rattle.c_expression_typing.specs.Typed.{typed}
use Rattle.c_unit_typing.specs.Constructs.{Around, Labelled, Labels, case_label, case_with, controlled, controlling}
use Rattle.c_unit_typing.specs.Constructs.{controls, declaration_typed, default_label, do_behind, do_typed, evaluated}
use Rattle.c_unit_typing.specs.Constructs.{expression_typed, fault_before, fault_or, for_typed, gives_void, head_typed}
use Rattle.c_unit_typing.specs.Constructs.{if_else_typed, if_typed, in_scope, jump, labelled, labels_on, looping}
use Rattle.c_unit_typing.specs.Constructs.{no_labels, returned, returned_value, scope_closed}
use Rattle.c_unit_typing.specs.Constructs.{scope_opened, switch_typed}
use Rattle.c_unit_typing.specs.Constructs.{switches, switching, switching_on, while_typed, without_labels}
use Rattle.c_unit_typing.specs.Declarations.{declaration}
use Rattle.c_unit_typing.specs.Files.{File, FileTyping, finished, in_state, ◌~>◌}
use Rattle.c_unit_typing.specs.Statements.{block, block_item, block_items, statement, switch_block, switch_item}
use Rattle.c_unit_typing.specs.Statements.{switch_items}
use Rattle.typing_laws.specs.Places.Placed.{AreFine, IfGives, IsFineStatement, are_labels_of, are_placed}
use Rattle.typing_laws.specs.Places.Placed.{are_placed_items, is_placed}
use Rattle.typing_laws.proofs.Common.{IfGives as IfOf, then_gives as then_of}
use Rattle.typing_laws.proofs.Places.Labels.{IfInteger, IfLabels, all_append, case_fine, default_fine}
use Rattle.typing_laws.proofs.Places.Labels.{integer_is}
use Rattle.typing_laws.proofs.Places.Labels.{switch_integer}

abbrev anything : {A : Type 0} → A → Type 0
anything x = Unit {0}

then_gives : {A B : Type 0} (p : A → Type 0) (q : B → Type 0) (a : Answer (File × A)) (next : A → FileTyping B)
    → IfGives p a → ((x : A) (g : File) → p x → IfGives q (next x g)) → IfGives q (a >>= λ r. next r.1 r.0)
then_gives p q (Ok r) next h g = g r.1 r.0 h
then_gives p q (Err f) next h g = tt

whatever : {A : Type 0} (a : Answer (File × A)) → IfGives anything a
whatever (Ok r) = tt
whatever (Err f) = tt

closed_gives : {A : Type 0} (p : A → Type 0) (close : File → File) (a : Answer (File × A)) → IfGives p a
    → IfGives p (a >>= λ r. Ok (close r.0, r.1))
closed_gives p close (Ok r) h = h
closed_gives p close (Err f) h = tt

scope_gives : {A : Type 0} (p : A → Type 0) (typing : FileTyping A) (f : File) → IfGives p (typing (scope_opened f))
    → IfGives p (in_scope typing f)
scope_gives p typing f h =
    closed_gives p scope_closed (typing (scope_opened f)) h

-- statements by themselves

abbrev Proper : Around → Statement → Type 0
Proper a s = (is_placed a.inside s ≡ true) × (is_declaration s ≡ false)

abbrev Placed : Around → Statement → Type 0
Placed a s = is_placed a.inside s ≡ true

labelled_gives : (a : Around) (ls : Labels) → AreFine ls ls.own → (typing : FileTyping Statement) (f : File)
    → IfGives (Proper a) (typing f) → IfGives (IsFineStatement a ls) (labelled ls typing f)
labelled_gives a ls fine typing f h =
    then_gives (Proper a) (IsFineStatement a ls) (typing f)
    (λ s. finished (record { labels = ls.own; statement = s })) h
    (λ s g is. record { placed = is.0; proper = is.1; labels = fine })

unlabelled_gives : (a : Around) (ls : Labels) (typing : FileTyping Labelled) (f : File)
    → IfGives (IsFineStatement a ls) (typing f) → IfGives (Proper a) (without_labels typing f)
unlabelled_gives a ls typing f h =
    then_gives (IsFineStatement a ls) (Proper a) (typing f) (λ s. finished s.statement) h
    (λ s g is. (is.placed, is.proper))

no_label_fine : AreFine no_labels []
no_label_fine = record { different = refl; fit = refl }

controlled_gives : (a : Around) (typing : FileTyping Labelled) (f : File)
    → ((g : File) → IfGives (IsFineStatement a no_labels) (typing g)) → IfGives (Proper a) (controlled typing f)
controlled_gives a typing f h =
    scope_gives (Proper a) (without_labels typing) f
    (unlabelled_gives a no_labels typing (scope_opened f) (h (scope_opened f)))

body_is : (a : Around) (s : Statement) → Proper a s → (is_placed a.inside s && not (is_declaration s)) ≡ true
body_is a s is = and_from (is_placed a.inside s) (not (is_declaration s)) is.0 (ap not is.1)

-- expressions, jumps and returns

in_state_of : {A : Type 0} (p : A → Type 0) (a : Answer (State × A)) (f : File) → IfOf p a
    → IfGives p (a >>= λ r. Ok (record f { state = r.0 }, r.1))
in_state_of p (Ok r) f h = h
in_state_of p (Err g) f h = tt

expression_gives : (a : Around) (e : Option Expression) (s : State) → IfOf (Proper a) (expression_typed e s)
expression_gives a None s = (refl, refl)
expression_gives a (Some e) s =
    then_of (Proper a) (evaluated e s) (λ e. done (tree.expression_statement e)) (λ x u. (refl, refl))

jump_by : (a : Around) (is : Bool) (line : ℕ) (st : Statement) (s : State) → (is ≡ true → Proper a st)
    → IfOf (Proper a) (jump is line st s >>= λ x. Ok (s, x))
jump_by a true line st s h = h refl
jump_by a false line st s h = tt

nothing_by : (a : Around) (b : Bool) (line : ℕ) (s : State)
    → IfOf (Proper a) ((if b then Ok (tree.return None) else violates MistakenReturn line) >>= λ x. Ok (s, x))
nothing_by a true line s = (refl, refl)
nothing_by a false line s = tt

value_made : (a : Around) (x : Answer typed_tree.Expression) (s : State)
    → IfOf (Proper a) (x >>= (λ e. Ok (tree.return (Some e))) >>= λ x. Ok (s, x))
value_made a (Ok e) s = (refl, refl)
value_made a (Err f) s = tt

value_by : (a : Around) (b : Bool) (line : ℕ) (result : List TypeWord) (v : Value) (s : State)
    → IfOf (Proper a) ((if b then violates MistakenReturn line
    else (assigned (extents s) line result v >>= λ e. Ok (tree.return (Some e)))) >>= λ x. Ok (s, x))
value_by a true line result v s = tt
value_by a false line result v s = value_made a (assigned (extents s) line result v) s

returned_gives : (a : Around) (line : ℕ) (e : Option Expression) (s : State)
    → IfOf (Proper a) (returned line a.result e s)
returned_gives a line None s = nothing_by a (gives_void a.result) line s
returned_gives a line (Some e) s =
    then_of (Proper a) (valued (typed true e) s) (λ v. judged (returned_value line a.result v))
    (λ v u. value_by a (gives_void a.result) line a.result v u)

declaration_gives : (a : Around) (d : t.Declaration) (f : File) → IfGives (Placed a) (declaration_typed d f)
declaration_gives a d f =
    then_gives anything (Placed a) (declaration false d f) (λ vs. finished (tree.declaration vs))
    (whatever (declaration false d f)) (λ vs g is. refl)

-- selection and iteration

if_gives : (a : Around) (line : ℕ) (e : Expression) (body : FileTyping Statement)
    → ((g : File) → IfGives (Proper a) (body g)) → (f : File) → IfGives (Proper a) (if_typed line e body f)
if_gives a line e body h f =
    scope_gives (Proper a) (in_state (controlling line e) ~> λ c. body ~> λ s. finished (tree.if_then c s)) f
    (then_gives anything (Proper a) (in_state (controlling line e) (scope_opened f))
    (λ c. body ~> λ s. finished (tree.if_then c s)) (whatever (in_state (controlling line e) (scope_opened f)))
    (λ c g x. then_gives (Proper a) (Proper a) (body g) (λ s. finished (tree.if_then c s)) (h g)
    (λ s k is. (body_is a s is, refl))))

if_else_gives : (a : Around) (line : ℕ) (e : Expression) (body other : FileTyping Statement)
    → ((g : File) → IfGives (Proper a) (body g)) → ((g : File) → IfGives (Proper a) (other g)) → (f : File)
    → IfGives (Proper a) (if_else_typed line e body other f)
if_else_gives a line e body other h k f =
    scope_gives (Proper a)
    (in_state (controlling line e) ~> λ c. body ~> λ s. other ~> λ other. finished (tree.if_else c s other)) f
    (then_gives anything (Proper a) (in_state (controlling line e) (scope_opened f))
    (λ c. body ~> λ s. other ~> λ other. finished (tree.if_else c s other))
    (whatever (in_state (controlling line e) (scope_opened f)))
    (λ c g x. then_gives (Proper a) (Proper a) (body g) (λ s. other ~> λ other. finished (tree.if_else c s other)) (h g)
    (λ s i is. then_gives (Proper a) (Proper a) (other i) (λ other. finished (tree.if_else c s other)) (k i)
    (λ o j js. (
      and_from (is_placed a.inside s && not (is_declaration s)) (is_placed a.inside o && not (is_declaration o))
          (body_is a s is) (body_is a o js),
      refl,
    )))))

while_gives : (a : Around) (line : ℕ) (e : Expression) (body : FileTyping Statement)
    → ((g : File) → IfGives (Proper (looping a)) (body g)) → (f : File)
    → IfGives (Proper a) (while_typed line e body f)
while_gives a line e body h f =
    scope_gives (Proper a) (in_state (controlling line e) ~> λ c. body ~> λ s. finished (tree.while_do c s)) f
    (then_gives anything (Proper a) (in_state (controlling line e) (scope_opened f))
    (λ c. body ~> λ s. finished (tree.while_do c s)) (whatever (in_state (controlling line e) (scope_opened f)))
    (λ c g x. then_gives (Proper (looping a)) (Proper a) (body g) (λ s. finished (tree.while_do c s)) (h g)
    (λ s k is. (body_is (looping a) s is, refl))))

no_gift : {A B : Type 0} (p : A → Type 0) (f : Fault) (a : Answer B) → IfGives p (fault_or f a)
no_gift p f (Ok x) = tt
no_gift p f (Err g) = tt

fault_gives : (a : Around) (line : ℕ) (f : Fault) (x : Answer (State × Value)) → IfGives (Proper a)
    (fault_before line f x)
fault_gives a line f (Ok r) = no_gift (Proper a) f (controls line r.1 r.0)
fault_gives a line f (Err g) = tt

do_by : (a : Around) (line : ℕ) (e : Expression) (f : File) (x : Answer (File × Statement))
    → IfGives (Proper (looping a)) x → IfGives (Proper a) (do_behind line e f x)
do_by a line e f (Ok r) h =
    then_gives anything (Proper a) (in_state (controlling line e) r.0) (λ c. finished (tree.do_while r.1 c))
    (whatever (in_state (controlling line e) r.0)) (λ c g x. (body_is (looping a) r.1 h, refl))
do_by a line e f (Err g) h = fault_gives a line g (valued (typed true e) f.state)

do_gives : (a : Around) (line : ℕ) (body : FileTyping Statement) (e : Expression)
    → ((g : File) → IfGives (Proper (looping a)) (body g)) → (f : File) → IfGives (Proper a) (do_typed line body e f)
do_gives a line body e h f =
    scope_gives (Proper a) (λ f. do_behind line e f (body f)) f
    (do_by a line e (scope_opened f) (body (scope_opened f)) (h (scope_opened f)))

for_gives : (a : Around) (line : ℕ) (first : ForInit) (condition step : Option Expression) (body : FileTyping Statement)
    → ((g : File) → IfGives (Proper (looping a)) (body g)) → (f : File)
    → IfGives (Proper a) (for_typed line first condition step body f)
for_gives a line first condition step body h f =
    scope_gives (Proper a)
    (head_typed line first condition step ~> λ h. body ~> λ s.
    finished (tree.for line h.first h.condition h.step s)) f
    (then_gives anything (Proper a) (head_typed line first condition step (scope_opened f))
    (λ h. body ~> λ s. finished (tree.for line h.first h.condition h.step s))
    (whatever (head_typed line first condition step (scope_opened f)))
    (λ k g x. then_gives (Proper (looping a)) (Proper a) (body g)
    (λ s. finished (tree.for line k.first k.condition k.step s)) (h g)
    (λ s i is. (body_is (looping a) s is, refl))))

-- labels

labels_gives : (ls : Labels) (a : Answer Labels) (s : State) → IfLabels a ls
    → IfOf (λ new. IfLabels (Ok new) ls) (a >>= λ x. Ok (s, x))
labels_gives ls (Ok new) s h = h
labels_gives ls (Err f) s h = tt

fine_by : (a : Around) (ls new : Labels) → IfLabels (Ok new) ls → AreFine new new.own
fine_by a ls new h = record {
  different = ap (λ z. are_different (z ++ new.own)) h.1 ∙ h.2.different;
  fit = ap (λ z. are_labels_of z new.own) h.0 ∙ h.2.fit;
}

back : (a : Around) (ls new : Labels) → IfLabels (Ok new) ls → (s : Labelled) → IsFineStatement a new s
    → IsFineStatement a ls s
back a ls new h s is = record {
  placed = is.placed;
  proper = is.proper;
  labels = record {
    different = ap (λ z. are_different (z ++ s.labels)) (sym h.1) ∙ is.labels.different;
    fit = ap (λ z. are_labels_of z s.labels) (sym h.0) ∙ is.labels.fit;
  };
}

back_gives : (a : Around) (ls new : Labels) → IfLabels (Ok new) ls → (x : Answer (File × Labelled))
    → IfGives (IsFineStatement a new) x → IfGives (IsFineStatement a ls) x
back_gives a ls new h (Ok r) is = back a ls new h r.1 is
back_gives a ls new h (Err f) is = tt

case_gives : (ls : Labels) → AreFine ls ls.own → (line : ℕ) (e : Expression) (s : State)
    → IfOf (λ new. IfLabels (Ok new) ls) (case_label ls line e s)
case_gives ls fine line e s =
    then_of (λ new. IfLabels (Ok new) ls) (valued (typed false e) s)
    (λ v. judged (λ s. case_with line (constant_word v.tree) ls))
    (λ v u. labels_gives ls (case_with line (constant_word v.tree) ls) u (case_fine line
    (constant_word v.tree) ls fine))

-- a switch

integer_gives : (s : State) (a : Answer Value) → IfInteger a
    → IfOf (λ v. is_integer (kind_of v.tree) ≡ true) (a >>= λ x. Ok (s, x))
integer_gives s (Ok v) h = h
integer_gives s (Err f) h = tt

switching_gives : (line : ℕ) (e : Expression) (s : State)
    → IfOf (λ v. is_integer (kind_of v.tree) ≡ true) (switching_on line e s)
switching_gives line e s =
    then_of (λ v. is_integer (kind_of v.tree) ≡ true) (valued (typed true e) s) (λ v. judged (switches line v))
    (λ v u. integer_gives u (switches line v u) (switch_integer (extents u) line v))

-- the items of the block of a switch, behind those with some labels
record AreFineItems (a : Around) (type : IntType) (earlier : List CaseLabel) (is : SwitchItems) : Type 0 where
  placed : are_placed_items a.inside is ≡ true
  different : are_different (earlier ++ labels_of is) ≡ true
  fit : list_all (is_label (integer type)) (labels_of is) ≡ true

record IsFineItem (a : Around) (type : IntType) (earlier : List CaseLabel) (s : Labelled) : Type 0 where
  placed : is_placed a.inside s.statement ≡ true
  different : are_different (earlier ++ s.labels) ≡ true
  fit : list_all (is_label (integer type)) s.labels ≡ true

item_by : (a : Around) (type : IntType) (earlier : List CaseLabel) (x : Answer (File × Labelled))
    → IfGives (IsFineStatement a (labels_on type earlier)) x → IfGives (IsFineItem a type earlier) x
item_by a type earlier (Ok r) is =
    record { placed = is.placed; different = is.labels.different; fit = is.labels.fit }
item_by a type earlier (Err f) is = tt

local_by : (a : Around) (type : IntType) (earlier : List CaseLabel) → are_different earlier ≡ true
    → (typing : FileTyping Statement) (f : File) → IfGives (Placed a) (typing f)
    → IfGives (IsFineItem a type earlier) (labelled (labels_on type earlier) typing f)
local_by a type earlier different typing f h =
    then_gives (Placed a) (IsFineItem a type earlier) (typing f) (λ s. finished (record { labels = []; statement = s }))
    h
    (λ s g is. record { placed = is; different = ap are_different (append-nil earlier) ∙ different; fit = refl })

switch_is : (a : Around) (v : Value) → is_integer (kind_of v.tree) ≡ true → (line : ℕ) (is : SwitchItems)
    → AreFineItems (switching a) (type_of (kind_of v.tree)) [] is → Proper a (tree.switch v.tree line is)
switch_is a v int line is h = (
  and_from (list_all (is_label (kind_of v.tree)) (labels_of is) && are_different (labels_of is))
      (are_placed_items (in_switch a.inside) is)
      (and_from (list_all (is_label (kind_of v.tree)) (labels_of is)) (are_different (labels_of is))
      (ap (λ k. list_all (is_label k) (labels_of is)) (integer_is (kind_of v.tree) int) ∙ h.fit) h.different) h.placed,
  refl,
)

mutual
  pub statement_placed : (a : Around) (ls : Labels) (s : t.Statement) (f : File) → AreFine ls ls.own
      → IfGives (IsFineStatement a ls) (statement a ls s f)
  statement_placed a ls (t.compound b) f fine = labelled_gives a ls fine (block a b) f (block_placed a b f)
  statement_placed a ls (t.expression e at) f fine =
      labelled_gives a ls fine (in_state (expression_typed e)) f
      (in_state_of (Proper a) (expression_typed e f.state) f (expression_gives a e f.state))
  statement_placed a ls (t.if_then at l e r s) f fine =
      labelled_gives a ls fine (if_typed at.line e (controlled (statement a no_labels s))) f
      (if_gives a at.line e (controlled (statement a no_labels s))
      (λ g. controlled_gives a (statement a no_labels s) g (λ h. statement_placed a no_labels s h no_label_fine)) f)
  statement_placed a ls (t.if_else at l e r s word other) f fine =
      labelled_gives a ls fine
      (if_else_typed at.line e (controlled (statement a no_labels s)) (controlled (statement a no_labels other))) f
      (if_else_gives a at.line e (controlled (statement a no_labels s)) (controlled (statement a no_labels other))
      (λ g. controlled_gives a (statement a no_labels s) g (λ h. statement_placed a no_labels s h no_label_fine))
      (λ g. controlled_gives a (statement a no_labels other) g
      (λ h. statement_placed a no_labels other h no_label_fine)) f)
  statement_placed a ls (t.switch at l e r b) f fine =
      labelled_gives a ls fine (switch_typed at.line e (λ v. switch_block (switching a) v b)) f
      (scope_gives (Proper a) (in_state (switching_on at.line e) ~> λ v. switch_block (switching a) v b) f
      (then_gives (λ v. is_integer (kind_of v.tree) ≡ true) (Proper a)
      (in_state (switching_on at.line e) (scope_opened f)) (λ v. switch_block (switching a) v b)
      (in_state_of (λ v. is_integer (kind_of v.tree) ≡ true) (switching_on at.line e (scope_opened f).state)
      (scope_opened f) (switching_gives at.line e (scope_opened f).state))
      (λ v g int. switch_placed a v int b g)))
  statement_placed a ls (t.while_do at l e r s) f fine =
      labelled_gives a ls fine (while_typed at.line e (controlled (statement (looping a) no_labels s))) f
      (while_gives a at.line e (controlled (statement (looping a) no_labels s))
      (λ g. controlled_gives (looping a) (statement (looping a) no_labels s) g
      (λ h. statement_placed (looping a) no_labels s h no_label_fine)) f)
  statement_placed a ls (t.do_while at s word l e r end) f fine =
      labelled_gives a ls fine (do_typed at.line (controlled (statement (looping a) no_labels s)) e) f
      (do_gives a at.line (controlled (statement (looping a) no_labels s)) e
      (λ g. controlled_gives (looping a) (statement (looping a) no_labels s) g
      (λ h. statement_placed (looping a) no_labels s h no_label_fine)) f)
  statement_placed a ls (t.for at l first condition semicolon step r s) f fine =
      labelled_gives a ls fine
      (for_typed at.line first condition step (controlled (statement (looping a) no_labels s))) f
      (for_gives a at.line first condition step (controlled (statement (looping a) no_labels s))
      (λ g. controlled_gives (looping a) (statement (looping a) no_labels s) g
      (λ h. statement_placed (looping a) no_labels s h no_label_fine)) f)
  statement_placed a ls (t.case at e colon s) f fine =
      then_gives (λ new. IfLabels (Ok new) ls) (IsFineStatement a ls) (in_state (case_label ls at.line e) f)
      (λ ls. statement a ls s)
      (in_state_of (λ new. IfLabels (Ok new) ls) (case_label ls at.line e f.state) f
      (case_gives ls fine at.line e f.state))
      (λ new g h. back_gives a ls new h (statement a new s g) (statement_placed a new s g (fine_by a ls new h)))
  statement_placed a ls (t.default at colon s) f fine =
      then_gives (λ new. IfLabels (Ok new) ls) (IsFineStatement a ls)
      (in_state (judged (default_label ls at.line)) f) (λ ls. statement a ls s)
      (in_state_of (λ new. IfLabels (Ok new) ls) (judged (default_label ls at.line) f.state) f
      (labels_gives ls (default_label ls at.line f.state) f.state (default_fine at.line ls fine)))
      (λ new g h. back_gives a ls new h (statement a new s g) (statement_placed a new s g (fine_by a ls new h)))
  statement_placed a ls (t.break at end) f fine =
      labelled_gives a ls fine (in_state (judged (jump a.inside.may_break at.line tree.break))) f
      (in_state_of (Proper a) (judged (jump a.inside.may_break at.line tree.break) f.state) f
      (jump_by a a.inside.may_break at.line tree.break f.state (λ e. (e, refl))))
  statement_placed a ls (t.continue at end) f fine =
      labelled_gives a ls fine (in_state (judged (jump a.inside.may_continue at.line tree.continue))) f
      (in_state_of (Proper a) (judged (jump a.inside.may_continue at.line tree.continue) f.state) f
      (jump_by a a.inside.may_continue at.line tree.continue f.state (λ e. (e, refl))))
  statement_placed a ls (t.return at e end) f fine =
      labelled_gives a ls fine (in_state (returned at.line a.result e)) f
      (in_state_of (Proper a) (returned at.line a.result e f.state) f (returned_gives a at.line e f.state))

  block_placed : (a : Around) (b : Block) (f : File) → IfGives (Proper a) (block a b f)
  block_placed a (t.block l xs r) f =
      then_gives (λ ss. are_placed a.inside ss ≡ true) (Proper a) (in_scope (block_items a xs) f)
      (λ ss. finished (tree.block l.line ss))
      (scope_gives (λ ss. are_placed a.inside ss ≡ true) (block_items a xs) f (block_items_placed a xs
      (scope_opened f)))
      (λ ss g is. (is, refl))

  pub block_items_placed : (a : Around) (xs : BlockItems) (f : File)
      → IfGives (λ ss. are_placed a.inside ss ≡ true) (block_items a xs f)
  block_items_placed a t.no_items f = refl
  block_items_placed a (t.items x more) f =
      then_gives (Placed a) (λ ss. are_placed a.inside ss ≡ true) (block_item a x f)
      (λ s. block_items a more ~> λ ss. finished (tree.statements s ss)) (block_item_placed a x f)
      (λ s g is. then_gives (λ ss. are_placed a.inside ss ≡ true) (λ ss. are_placed a.inside ss ≡ true)
      (block_items a more g) (λ ss. finished (tree.statements s ss)) (block_items_placed a more g)
      (λ ss h are. and_from (is_placed a.inside s) (are_placed a.inside ss) is are))

  block_item_placed : (a : Around) (x : BlockItem) (f : File) → IfGives (Placed a) (block_item a x f)
  block_item_placed a (t.local d) f = declaration_gives a d f
  block_item_placed a (t.inner s) f =
      then_gives (IsFineStatement a no_labels) (Placed a) (statement a no_labels s f) (λ s. finished s.statement)
      (statement_placed a no_labels s f no_label_fine) (λ r g is. is.placed)

  switch_placed : (a : Around) (v : Value) → is_integer (kind_of v.tree) ≡ true → (b : Block) (f : File)
      → IfGives (Proper a) (switch_block (switching a) v b f)
  switch_placed a v int (t.block l xs r) f =
      then_gives (AreFineItems (switching a) (type_of (kind_of v.tree)) []) (Proper a)
      (in_scope (switch_items (switching a) (type_of (kind_of v.tree)) [] xs) f)
      (λ is. finished (tree.switch v.tree l.line is))
      (scope_gives (AreFineItems (switching a) (type_of (kind_of v.tree)) [])
      (switch_items (switching a) (type_of (kind_of v.tree)) [] xs) f
      (switch_items_placed (switching a) (type_of (kind_of v.tree)) [] refl xs (scope_opened f)))
      (λ is g h. switch_is a v int l.line is h)

  switch_items_placed : (a : Around) (type : IntType) (earlier : List CaseLabel) → are_different earlier ≡ true
      → (xs : BlockItems) (f : File) → IfGives (AreFineItems a type earlier) (switch_items a type earlier xs f)
  switch_items_placed a type earlier different t.no_items f =
      record { placed = refl; different = ap are_different (append-nil earlier) ∙ different; fit = refl }
  switch_items_placed a type earlier different (t.items x more) f =
      then_gives (IsFineItem a type earlier) (AreFineItems a type earlier)
      (switch_item a (labels_on type earlier) x f)
      (λ s. switch_items a type (earlier ++ s.labels) more ~> λ is. finished (tree.items s.labels s.statement is))
      (switch_item_placed a type earlier different x f)
      (λ s g item. then_gives (AreFineItems a type (earlier ++ s.labels)) (AreFineItems a type earlier)
      (switch_items a type (earlier ++ s.labels) more g) (λ is. finished (tree.items s.labels s.statement is))
      (switch_items_placed a type (earlier ++ s.labels) item.different more g)
      (λ is h rest. record {
        placed = and_from (is_placed a.inside s.statement) (are_placed_items a.inside is) item.placed rest.placed;
        different = ap are_different (sym (append_assoc earlier s.labels (labels_of is))) ∙ rest.different;
        fit = all_append (is_label (integer type)) s.labels (labels_of is) item.fit rest.fit;
      }))

  switch_item_placed : (a : Around) (type : IntType) (earlier : List CaseLabel) → are_different earlier ≡ true
      → (x : BlockItem) (f : File) → IfGives (IsFineItem a type earlier) (switch_item a (labels_on type earlier) x f)
  switch_item_placed a type earlier different (t.local d) f =
      local_by a type earlier different (declaration_typed d) f (declaration_gives a d f)
  switch_item_placed a type earlier different (t.inner s) f =
      item_by a type earlier (statement a (labels_on type earlier) s f)
      (statement_placed a (labels_on type earlier) s f
      (record { different = ap are_different (append-nil earlier) ∙ different; fit = refl }))
