-- What types a statement with its labels, by what types it without them.
use Rattle.std.proofs.Common.{◌≡◌, List, Option, Result, refl, sym, ap, ◌∙◌}
use Rattle.c_syntax.specs.declared.position.Position.{Position}
use Rattle.c_syntax.specs.declared.statement.Block as rb
use Rattle.c_syntax.specs.declared.statement.CaseLabel.{CaseLabel as CaseTree}
use Rattle.c_syntax.specs.declared.statement.DoEnd.{DoEnd}
use Rattle.c_syntax.specs.declared.statement.ForHead.{ForHead}
use Rattle.c_syntax.specs.declared.statement.Parenthesized.{Parenthesized}
use Rattle.c_syntax.specs.declared.statement.Statement as rs
use Rattle.c_syntax.specs.declared.tree.Expression as rx
use Rattle.c_syntax.specs.Statements as t
use Rattle.c_syntax.specs.StatementsView.{block_of, for_init_of, optional_of, statement_of}
use Rattle.c_syntax.specs.View.{expression_of}
use Rattle.c_tree.specs.declared.statement.CaseLabel.{CaseLabel}
use Rattle.c_tree.specs.declared.statement.Statement as code
use Rattle.c_tree.specs.Statements as built
use Rattle.c_tree.specs.View as tree
use Rattle.c_faults.specs.declared.fault.Refusal.{Refusal}
use Rattle.c_faults.specs.Answer.{Gives}
use Rattle.c_typing_state.specs.State.{State, Types, judged}
use Rattle.c_programs.specs.FileState.{FileTypes}
use Rattle.c_unit_typing.specs.Constructs.{Around, Labels, case_label, controlled, default_label, do_typed}
use Rattle.c_unit_typing.specs.Constructs.{expression_typed, for_typed, if_else_typed, if_typed, jump, looping}
use Rattle.c_unit_typing.specs.Constructs.{no_labels, returned, switch_typed, switching, while_typed}
use Rattle.c_unit_typing.specs.Files.{File, in_state, ◌~>◌}
use Rattle.c_unit_typing.specs.Statements.{block, statement, switch_block}
use Rattle.c_typer.specs.Around.{labelled_of}
use Rattle.c_typer.proofs.Composing.{in_file, judged_in, statement_typed, with_labels}
use Rattle.c_typer.proofs.Views.{block_view, break_view, case_view, continue_view, default_view, do_view}
use Rattle.c_typer.proofs.Views.{expression_view, for_view, if_else_view, if_view, return_view, switch_view}
use Rattle.c_typer.proofs.Views.{while_view}

pub block_arm : (a : Around) (ls : Labels) (b : rb.Block) (whole : rs.Statement) (f new : File)
    (result : Result code.Statement Refusal) → whole ≡ rs.Block b
    → FileTypes tree.statement_of new result (block a (block_of b) f)
    → FileTypes (labelled_of ls.own) new result (statement a ls (statement_of whole) f)
block_arm a ls b whole f new result is types =
    statement_typed (t.compound (block_of b)) _ a ls ls.own f new result
    (sym (ap statement_of is ∙ block_view b))
    (with_labels ls ls.own (block a (block_of b)) f new result refl types)

pub expression_arm : (a : Around) (ls : Labels) (e : Option rx.Expression) (at : Position) (whole : rs.Statement)
    (f : File) (state : State)
    (result : Result code.Statement Refusal) → whole ≡ rs.Expression e at
    → Types tree.statement_of state result (expression_typed (optional_of e) f.state)
    → FileTypes (labelled_of ls.own) (record f { state = state }) result (statement a ls (statement_of whole) f)
expression_arm a ls e at whole f state result is types =
    statement_typed (t.expression (optional_of e) at) _ a ls ls.own f (record f { state = state }) result
    (sym (ap statement_of is ∙ expression_view e at))
    (with_labels ls ls.own (in_state (expression_typed (optional_of e))) f (record f { state = state }) result refl
    (in_file tree.statement_of (expression_typed (optional_of e)) f state result types))

pub if_arm : (a : Around) (ls : Labels) (at : Position) (c : Parenthesized) (x : rs.Statement) (e : rx.Expression)
    (y : rs.Statement) (whole : rs.Statement) (f new : File)
    (result : Result code.Statement Refusal) → whole ≡ rs.If at c x → e ≡ c.inner → y ≡ x
    → FileTypes tree.statement_of new result (if_typed at.line (expression_of e) (controlled (statement a no_labels
    (statement_of y))) f)
    → FileTypes (labelled_of ls.own) new result (statement a ls (statement_of whole) f)
if_arm a ls at c x e y whole f new result is same_0 same_1 types =
    statement_typed (t.if_then at c.left (expression_of e) c.right (statement_of y)) _ a ls ls.own f new result
    (ap (λ v. t.if_then at c.left (expression_of v) c.right (statement_of y)) same_0
    ∙ ap (λ v. t.if_then at c.left (expression_of c.inner) c.right (statement_of v)) same_1
    ∙ sym (ap statement_of is ∙ if_view at c x))
    (with_labels ls ls.own (if_typed at.line (expression_of e) (controlled (statement a no_labels
    (statement_of y)))) f new result refl types)

pub if_else_arm : (a : Around) (ls : Labels) (at : Position) (c : Parenthesized) (x : rs.Statement) (word : Position)
    (other : rs.Statement) (e : rx.Expression) (y : rs.Statement) (z : rs.Statement) (whole : rs.Statement)
    (f new : File)
    (result : Result code.Statement Refusal) → whole ≡ rs.IfElse at c x word other → e ≡ c.inner → y ≡ x → z ≡ other
    → FileTypes tree.statement_of new result (if_else_typed at.line (expression_of e) (controlled
    (statement a no_labels (statement_of y))) (controlled (statement a no_labels (statement_of z))) f)
    → FileTypes (labelled_of ls.own) new result (statement a ls (statement_of whole) f)
if_else_arm a ls at c x word other e y z whole f new result is same_0 same_1 same_2 types =
    statement_typed (t.if_else at c.left (expression_of e) c.right (statement_of y) word
    (statement_of z)) _ a ls ls.own f new result
    (ap (λ v. t.if_else at c.left (expression_of v) c.right (statement_of y) word (statement_of z)) same_0
    ∙ ap (λ v. t.if_else at c.left (expression_of c.inner) c.right (statement_of v) word (statement_of z)) same_1
    ∙ ap (λ v. t.if_else at c.left (expression_of c.inner) c.right (statement_of x) word (statement_of v)) same_2
    ∙ sym (ap statement_of is ∙ if_else_view at c x word other))
    (with_labels ls ls.own (if_else_typed at.line (expression_of e) (controlled (statement a no_labels
    (statement_of y))) (controlled (statement a no_labels (statement_of z)))) f new result refl types)

pub switch_arm : (a : Around) (ls : Labels) (at : Position) (c : Parenthesized) (b : rb.Block) (e : rx.Expression)
    (whole : rs.Statement) (f new : File)
    (result : Result code.Statement Refusal) → whole ≡ rs.Switch at c b → e ≡ c.inner
    → FileTypes tree.statement_of new result (switch_typed at.line (expression_of e) (λ value. switch_block
    (switching a) value (block_of b)) f)
    → FileTypes (labelled_of ls.own) new result (statement a ls (statement_of whole) f)
switch_arm a ls at c b e whole f new result is same_0 types =
    statement_typed (t.switch at c.left (expression_of e) c.right (block_of b)) _ a ls ls.own f new result
    (ap (λ v. t.switch at c.left (expression_of v) c.right (block_of b)) same_0
    ∙ sym (ap statement_of is ∙ switch_view at c b))
    (with_labels ls ls.own (switch_typed at.line (expression_of e) (λ value. switch_block (switching a) value
    (block_of b))) f new result refl types)

pub while_arm : (a : Around) (ls : Labels) (at : Position) (c : Parenthesized) (x : rs.Statement) (e : rx.Expression)
    (y : rs.Statement) (whole : rs.Statement) (f new : File)
    (result : Result code.Statement Refusal) → whole ≡ rs.While at c x → e ≡ c.inner → y ≡ x
    → FileTypes tree.statement_of new result (while_typed at.line (expression_of e) (controlled (statement
    (looping a) no_labels (statement_of y))) f)
    → FileTypes (labelled_of ls.own) new result (statement a ls (statement_of whole) f)
while_arm a ls at c x e y whole f new result is same_0 same_1 types =
    statement_typed (t.while_do at c.left (expression_of e) c.right (statement_of y)) _ a ls ls.own f new result
    (ap (λ v. t.while_do at c.left (expression_of v) c.right (statement_of y)) same_0
    ∙ ap (λ v. t.while_do at c.left (expression_of c.inner) c.right (statement_of v)) same_1
    ∙ sym (ap statement_of is ∙ while_view at c x))
    (with_labels ls ls.own (while_typed at.line (expression_of e) (controlled (statement (looping a) no_labels
    (statement_of y)))) f new result refl types)

pub do_arm : (a : Around) (ls : Labels) (at : Position) (x : rs.Statement) (end : DoEnd) (y : rs.Statement)
    (e : rx.Expression) (whole : rs.Statement) (f new : File)
    (result : Result code.Statement Refusal) → whole ≡ rs.Do at x end → y ≡ x → e ≡ end.condition.inner
    → FileTypes tree.statement_of new result (do_typed at.line (controlled (statement (looping a) no_labels
    (statement_of y))) (expression_of e) f)
    → FileTypes (labelled_of ls.own) new result (statement a ls (statement_of whole) f)
do_arm a ls at x end y e whole f new result is same_0 same_1 types =
    statement_typed (t.do_while at (statement_of y) end.again end.condition.left
    (expression_of e) end.condition.right end.semicolon) _ a ls ls.own f new result
    (ap (λ v. t.do_while at (statement_of v) end.again end.condition.left
    (expression_of e) end.condition.right end.semicolon) same_0
    ∙ ap (λ v. t.do_while at (statement_of x) end.again end.condition.left
    (expression_of v) end.condition.right end.semicolon) same_1
    ∙ sym (ap statement_of is ∙ do_view at x end))
    (with_labels ls ls.own (do_typed at.line (controlled (statement (looping a) no_labels (statement_of y)))
    (expression_of e)) f new result refl types)

pub for_arm : (a : Around) (ls : Labels) (at : Position) (head : ForHead) (x : rs.Statement) (y : rs.Statement)
    (whole : rs.Statement) (f new : File)
    (result : Result code.Statement Refusal) → whole ≡ rs.For at head x → y ≡ x
    → FileTypes tree.statement_of new result (for_typed at.line (for_init_of head.init) (optional_of head.condition)
    (optional_of head.step) (controlled (statement (looping a) no_labels (statement_of y))) f)
    → FileTypes (labelled_of ls.own) new result (statement a ls (statement_of whole) f)
for_arm a ls at head x y whole f new result is same_0 types =
    statement_typed (t.for at head.left (for_init_of head.init) (optional_of head.condition) head.semicolon
    (optional_of head.step) head.right (statement_of y)) _ a ls ls.own f new result
    (ap (λ v. t.for at head.left (for_init_of head.init) (optional_of head.condition) head.semicolon
    (optional_of head.step) head.right (statement_of v)) same_0
    ∙ sym (ap statement_of is ∙ for_view at head x))
    (with_labels ls ls.own (for_typed at.line (for_init_of head.init) (optional_of head.condition)
    (optional_of head.step) (controlled (statement (looping a) no_labels (statement_of y)))) f new result refl types)

pub case_arm : (a : Around) (ls : Labels) (own : List CaseLabel) (label : CaseTree) (x : rs.Statement)
    (y : rs.Statement) (whole : rs.Statement) (f new : File)
    (result : Result code.Statement Refusal) → whole ≡ rs.Case label x → y ≡ x
    → FileTypes (labelled_of own) new result ((in_state (case_label ls label.position.line
    (expression_of label.value)) ~> λ ls. statement a ls (statement_of y)) f)
    → FileTypes (labelled_of own) new result (statement a ls (statement_of whole) f)
case_arm a ls own label x y whole f new result is same_0 types =
    statement_typed (t.case label.position (expression_of label.value) label.colon
    (statement_of y)) _ a ls own f new result
    (ap (λ v. t.case label.position (expression_of label.value) label.colon (statement_of v)) same_0
    ∙ sym (ap statement_of is ∙ case_view label x))
    types

pub default_arm : (a : Around) (ls : Labels) (own : List CaseLabel) (at colon : Position) (x : rs.Statement)
    (y : rs.Statement) (whole : rs.Statement) (f new : File)
    (result : Result code.Statement Refusal) → whole ≡ rs.Default at colon x → y ≡ x
    → FileTypes (labelled_of own) new result ((in_state (judged (default_label ls at.line)) ~> λ ls. statement a ls
    (statement_of y)) f)
    → FileTypes (labelled_of own) new result (statement a ls (statement_of whole) f)
default_arm a ls own at colon x y whole f new result is same_0 types =
    statement_typed (t.default at colon (statement_of y)) _ a ls own f new result
    (ap (λ v. t.default at colon (statement_of v)) same_0
    ∙ sym (ap statement_of is ∙ default_view at colon x))
    types

pub break_arm : (a : Around) (ls : Labels) (at end : Position) (whole : rs.Statement) (f : File)
    (result : Result code.Statement Refusal) → whole ≡ rs.Break at end
    → Gives tree.statement_of result (jump a.inside.may_break at.line built.break f.state)
    → FileTypes (labelled_of ls.own) f result (statement a ls (statement_of whole) f)
break_arm a ls at end whole f result is types =
    statement_typed (t.break at end) _ a ls ls.own f f result
    (sym (ap statement_of is ∙ break_view at end))
    (with_labels ls ls.own (in_state (judged (jump a.inside.may_break at.line built.break))) f f result refl
    (judged_in tree.statement_of (jump a.inside.may_break at.line built.break) f result types))

pub continue_arm : (a : Around) (ls : Labels) (at end : Position) (whole : rs.Statement) (f : File)
    (result : Result code.Statement Refusal) → whole ≡ rs.Continue at end
    → Gives tree.statement_of result (jump a.inside.may_continue at.line built.continue f.state)
    → FileTypes (labelled_of ls.own) f result (statement a ls (statement_of whole) f)
continue_arm a ls at end whole f result is types =
    statement_typed (t.continue at end) _ a ls ls.own f f result
    (sym (ap statement_of is ∙ continue_view at end))
    (with_labels ls ls.own (in_state (judged (jump a.inside.may_continue at.line built.continue))) f f result refl
    (judged_in tree.statement_of (jump a.inside.may_continue at.line built.continue) f result types))

pub return_arm : (a : Around) (ls : Labels) (at : Position) (e : Option rx.Expression) (end : Position)
    (whole : rs.Statement) (f : File) (state : State)
    (result : Result code.Statement Refusal) → whole ≡ rs.Return at e end
    → Types tree.statement_of state result (returned at.line a.result (optional_of e) f.state)
    → FileTypes (labelled_of ls.own) (record f { state = state }) result (statement a ls (statement_of whole) f)
return_arm a ls at e end whole f state result is types =
    statement_typed (t.return at (optional_of e) end) _ a ls ls.own f (record f { state = state }) result
    (sym (ap statement_of is ∙ return_view at e end))
    (with_labels ls ls.own (in_state (returned at.line a.result (optional_of e))) f
    (record f { state = state }) result refl
    (in_file tree.statement_of (returned at.line a.result (optional_of e)) f state result types))
