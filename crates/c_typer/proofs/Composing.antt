-- Statements that are typed one behind the other, and in scopes.
use Rattle.std.proofs.Common.{◌≡◌, List, Option, Some, Result, Ok, Err, sym, ap, ◌∙◌, subst}
use Rattle.c_syntax.specs.declared.position.Position.{Position}
use Rattle.c_syntax.specs.Statements as t
use Rattle.c_syntax.specs.Tree.{Expression}
use Rattle.c_tree.specs.declared.statement.CaseLabel.{CaseLabel}
use Rattle.c_tree.specs.declared.statement.First as code_first
use Rattle.c_tree.specs.declared.statement.Statement as code
use Rattle.c_tree.specs.Statements.{Statement, first_expression}
use Rattle.c_tree.specs.View.{first_of, statement_of}
use Rattle.c_faults.specs.declared.fault.Refusal.{Refusal}
use Rattle.c_faults.specs.Answer.{Answer, Fails, Gives, ◌>>=◌}
use Rattle.c_typing_state.specs.State.{State, Types, Typing, judged}
use Rattle.c_syntax_typing.proofs.Composing.{fails_on}
use Rattle.c_programs.specs.FileState.{FileTypes}
use Rattle.c_unit_typing.specs.Constructs.{Around, Labels, evaluated, first_typed, in_scope, labelled}
use Rattle.c_unit_typing.specs.Constructs.{scope_closed, scope_opened}
use Rattle.c_unit_typing.specs.Files.{File, FileTyping, finished, in_state, ◌~>◌}
use Rattle.c_unit_typing.specs.Statements.{statement}
use Rattle.c_typer.specs.Around.{labelled_of}

-- what is typed in the state of expressions and declarators
pub in_file : {A B : Type 0} (view : A → B) (typed : Typing B) (f : File) (new : State) (result : Result A Refusal)
    → Types view new result (typed f.state) → FileTypes view (record f { state = new }) result (in_state typed f)
in_file view typed f new (Ok x) types = ap (λ r. r >>= λ r. Ok (record f { state = r.0 }, r.1)) types
in_file view typed f new (Err e) types = fails_on e (typed f.state) (λ r. Ok (record f { state = r.0 }, r.1)) types

-- what is judged there
pub judged_in : {A B : Type 0} (view : A → B) (rule : State → Answer B) (f : File) (result : Result A Refusal)
    → Gives view result (rule f.state) → FileTypes view f result (in_state (judged rule) f)
judged_in view rule f (Ok x) gives =
    ap (λ (r : Answer _). in_state (λ s. r >>= λ x. Ok (s, x)) f) gives
judged_in view rule f (Err e) gives =
    fails_on e (rule f.state >>= λ x. Ok (f.state, x)) (λ r. Ok (record f { state = r.0 }, r.1))
    (fails_on e (rule f.state) (λ x. Ok (f.state, x)) gives)

-- a statement that has no labels of its own, behind those so far
pub with_labels : (ls : Labels) (own : List CaseLabel) (typed : FileTyping Statement) (f new : File)
    (result : Result code.Statement Refusal) → own ≡ ls.own → FileTypes statement_of new result (typed f)
    → FileTypes (labelled_of own) new result (labelled ls typed f)
with_labels ls own typed f new result same types = by result types
  where
    by : (result : Result code.Statement Refusal) → FileTypes statement_of new result (typed f)
        → FileTypes (labelled_of own) new result (labelled ls typed f)
    by (Ok x) types =
        ap (λ r. r >>= λ r. Ok (r.0, record { labels = ls.own; statement = r.1 })) types
        ∙ ap (λ ls. Ok (new, record { labels = ls; statement = statement_of x })) (sym same)
    by (Err e) types = fails_on e (typed f) (λ r. Ok (r.0, record { labels = ls.own; statement = r.1 })) types

-- of equal statements the same is typed
pub statement_typed : (x y : t.Statement) (a : Around) (ls : Labels) (own : List CaseLabel) (f new : File)
    (result : Result code.Statement Refusal) → x ≡ y → FileTypes (labelled_of own) new result (statement a ls x f)
    → FileTypes (labelled_of own) new result (statement a ls y f)
statement_typed x y a ls own f new result same types =
    subst (λ z. FileTypes (labelled_of own) new result (statement a ls z f)) same types

-- a scope around what is typed
pub scoped : {A B : Type 0} (view : A → B) (typed : FileTyping B) (f inner closed : File) (x : A)
    → typed (scope_opened f) ≡ Ok (inner, view x) → closed ≡ scope_closed inner
    → in_scope typed f ≡ Ok (closed, view x)
scoped view typed f inner closed x is closing =
    ap (λ r. r >>= λ r. Ok (scope_closed r.0, r.1)) is ∙ ap (λ g. Ok (g, view x)) (sym closing)

pub scope_fails : {B : Type 0} (e : Refusal) (typed : FileTyping B) (f : File)
    → Fails e (typed (scope_opened f)) → Fails e (in_scope typed f)
scope_fails e typed f fails = fails_on e (typed (scope_opened f)) (λ r. Ok (scope_closed r.0, r.1)) fails

-- an expression before the first `;` of a `for`
pub first_evaluated : (o : Option Expression) (x y : Expression) (at : Position) (f new : File)
    (result : Result code_first.First Refusal) → o ≡ Some y → x ≡ y
    → FileTypes first_of new result ((in_state (evaluated x) ~> λ e. finished (first_expression e)) f)
    → FileTypes first_of new result (first_typed (t.evaluates o at) f)
first_evaluated o x y at f new result given same types =
    subst (λ z. FileTypes first_of new result (first_typed (t.evaluates z at) f)) (ap Some same ∙ sym given) types
