-- The first violation in a part of a statement is what typing answers.
use Rattle.std.proofs.Common.{◌≡◌, ℕ, Bool, true, false, refl, sym, ap, ◌∙◌, subst, List, [], ◌∷◌, ◌++◌}
use Rattle.std.proofs.Common.{Option, Some, None, if◌then◌else◌}
use Rattle.std.specs.Prelude.{Ok, Err, option_map}
use Rattle.std.specs.List.{list_any}
use Rattle.obj_memory.specs.declared.int_type.IntType.{IntType}
use Rattle.obj_memory.specs.Integers.{fit}
use Rattle.c_syntax.specs.declared.position.Position.{Position}
use Rattle.c_syntax.specs.Statements as t
use Rattle.c_syntax.specs.Tree.{Expression}
use Rattle.c_tree.specs.declared.c_type.TypeWord.{TypeWord}
use Rattle.c_tree.specs.declared.statement.CaseLabel.{CaseLabel}
use Rattle.c_tree.specs.declared.statement.CaseLabel.TheVariants.{Case, Default}
use Rattle.c_tree.specs.Statements.{First}
use Rattle.c_tree.specs.Statements as tree
use Rattle.c_tree.specs.Tree as typed_tree
use Rattle.c_tree.specs.ValidProgram.{same_label}
use Rattle.c_const.specs.Integers.{constant_word}
use Rattle.c_faults.specs.declared.fault.Fault.{Fault}
use Rattle.c_faults.specs.declared.fault.Rule.TheVariants.{MisplacedLabel}
use Rattle.c_faults.specs.Answer.{Answer, violates, ◌>>=◌}
use Rattle.c_rules.specs.Values.{Value}
use Rattle.c_typing_state.specs.State.{State, Typing, judged}
use Rattle.c_expression_typing.specs.Constructs as expression_typing
use Rattle.c_expression_typing.specs.Typed.{typed}
use Rattle.c_unit_typing.specs.Constructs as typing
use Rattle.c_unit_typing.specs.Constructs.{Head, Labelled, Labels, added, case_on, case_with, controls, controls_if}
use Rattle.c_unit_typing.specs.Constructs.{default_on, fault_before, fault_or, returned_nothing, returned_value}
use Rattle.c_unit_typing.specs.Constructs.{scope_closed, scope_opened, switches}
use Rattle.c_unit_typing.specs.Files as files
use Rattle.c_unit_typing.specs.Files.{File, FileTyping, ◌~>◌}
use Rattle.typing_laws.specs.Violations.Agreeing.{Agree, Agrees, fault_of, first_of}
use Rattle.typing_laws.specs.Violations.Declarations.{in_state}
use Rattle.typing_laws.specs.Violations.Expressions.{operand, token_of, valued}
use Rattle.typing_laws.specs.Violations.Judgements.{Judgement, Judging, Violation, adding_at, along_with, answered}
use Rattle.typing_laws.specs.Violations.Judgements.{both}
use Rattle.typing_laws.specs.Violations.Judgements.{followed, if_known, made, rule_at, with_second}
use Rattle.typing_laws.specs.Violations.Judgements.{added as added_to}
use Rattle.typing_laws.specs.Violations.Statements.{case_rule, condition_violations, controlling, default_rule}
use Rattle.typing_laws.specs.Violations.Statements.{do_behind}
use Rattle.typing_laws.specs.Violations.Statements.{do_while, evaluated, evaluated_if, expression_statement, first_part}
use Rattle.typing_laws.specs.Violations.Statements.{head}
use Rattle.typing_laws.specs.Violations.Statements.{head_rule, labels_in, left, outside, place_with, returned, seen}
use Rattle.typing_laws.specs.Violations.Statements.{switch_items_of, switching_on, tree_in, valued_if, with_labels}
use Rattle.typing_laws.proofs.Violations.Agreeing.{answer_agrees, first_in, first_is, given_ruled, followed_agrees}
use Rattle.typing_laws.proofs.Violations.Agreeing.{made_agrees}
use Rattle.typing_laws.proofs.Violations.Agreeing.{ruled_agrees, three_ruled, under}
use Rattle.typing_laws.proofs.Violations.Declarations.{declaration_agrees, put, put_agrees}
use Rattle.typing_laws.proofs.Violations.Expressions.{operand_agrees, value_agrees}
use Rattle.typing_laws.proofs.Violations.Lists.{adding_by_agrees}

-- scopes

leaves : {A : Type 0} (j : Judgement File A) (x : Answer (File × A)) → Agree j x
    → Agrees (left j) (x >>= λ r. Ok (scope_closed r.0, r.1))
leaves j (Ok r) e = record { by = ap left e }
leaves j (Err f) e = record { by = e }

pub scope_agrees : {A : Type 0} {j : Judgement File A} {x : Answer (File × A)} → Agrees j x
    → Agrees (left j) (x >>= λ r. Ok (scope_closed r.0, r.1))
scope_agrees {j = j} {x = x} e = leaves j x e.by

-- labels: a statement with those that it has

abbrev pub as_labelled : Answer (File × Labelled) → Answer ((File × List CaseLabel) × tree.Statement)
as_labelled (Ok r) = Ok ((r.0, r.1.labels), r.1.statement)
as_labelled (Err f) = Err f

pub record Bears (j : Judgement (File × List CaseLabel) tree.Statement) (x : Answer (File × Labelled)) : Type 0 where
  pub by : Agrees j (as_labelled x)

same_fault : (x : Answer (File × Labelled)) → fault_of (as_labelled x) ≡ fault_of x
same_fault (Ok r) = refl
same_fault (Err f) = refl

pub first_bears : {j : Judgement (File × List CaseLabel) tree.Statement} {x : Answer (File × Labelled)} → Bears j x
    → first_of j.violations ≡ fault_of x
first_bears {j = j} {x = x} e = first_is e.by ∙ same_fault x

along : (own : List CaseLabel) (j : Judgement File tree.Statement) (x : Answer (File × tree.Statement)) → Agree j x
    → Agrees (along_with own j) (as_labelled (x >>= λ r. Ok (r.0, record { labels = own; statement = r.1 })))
along own j (Ok r) e = record { by = ap (along_with own) e }
along own j (Err f) e = record { by = e }

-- a statement that has no label of its own
pub along_agrees : {j : Judgement File tree.Statement} {x : Answer (File × tree.Statement)} (own : List CaseLabel)
    → Agrees j x → Bears (along_with own j) (x >>= λ r. Ok (r.0, record { labels = own; statement = r.1 }))
along_agrees {j = j} {x = x} own e = record { by = along own j x e.by }

without : (j : Judgement (File × List CaseLabel) tree.Statement) (x : Answer (File × Labelled))
    → Agree j (as_labelled x) → Agrees (outside j) (x >>= λ r. Ok (r.0, r.1.statement))
without j (Ok r) e = record { by = ap outside e }
without j (Err f) e = record { by = e }

pub without_labels : {j : Judgement (File × List CaseLabel) tree.Statement} {x : Answer (File × Labelled)} → Bears j x
    → Agrees (outside j) (x >>= λ r. Ok (r.0, r.1.statement))
without_labels {j = j} {x = x} e = without j x e.by.by

-- a label is behind those before it, and stands where they do

abbrev Keeps : Labels → Answer Labels → Type 0
Keeps p (Ok ls) = place_with p ls.own ≡ ls
Keeps p (Err f) = Unit {0}

added_keeps : (b : Bool) (line : ℕ) (p : Labels) (own : List CaseLabel)
    → Keeps p (if b then violates MisplacedLabel line else Ok (place_with p own))
added_keeps true line p own = tt
added_keeps false line p own = refl

case_on_keeps : (line w : ℕ) (p : Labels) (own : List CaseLabel) (type : Option IntType)
    → Keeps p (case_on line w (place_with p own) type)
case_on_keeps line w p own None = tt
case_on_keeps line w p own (Some type) =
    added_keeps (list_any (same_label (Case (fit type w))) (p.earlier ++ own)) line p
    (own ++ Case (fit type w) ∷ [])

case_keeps : (line : ℕ) (w : Option ℕ) (p : Labels) (own : List CaseLabel)
    → Keeps p (case_with line w (place_with p own))
case_keeps line None p own = tt
case_keeps line (Some w) p own = case_on_keeps line w p own p.switch

default_keeps : (line : ℕ) (p : Labels) (own : List CaseLabel) (type : Option IntType)
    → Keeps p (default_on line (place_with p own) type)
default_keeps line p own None = tt
default_keeps line p own (Some type) =
    added_keeps (list_any (same_label Default) (p.earlier ++ own)) line p (own ++ Default ∷ [])

label_first : (p : Labels) (f : File) (u : State) (x : Answer Labels) → Keeps p x
    → (next : Labels → FileTyping Labelled)
    → (added_to (labels_in (record f { state = u }) x) >>= λ r. as_labelled (next (place_with p r.0.1) r.0.0))
    ≡ as_labelled ((x >>= (λ ls. put f (u, ls))) >>= λ r. next r.1 r.0)
label_first p f u (Ok ls) k next = ap (λ ls. as_labelled (next ls (record f { state = u }))) k
label_first p f u (Err e) k next = refl

abbrev case_typed : (line : ℕ) → Labels → State × Value → Answer (State × Labels)
case_typed line ls r = case_with line (constant_word r.1.tree) ls >>= λ ls. Ok (r.0, ls)

case_first : (line : ℕ) (p : Labels) (own : List CaseLabel) (f : File) (x : Answer (State × Value))
    (next : Labels → FileTyping Labelled)
    → (added_to (x >>= put f >>= λ r. case_rule line p r.1 own r.0) >>= λ r.
    as_labelled (next (place_with p r.0.1) r.0.0))
    ≡ as_labelled (x >>= case_typed line (place_with p own) >>= put f >>= λ r. next r.1 r.0)
case_first line p own f (Err e) next = refl
case_first line p own f (Ok r) next =
    label_first p f r.0 (case_with line (constant_word r.1.tree) (place_with p own))
    (case_keeps line (constant_word r.1.tree) p own) next
    ∙ ap as_labelled (by (case_with line (constant_word r.1.tree) (place_with p own)))
  where
    by : (x : Answer Labels)
        → (x >>= (λ ls. put f (r.0, ls)) >>= λ r. next r.1 r.0)
        ≡ (x >>= (λ ls. Ok (r.0, ls)) >>= put f >>= λ r. next r.1 r.0)
    by (Ok ls) = refl
    by (Err e) = refl

-- a statement behind a label

pub case_agrees : (at : Position) (e : Expression) (p : Labels) (own : List CaseLabel) (f : File)
    (statement : Judging (File × List CaseLabel) tree.Statement) (next : Labels → FileTyping Labelled)
    → ((own : List CaseLabel) (f : File) → Bears (statement (f, own)) (next (place_with p own) f))
    → Bears (followed (followed (along_with own (in_state (valued (token_of e) (operand false e)) f))
    (adding_at at.at (case_rule at.line p))) (λ done. statement))
    ((files.in_state (typing.case_label (place_with p own) at.line e) ~> next) f)
case_agrees at e p own f statement next h = record {
  by = subst (Agrees (followed (followed (along_with own (in_state (valued (token_of e) (operand false e)) f))
      (adding_at at.at (case_rule at.line p))) (λ done. statement)))
      (case_first at.line p own f (expression_typing.valued (typed false e) f.state) next)
      (followed_agrees (λ done. statement) (λ done s. as_labelled (next (place_with p s.1) s.0))
      (adding_by_agrees at.at (case_rule at.line p) own
      (put_agrees f (value_agrees (token_of e) (operand_agrees false e f.state)))).by
      (λ done s. (h s.1 s.0).by));
}

pub default_agrees : (at : Position) (p : Labels) (own : List CaseLabel) (f : File)
    (statement : Judging (File × List CaseLabel) tree.Statement) (next : Labels → FileTyping Labelled)
    → ((own : List CaseLabel) (f : File) → Bears (statement (f, own)) (next (place_with p own) f))
    → Bears (followed (answered at.at (f, own) (added_to (default_rule at.line p own f))) (λ done. statement))
    ((files.in_state (judged (typing.default_label (place_with p own) at.line)) ~> next) f)
default_agrees at p own f statement next h = record {
  by = subst (Agrees (followed (answered at.at (f, own) (added_to (default_rule at.line p own f))) (λ done. statement)))
      (label_first p f f.state (default_on at.line (place_with p own) p.switch)
      (default_keeps at.line p own p.switch) next ∙ ap as_labelled
      (by (default_on at.line (place_with p own) p.switch)))
      (followed_agrees (λ done. statement) (λ done s. as_labelled (next (place_with p s.1) s.0))
      (answer_agrees at.at (f, own) (added_to (default_rule at.line p own f))) (λ done s. (h s.1 s.0).by));
}
  where
    by : (x : Answer Labels)
        → (x >>= (λ ls. put f (f.state, ls)) >>= λ r. next r.1 r.0)
        ≡ (x >>= (λ ls. Ok (f.state, ls)) >>= put f >>= λ r. next r.1 r.0)
    by (Ok ls) = refl
    by (Err e) = refl

-- expressions of statements

pub evaluated_agrees : (e : Expression) (s : State) → Agrees (evaluated e s) (typing.evaluated e s)
evaluated_agrees e s = made_agrees tree_in (value_agrees (token_of e) (operand_agrees true e s))

pub evaluated_if_agrees : (e : Option Expression) (s : State) → Agrees (evaluated_if e s) (typing.evaluated_if e s)
evaluated_if_agrees None s = record { by = refl }
evaluated_if_agrees (Some e) s = made_agrees Some (evaluated_agrees e s)

pub valued_if_agrees : (e : Option Expression) (s : State) → Agrees (valued_if e s) (typing.valued_if e s)
valued_if_agrees None s = record { by = refl }
valued_if_agrees (Some e) s = made_agrees Some (value_agrees (token_of e) (operand_agrees true e s))

pub controlling_agrees : (at : Position) (e : Expression) (s : State)
    → Agrees (controlling at e s) (typing.controlling at.line e s)
controlling_agrees at e s =
    ruled_agrees at.at (λ v. judged (controls at.line v)) (value_agrees (token_of e) (operand_agrees true e s))

pub switching_agrees : (at : Position) (e : Expression) (s : State)
    → Agrees (switching_on at e s) (typing.switching_on at.line e s)
switching_agrees at e s =
    ruled_agrees at.at (λ v. judged (switches at.line v)) (value_agrees (token_of e) (operand_agrees true e s))

pub expression_agrees : (e : Option Expression) (s : State)
    → Agrees (expression_statement e s) (typing.expression_typed e s)
expression_agrees None s = record { by = refl }
expression_agrees (Some e) s = made_agrees tree.expression_statement (evaluated_agrees e s)

pub returned_agrees : (at : Position) (result : List TypeWord) (e : Option Expression) (s : State)
    → Agrees (returned at (Some result) e s) (typing.returned at.line result e s)
returned_agrees at result None s = answer_agrees at.at s (judged (returned_nothing at.line result) s)
returned_agrees at result (Some e) s =
    given_ruled result at.at (λ v. judged (returned_value at.line v.0 v.1)) (value_agrees (token_of e)
    (operand_agrees true e s))

-- `do`

abbrev pub condition_rule : (line : ℕ) → Value → Typing typed_tree.Expression
condition_rule line v = judged (controls line v)

abbrev do_with : Position → (body : tree.Statement) → (f : File) → Judgement State Value
    → Judgement File tree.Statement
do_with at body f j = record {
  violations = condition_violations at j ++ j.violations;
  state = record f { state = (followed j (rule_at at.at (condition_rule at.line))).state };
  known = option_map do_while (both (Some body) (followed j (rule_at at.at (condition_rule at.line))).known);
}

condition_by : (n : ℕ) (body : tree.Statement) (f : File) (u : State) (v : Value)
    (x : Answer typed_tree.Expression)
    → Agrees (record {
      violations = (answered n u (x >>= λ e. Ok (u, e))).violations ++ [];
      state = record f { state = (answered n u (x >>= λ e. Ok (u, e))).state };
      known = option_map do_while (both (Some body) (answered n u (x >>= λ e. Ok (u, e))).known);
    }) ((x >>= λ e. Ok (u, e)) >>= put f >>= λ r. Ok (r.0, tree.do_while body r.1))
condition_by n body f u v (Ok e) = record { by = refl }
condition_by n body f u v (Err g) = record { by = (refl, refl) }

-- the body violates no rule
do_fine : (at : Position) (body : tree.Statement) (f : File) (j : Judgement State Value) (x : Answer (State × Value))
    → Agree j x
    → Agrees (do_with at body f j)
    ((x >>= λ r. condition_rule at.line r.1 r.0) >>= put f >>= λ r. Ok (r.0, tree.do_while body r.1))
do_fine at body f j (Ok r) e =
    subst (λ k. Agrees (do_with at body f k)
    (condition_rule at.line r.1 r.0 >>= put f >>= λ r. Ok (r.0, tree.do_while body r.1))) (sym e)
    (condition_by at.at body f r.0 r.1 (controls at.line r.1 r.0))
do_fine at body f j (Err g) e = record {
  by = (
    ap (λ o. first_of ((rule_at at.at (condition_rule at.line) o j.state).violations ++ j.violations)) e.1 ∙ e.0,
    ap (λ o. option_map do_while (both (Some body)
        (if_known o (rule_at at.at (condition_rule at.line) j.known j.state).known))) e.1,
  );
}

-- the body violates a rule

faulty_by : {A : Type 0} (n : ℕ) (k : Judgement File A) (f : Fault) (u : State) (fs : List Violation)
    (x : Answer typed_tree.Expression) → first_of fs ≡ Some f → k.known ≡ None
    → first_of k.violations ≡ first_of ((answered n u (x >>= λ e. Ok (u, e))).violations ++ fs)
    → Agrees k (fault_or f x)
faulty_by n k f u fs (Ok e) first none is = record { by = (is ∙ first, none) }
faulty_by n k f u fs (Err g) first none is = record { by = (is, none) }

do_faulty : {A : Type 0} (at : Position) (k : Judgement File A) (f : Fault) (fs : List Violation)
    (j : Judgement State Value)
    (x : Answer (State × Value)) → Agree j x → first_of fs ≡ Some f → k.known ≡ None
    → first_of k.violations ≡ first_of (condition_violations at j ++ fs) → Agrees k (fault_before at.line f x)
do_faulty at k f fs j (Ok r) e first none is =
    faulty_by at.at k f r.0 fs (controls at.line r.1 r.0) first none
    (is ∙ ap (λ j. first_of (condition_violations at j ++ fs)) e)
do_faulty at k f fs j (Err g) e first none is = record {
  by = (
    is ∙ ap (λ o. first_of ((rule_at at.at (condition_rule at.line) o j.state).violations ++ fs)) e.1 ∙ first,
    none,
  );
}

do_by : (at : Position) (e : Expression) (before : File) (b : Judgement File tree.Statement)
    (x : Answer (File × tree.Statement)) → Agree b x
    → Agrees (do_behind at e before.state b) (typing.do_behind at.line e before x)
do_by at e before b (Ok r) is =
    subst (λ b. Agrees (do_behind at e before.state b) (typing.do_behind at.line e before (Ok r))) (sym is)
    (do_fine at r.1 r.0 (valued (token_of e) (operand true e) r.0.state) (expression_typing.valued
    (typed true e) r.0.state)
    (value_agrees (token_of e) (operand_agrees true e r.0.state)).by)
do_by at e before b (Err f) is =
    do_faulty at (do_behind at e before.state b) f
    (b.violations ++ (valued (token_of e) (operand true e) b.state.state).violations)
    (valued (token_of e) (operand true e) before.state) (expression_typing.valued (typed true e) before.state)
    (value_agrees (token_of e) (operand_agrees true e before.state)).by (first_in f b.violations _ is.0)
    (ap (λ o. option_map do_while (both o (controlling at e b.state.state).known)) is.1)
    (ap (λ o. first_of (condition_violations at (valued (token_of e) (operand true e) (seen before.state b o))
    ++ (b.violations ++ (valued (token_of e) (operand true e) b.state.state).violations))) is.1)

pub do_agrees : {b : Judgement File tree.Statement} {x : Answer (File × tree.Statement)} (at : Position)
    (e : Expression)
    (before : File) → Agrees b x
    → Agrees (do_behind at e before.state b) (typing.do_behind at.line e before x)
do_agrees {b = b} {x = x} at e before is = do_by at e before b x is.by

-- the head of a `for`

first_agrees : (first : t.ForInit) (f : File) → Agrees (first_part first f) (typing.first_typed first f)
first_agrees (t.declares d) f = made_agrees tree.first_declaration (declaration_agrees true d f)
first_agrees (t.evaluates None at) f = record { by = refl }
first_agrees (t.evaluates (Some e) at) f =
    made_agrees tree.first_expression (put_agrees f (evaluated_agrees e f.state))

abbrev head_made : First → Option typed_tree.Expression → State × Option typed_tree.Expression → Answer (State × Head)
head_made first step r = Ok (r.0, record { first = first; condition = r.1; step = step })

rule_first : (f : File) (u : State) (first : First) (step : Option typed_tree.Expression)
    (x : Answer (Option typed_tree.Expression))
    → (x >>= λ c. Ok (record f { state = u }, record { first = first; condition = c; step = step }))
    ≡ (x >>= (λ c. Ok (u, c)) >>= head_made first step >>= put f)
rule_first f u first step (Ok c) = refl
rule_first f u first step (Err e) = refl

step_first : (line : ℕ) (f : File) (first : First) (v : Option Value)
    (y : Answer (State × Option typed_tree.Expression))
    → (y >>= put f >>= λ p. head_rule line ((first, v), p.1) p.0)
    ≡ ((y >>= λ p. (judged (controls_if line v) p.0 >>= head_made first p.1)) >>= put f)
step_first line f first v (Ok p) = rule_first f p.0 first p.1 (controls_if line v p.0)
step_first line f first v (Err e) = refl

parts_first : (line : ℕ) (f : File) (first : First) (x : Answer (State × Option Value))
    (y : Typing (Option typed_tree.Expression))
    → (x >>= put f >>= λ q. (y q.0.state >>= put q.0 >>= λ p. head_rule line ((first, q.1), p.1) p.0))
    ≡ ((x >>= λ q. (y q.0 >>= λ p. (judged (controls_if line q.1) p.0 >>= head_made first p.1))) >>= put f)
parts_first line f first (Ok q) y = step_first line f first q.1 (y q.0)
parts_first line f first (Err e) y = refl

pub head_agrees : (at : Position) (first : t.ForInit) (condition step : Option Expression) (f : File)
    → Agrees (head at first condition step f) (typing.head_typed at.line first condition step f)
head_agrees at first condition step f =
    subst (Agrees (head at first condition step f))
    (under (typing.first_typed first f) (λ r. parts_first at.line r.0 r.1 (typing.valued_if condition r.0.state)
    (typing.evaluated_if step)))
    (three_ruled at.at (head_rule at.line) (first_agrees first f)
    (λ g. put_agrees g (valued_if_agrees condition g.state))
    (λ g. put_agrees g (evaluated_if_agrees step g.state)))

-- items of the block of a switch

abbrev pub behind : (earlier : List CaseLabel) → Answer (File × Labelled) → Answer ((File × List CaseLabel) × Labelled)
behind earlier (Ok r) = Ok ((r.0, earlier ++ r.1.labels), r.1)
behind earlier (Err f) = Err f

pub record Stands (earlier : List CaseLabel) (j : Judgement (File × List CaseLabel) Labelled)
    (x : Answer (File × Labelled)) : Type 0 where
  pub by : Agrees j (behind earlier x)

stands : (earlier : List CaseLabel) (j : Judgement (File × List CaseLabel) tree.Statement)
    (x : Answer (File × Labelled)) → Agree j (as_labelled x) → Agrees (with_labels earlier j) (behind earlier x)
stands earlier j (Ok r) e = record { by = ap (with_labels earlier) e }
stands earlier j (Err f) e = record {
  by = (e.0, ap (option_map (λ s. record { labels = j.state.1; statement = s })) e.1);
}

pub item_stands : {j : Judgement (File × List CaseLabel) tree.Statement} {x : Answer (File × Labelled)}
    (earlier : List CaseLabel) → Bears j x → Stands earlier (with_labels earlier j) x
item_stands {j = j} {x = x} earlier e = record { by = stands earlier j x e.by.by }

made_twice : {A B C : Type 0} (g : B → C) (f : A → B) (o : Option A)
    → option_map (λ x. g (f x)) o ≡ option_map g (option_map f o)
made_twice g f None = refl
made_twice g f (Some x) = refl

items : (earlier : List CaseLabel) (j : Judgement (File × List CaseLabel) Labelled) (x : Answer (File × Labelled))
    (k : Judging (File × List CaseLabel) tree.SwitchItems) (y : List CaseLabel → FileTyping tree.SwitchItems)
    → Agree j (behind earlier x) → ((own : List CaseLabel) (f : File) → Agrees (outside (k (f, own))) (y own f))
    → Agrees (outside (made switch_items_of (with_second j k)))
    (x >>= λ r. (y (earlier ++ r.1.labels) r.0 >>= λ q. Ok (q.0, tree.items r.1.labels r.1.statement q.1)))
items earlier j (Ok r) k y e h =
    subst (λ i. Agrees (outside (made switch_items_of (with_second i k)))
    (y (earlier ++ r.1.labels) r.0 >>= λ q. Ok (q.0, tree.items r.1.labels r.1.statement q.1))) (sym e)
    (by (k (r.0, earlier ++ r.1.labels)) (y (earlier ++ r.1.labels) r.0) (h (earlier ++ r.1.labels) r.0))
  where
    by : (i : Judgement (File × List CaseLabel) tree.SwitchItems) (z : Answer (File × tree.SwitchItems))
        → Agrees (outside i) z
        → Agrees (record {
          violations = i.violations;
          state = i.state.0;
          known = option_map switch_items_of (option_map (λ s. (r.1, s)) i.known);
        }) (z >>= λ q. Ok (q.0, tree.items r.1.labels r.1.statement q.1))
    by i z e =
        subst (λ o. Agrees (record { violations = i.violations; state = i.state.0; known = o })
        (z >>= λ q. Ok (q.0, tree.items r.1.labels r.1.statement q.1)))
        (made_twice switch_items_of (λ s. (r.1, s)) i.known)
        (made_agrees (λ s. switch_items_of (r.1, s)) e)
items earlier j (Err f) k y e h = record {
  by = (
    first_in f j.violations _ e.0,
    ap (λ o. option_map switch_items_of (both o (k j.state).known)) e.1,
  );
}

pub items_agree : {j : Judgement (File × List CaseLabel) Labelled} {x : Answer (File × Labelled)}
    (k : Judging (File × List CaseLabel) tree.SwitchItems) (y : List CaseLabel → FileTyping tree.SwitchItems)
    (earlier : List CaseLabel) → Stands earlier j x
    → ((own : List CaseLabel) (f : File) → Agrees (outside (k (f, own))) (y own f))
    → Agrees (outside (made switch_items_of (with_second j k)))
    (x >>= λ r. (y (earlier ++ r.1.labels) r.0 >>= λ q. Ok (q.0, tree.items r.1.labels r.1.statement q.1)))
items_agree {j = j} {x = x} k y earlier e h = items earlier j x k y e.by.by h
