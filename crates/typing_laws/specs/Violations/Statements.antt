-- All violations of typing rules in statements and blocks (C99 6.8), in the order of the tokens.
use Rattle.std.specs.Prelude.{ℕ, true, false, List, [], ◌++◌, Option, Some, None, option_map, Ok}
use Rattle.obj_memory.specs.declared.int_type.IntType.{IntType}
use Rattle.obj_memory.specs.declared.int_type.IntType.TheVariants.{LongLong}
use Rattle.c_syntax.specs.declared.position.Position.{Position}
use Rattle.c_syntax.specs.Statements.{Block, BlockItem, BlockItems, Statement}
use Rattle.c_syntax.specs.Statements as t
use Rattle.c_syntax.specs.Tree.{Expression}
use Rattle.c_tree.specs.declared.c_type.TypeWord.{TypeWord}
use Rattle.c_tree.specs.declared.statement.CaseLabel.{CaseLabel}
use Rattle.c_tree.specs.Statements.{First}
use Rattle.c_tree.specs.Statements as tree
use Rattle.c_tree.specs.Tree.{kind_of}
use Rattle.c_tree.specs.Tree as typed_tree
use Rattle.c_tree.specs.ValidProgram.{Inside, in_loop, in_switch}
use Rattle.c_const.specs.Integers.{constant_word, type_of}
use Rattle.c_faults.specs.Answer.{Answer, ◌>>=◌}
use Rattle.c_rules.specs.Values.{Value}
use Rattle.c_typing_state.specs.State.{State, judged}
use Rattle.c_unit_typing.specs.Constructs.{Around, Head, Labelled, Labels, case_with, controls, controls_if, default_on}
use Rattle.c_unit_typing.specs.Constructs.{jump, labels_on, no_labels, returned_nothing, returned_value}
use Rattle.c_unit_typing.specs.Constructs.{scope_closed, scope_opened, switches}
use Rattle.c_unit_typing.specs.Files.{File}
use Rattle.typing_laws.specs.Violations.Declarations.{declaration, in_state}
use Rattle.typing_laws.specs.Violations.Expressions.{operand, token_of, valued}
use Rattle.typing_laws.specs.Violations.Judgements.{Judgement, Judging, Violation, adding_at, adds_by, along, both}
use Rattle.typing_laws.specs.Violations.Judgements.{by_rule}
use Rattle.typing_laws.specs.Violations.Judgements.{given, gives, rule_at}
use Rattle.typing_laws.specs.Violations.Judgements.{◌adding_by◌, ◌beside◌, ◌giving◌, ◌knowing◌, ◌ruled_by◌}

-- What a statement stands in: whether `break` and `continue` may stand there, and the type of what the function gives,
-- which is not known where a part of its declarator violates a rule.
pub record Within : Type 0 where
  pub inside : Inside
  pub result : Option (List TypeWord)

abbrev pub within : Around → Within
within a = record { inside = a.inside; result = Some a.result }

abbrev pub looping : Within → Within
looping w = record { inside = in_loop; result = w.result }

abbrev pub switching : Within → Within
switching w = record { inside = in_switch w.inside; result = w.result }

-- a scope is left where it ends, also where something in it violates a rule

abbrev pub left : {A : Type 0} → Judgement File A → Judgement File A
left j = record { violations = j.violations; state = scope_closed j.state; known = j.known }

abbrev pub in_scope : {A : Type 0} → Judging File A → Judging File A
in_scope parts f = left (parts (scope_opened f))

-- Labels of a switch: a statement is judged in a state with those that it has so far.

abbrev pub outside : {A : Type 0} → Judgement (File × List CaseLabel) A → Judgement File A
outside j = record { violations = j.violations; state = j.state.0; known = j.known }

abbrev pub by_itself : {A : Type 0} → Judging (File × List CaseLabel) A → Judging File A
by_itself statement f = outside (statement (f, []))

abbrev pub place_with : Labels → (own : List CaseLabel) → Labels
place_with p own = record { switch = p.switch; earlier = p.earlier; own = own }

abbrev pub labels_in : File → Answer Labels → Answer (File × List CaseLabel)
labels_in f labels = labels >>= λ ls. Ok (f, ls.own)

abbrev pub case_rule : (line : ℕ) → Labels → Value → List CaseLabel → File → Answer (File × List CaseLabel)
case_rule line p v own f = labels_in f (case_with line (constant_word v.tree) (place_with p own))

abbrev pub default_rule : (line : ℕ) → Labels → List CaseLabel → File → Answer (File × List CaseLabel)
default_rule line p own f = labels_in f (default_on line (place_with p own) p.switch)

-- an item of the block of a switch, behind the labels of the items before it
abbrev pub with_labels : (earlier : List CaseLabel) → Judgement (File × List CaseLabel) tree.Statement
    → Judgement (File × List CaseLabel) Labelled
with_labels earlier j = record {
  violations = j.violations;
  state = (j.state.0, earlier ++ j.state.1);
  known = option_map (λ s. record { labels = j.state.1; statement = s }) j.known;
}

abbrev pub labelled : (List CaseLabel → Judging (File × List CaseLabel) tree.Statement)
    → Judging (File × List CaseLabel) Labelled
labelled item s = with_labels s.1 (item s.1 (s.0, []))

-- expressions of statements

abbrev pub tree_in : Value → typed_tree.Expression
tree_in v = v.tree

abbrev pub evaluated : Expression → Judging State typed_tree.Expression
evaluated e = valued (token_of e) (operand true e) giving tree_in

abbrev pub evaluated_if : Option Expression → Judging State (Option typed_tree.Expression)
evaluated_if None = gives None
evaluated_if (Some e) = evaluated e giving Some

abbrev pub controlling : Position → Expression → Judging State typed_tree.Expression
controlling at e = valued (token_of e) (operand true e) ruled_by rule_at at.at λ v. judged (controls at.line v)

abbrev pub switching_on : Position → Expression → Judging State Value
switching_on at e = valued (token_of e) (operand true e) ruled_by rule_at at.at λ v. judged (switches at.line v)

abbrev pub expression_statement : Option Expression → Judging State tree.Statement
expression_statement None = gives tree.empty
expression_statement (Some e) = evaluated e giving tree.expression_statement

abbrev pub returned : Position → (result : Option (List TypeWord)) → Option Expression
    → Judging State tree.Statement
returned at result None = given result ruled_by rule_at at.at λ type. judged (returned_nothing at.line type)
returned at result (Some e) =
    given result beside valued (token_of e) (operand true e) ruled_by rule_at at.at λ v.
    judged (returned_value at.line v.0 v.1)

-- `do S while (E);`: the rule on conditions is judged at its word, before all that S violates. E is judged behind S;
-- whether it is a condition is judged in the state before S where S violates a rule.

abbrev pub condition_violations : Position → Judgement State Value → List Violation
condition_violations at j = (rule_at at.at (λ v. judged (controls at.line v)) j.known j.state).violations

abbrev pub seen : (before : State) → Judgement File tree.Statement → Option tree.Statement → State
seen before body None = before
seen before body (Some s) = body.state.state

abbrev pub do_while : tree.Statement × typed_tree.Expression → tree.Statement
do_while v = tree.do_while v.0 v.1

abbrev pub do_behind : Position → Expression → (before : State) → Judgement File tree.Statement
    → Judgement File tree.Statement
do_behind at e before body = record {
  violations = condition_violations at (valued (token_of e) (operand true e) (seen before body body.known))
      ++ (body.violations ++ (valued (token_of e) (operand true e) body.state.state).violations);
  state = record body.state { state = (controlling at e body.state.state).state };
  known = option_map do_while (both body.known (controlling at e body.state.state).known);
}

abbrev pub do_judged : Position → (body : Judging File tree.Statement) → Expression → Judging File tree.Statement
do_judged at body e f = do_behind at e f.state (body f)

-- `for`: the rule on conditions is judged at its word where all parts of the head type

abbrev pub first_part : t.ForInit → Judging File First
first_part (t.declares d) = declaration true d giving tree.first_declaration
first_part (t.evaluates None at) = gives tree.nothing
first_part (t.evaluates (Some e) at) = in_state (evaluated e) giving tree.first_expression

abbrev pub valued_if : Option Expression → Judging State (Option Value)
valued_if None = gives None
valued_if (Some e) = valued (token_of e) (operand true e) giving Some

abbrev pub head_rule : (line : ℕ) → (First × Option Value) × Option typed_tree.Expression → File → Answer (File × Head)
head_rule line v f =
    controls_if line v.0.1 f.state >>=
    λ c. Ok (f, record { first = v.0.0; condition = c; step = v.1 })

abbrev pub head : Position → t.ForInit → (condition step : Option Expression) → Judging File Head
head at first condition step =
    first_part first beside in_state (valued_if condition) beside in_state (evaluated_if step) ruled_by
    rule_at at.at (head_rule at.line)

-- what statements are typed to

abbrev pub if_then : typed_tree.Expression × tree.Statement → tree.Statement
if_then v = tree.if_then v.0 v.1

abbrev pub if_else : (typed_tree.Expression × tree.Statement) × tree.Statement → tree.Statement
if_else v = tree.if_else v.0.0 v.0.1 v.1

abbrev pub while_do : typed_tree.Expression × tree.Statement → tree.Statement
while_do v = tree.while_do v.0 v.1

abbrev pub for_with : (line : ℕ) → Head × tree.Statement → tree.Statement
for_with line v = tree.for line v.0.first v.0.condition v.0.step v.1

abbrev pub statements : tree.Statement × tree.Statements → tree.Statements
statements v = tree.statements v.0 v.1

abbrev pub switch_items_of : Labelled × tree.SwitchItems → tree.SwitchItems
switch_items_of v = tree.items v.0.labels v.0.statement v.1

abbrev pub switch_with : (line : ℕ) → Value × tree.SwitchItems → tree.Statement
switch_with line v = tree.switch v.0.tree line v.1

-- the type to which the labels of a switch are converted; where its value violates a rule they stay as they are
abbrev pub label_type : Option Value → IntType
label_type None = LongLong
label_type (Some v) = type_of (kind_of v.tree)

abbrev mutual
  -- a statement that stands where labels of a switch may stand
  pub statement : Within → Labels → Statement → Judging (File × List CaseLabel) tree.Statement
  statement w p (t.compound b) = along (block w b)
  statement w p (t.expression e at) = along (in_state (expression_statement e))
  statement w p (t.if_then at l e r s) =
      along (in_scope (in_state (controlling at e) beside in_scope (by_itself (statement w no_labels s)) giving
      if_then))
  statement w p (t.if_else at l e r s word other) =
      along (in_scope (in_state (controlling at e) beside in_scope (by_itself (statement w no_labels s)) beside
      in_scope (by_itself (statement w no_labels other)) giving if_else))
  statement w p (t.switch at l e r b) =
      along (in_scope (in_state (switching_on at e) knowing switch_block (switching w) b))
  statement w p (t.while_do at l e r s) =
      along (in_scope (in_state (controlling at e) beside
      in_scope (by_itself (statement (looping w) no_labels s)) giving while_do))
  statement w p (t.do_while at s word l e r end) =
      along (in_scope (do_judged at (in_scope (by_itself (statement (looping w) no_labels s))) e))
  statement w p (t.for at l first condition semicolon step r s) =
      along (in_scope (head at first condition step beside
      in_scope (by_itself (statement (looping w) no_labels s)) giving for_with at.line))
  statement w p (t.case at e colon s) =
      in_state (valued (token_of e) (operand false e)) adding_by adding_at at.at (case_rule at.line p) knowing λ done.
      statement w p s
  statement w p (t.default at colon s) = adds_by at.at (default_rule at.line p) knowing λ done. statement w p s
  statement w p (t.break at end) =
      along (in_state (by_rule at.at (judged (jump w.inside.may_break at.line tree.break))))
  statement w p (t.continue at end) =
      along (in_state (by_rule at.at (judged (jump w.inside.may_continue at.line tree.continue))))
  statement w p (t.return at e end) = along (in_state (returned at w.result e))

  pub block : Within → Block → Judging File tree.Statement
  block w (t.block l xs r) = in_scope (block_items w xs) giving tree.block l.line

  pub block_items : Within → BlockItems → Judging File tree.Statements
  block_items w t.no_items = gives tree.no_statements
  block_items w (t.items x more) = block_item w x beside block_items w more giving statements

  pub block_item : Within → BlockItem → Judging File tree.Statement
  block_item w (t.local d) = declaration false d giving tree.declaration
  block_item w (t.inner s) = by_itself (statement w no_labels s)

  -- the block of a switch
  pub switch_block : Within → Block → Option Value → Judging File tree.Statement
  switch_block w (t.block l xs r) v =
      given v beside in_scope (by_itself (switch_items w (label_type v) xs)) giving switch_with l.line

  -- its items, in a state with the labels of those before them
  pub switch_items : Within → IntType → BlockItems → Judging (File × List CaseLabel) tree.SwitchItems
  switch_items w type t.no_items = gives tree.no_items
  switch_items w type (t.items x more) = switch_item w type x beside switch_items w type more giving switch_items_of

  pub switch_item : Within → IntType → BlockItem → Judging (File × List CaseLabel) Labelled
  switch_item w type (t.local d) = labelled λ earlier. along (declaration false d giving tree.declaration)
  switch_item w type (t.inner s) = labelled λ earlier. statement w (labels_on type earlier) s
