-- Statements whose parts are typed (C99 6.8), as the recursion over the syntax puts them together.
use Rattle.std.specs.Prelude.{ℕ, Bool, true, false, if◌then◌else◌, List, [], ◌∷◌, ◌++◌, Option, Some, None}
use Rattle.std.specs.Prelude.{Ok, Err}
use Rattle.std.specs.List.{list_any}
use Rattle.obj_memory.specs.declared.int_type.IntType.{IntType}
use Rattle.obj_memory.specs.Integers.{fit}
use Rattle.c_syntax.specs.Statements as t
use Rattle.c_syntax.specs.Tree.{Expression}
use Rattle.c_tree.specs.declared.c_type.TypeWord.{TypeWord}
use Rattle.c_tree.specs.declared.statement.CaseLabel.{CaseLabel}
use Rattle.c_tree.specs.declared.statement.CaseLabel.TheVariants.{Case, Default}
use Rattle.c_tree.specs.Statements.{First, Statement}
use Rattle.c_tree.specs.Statements as tree
use Rattle.c_tree.specs.Tree as typed_tree
use Rattle.c_tree.specs.ValidProgram.{Inside, in_loop, in_switch, same_label}
use Rattle.c_const.specs.Integers.{constant_word}
use Rattle.c_faults.specs.declared.fault.Fault.{Fault}
use Rattle.c_faults.specs.declared.fault.Rule.TheVariants.{MisplacedLabel, MistakenReturn, NoConstant}
use Rattle.c_faults.specs.Answer.{Answer, violates, ◌>>=◌}
use Rattle.c_rules.specs.Conversions.{assigned, is_void_type}
use Rattle.c_rules.specs.Types.{unqualified}
use Rattle.c_rules.specs.Values.{Value}
use Rattle.c_condition_rules.specs.Conditions.{condition, switch_value}
use Rattle.c_scope.specs.Environment.{with_block, without_block}
use Rattle.c_typing_state.specs.State.{State, Typing, done, extents, judged, ◌>>>◌}
use Rattle.c_expression_typing.specs.Constructs.{valued}
use Rattle.c_expression_typing.specs.Typed.{typed}
use Rattle.c_unit_typing.specs.Declarations.{declaration}
use Rattle.c_unit_typing.specs.Files.{File, FileTyping, finished, in_state, ◌~>◌}

-- What a statement stands in: whether `break` and `continue` may stand there (6.8.6), and the type of what the function
-- gives.
pub record Around : Type 0 where
  pub inside : Inside
  pub result : List TypeWord

abbrev pub looping : Around → Around
looping a = record a { inside = in_loop }

abbrev pub switching : Around → Around
switching a = record a { inside = in_switch a.inside }

-- Where labels may stand: on an item of the block of a switch whose value has this type, behind the labels of the items
-- before it; and those that the item has so far.
pub record Labels : Type 0 where
  pub switch : Option IntType
  pub earlier : List CaseLabel
  pub own : List CaseLabel

abbrev pub no_labels : Labels
no_labels = record { switch = None; earlier = []; own = [] }

abbrev pub labels_on : IntType → (earlier : List CaseLabel) → Labels
labels_on type earlier = record { switch = Some type; earlier = earlier; own = [] }

-- a statement with its labels
pub record Labelled : Type 0 where
  pub labels : List CaseLabel
  pub statement : Statement

abbrev pub labelled : Labels → FileTyping Statement → FileTyping Labelled
labelled ls statement = statement ~> λ s. finished (record { labels = ls.own; statement = s })

abbrev pub without_labels : FileTyping Labelled → FileTyping Statement
without_labels statement = statement ~> λ s. finished s.statement

-- a scope: each block, each selection and iteration statement, and each statement that these control is one (6.2.1
-- paragraph 4, 6.8.4 paragraph 3, 6.8.5 paragraph 5)

abbrev pub scope_opened : File → File
scope_opened f = record f { state = record f.state { environment = with_block f.state.environment } }

abbrev pub scope_closed : File → File
scope_closed f = record f { state = record f.state { environment = without_block f.state.environment } }

abbrev pub in_scope : {A : Type 0} → FileTyping A → FileTyping A
in_scope typed f = typed (scope_opened f) >>= λ r. Ok (scope_closed r.0, r.1)

-- a statement that another controls
abbrev pub controlled : FileTyping Labelled → FileTyping Statement
controlled statement = in_scope (without_labels statement)

-- labels of a switch (6.8.1, 6.8.4.2): a constant converted to the type of its value, different from all others

abbrev pub added : (line : ℕ) → CaseLabel → Labels → Answer Labels
added line l ls =
    if list_any (same_label l) (ls.earlier ++ ls.own) then violates MisplacedLabel line
    else Ok (record ls { own = ls.own ++ l ∷ [] })

abbrev pub case_on : (line word : ℕ) → Labels → Option IntType → Answer Labels
case_on line w ls None = violates MisplacedLabel line
case_on line w ls (Some type) = added line (Case (fit type w)) ls

abbrev pub case_with : (line : ℕ) → (word : Option ℕ) → Labels → Answer Labels
case_with line None ls = violates NoConstant line
case_with line (Some w) ls = case_on line w ls ls.switch

abbrev pub case_label : Labels → (line : ℕ) → Expression → Typing Labels
case_label ls line e = valued (typed false e) >>> λ v. judged (λ s. case_with line (constant_word v.tree) ls)

abbrev pub default_on : (line : ℕ) → Labels → Option IntType → Answer Labels
default_on line ls None = violates MisplacedLabel line
default_on line ls (Some type) = added line Default ls

abbrev pub default_label : Labels → (line : ℕ) → State → Answer Labels
default_label ls line s = default_on line ls ls.switch

-- expressions of statements: one that is evaluated, if it is there; a controlling one; the value of a switch

abbrev pub evaluated : Expression → Typing typed_tree.Expression
evaluated e = valued (typed true e) >>> λ v. done v.tree

abbrev pub evaluated_if : Option Expression → Typing (Option typed_tree.Expression)
evaluated_if None = done None
evaluated_if (Some e) = evaluated e >>> λ e. done (Some e)

abbrev pub controls : (line : ℕ) → Value → State → Answer typed_tree.Expression
controls line v s = condition (extents s) line v

abbrev pub controlling : (line : ℕ) → Expression → Typing typed_tree.Expression
controlling line e = valued (typed true e) >>> λ v. judged (controls line v)

abbrev pub switches : (line : ℕ) → Value → State → Answer Value
switches line v s = switch_value (extents s) line v

abbrev pub switching_on : (line : ℕ) → Expression → Typing Value
switching_on line e = valued (typed true e) >>> λ v. judged (switches line v)

-- `E;` and `;` (6.8.3)
abbrev pub expression_typed : Option Expression → Typing Statement
expression_typed None = done tree.empty
expression_typed (Some e) = evaluated e >>> λ e. done (tree.expression_statement e)

abbrev pub declaration_typed : t.Declaration → FileTyping Statement
declaration_typed d = declaration false d ~> λ vs. finished (tree.declaration vs)

-- `if`, `switch` and `while` (6.8.4, 6.8.5.1), by what types the statements that they control

abbrev pub if_typed : (line : ℕ) → Expression → (body : FileTyping Statement) → FileTyping Statement
if_typed line e body = in_scope (in_state (controlling line e) ~> λ c. body ~> λ s. finished (tree.if_then c s))

abbrev pub if_else_typed : (line : ℕ) → Expression → (body other : FileTyping Statement) → FileTyping Statement
if_else_typed line e body other =
    in_scope (in_state (controlling line e) ~> λ c. body ~> λ s. other ~> λ other.
    finished (tree.if_else c s other))

abbrev pub switch_typed : (line : ℕ) → Expression → (block : Value → FileTyping Statement) → FileTyping Statement
switch_typed line e block = in_scope (in_state (switching_on line e) ~> block)

abbrev pub while_typed : (line : ℕ) → Expression → (body : FileTyping Statement) → FileTyping Statement
while_typed line e body = in_scope (in_state (controlling line e) ~> λ c. body ~> λ s. finished (tree.while_do c s))

-- `do S while (E);` (6.8.5.2): the rule on conditions is judged at its word, before all that S violates. E stands in
-- the scope around S, so that it has its type also where S violates a rule.

abbrev pub fault_or : {A B : Type 0} → Fault → Answer A → Answer B
fault_or f (Ok x) = Err f
fault_or f (Err g) = Err g

abbrev pub fault_before : {A : Type 0} → (line : ℕ) → Fault → Answer (State × Value) → Answer A
fault_before line f (Ok r) = fault_or f (controls line r.1 r.0)
fault_before line f (Err g) = Err f

abbrev pub do_behind : (line : ℕ) → Expression → (before : File) → Answer (File × Statement) → Answer (File × Statement)
do_behind line e before (Ok r) =
    (in_state (controlling line e) ~> λ c. finished (tree.do_while r.1 c)) r.0
do_behind line e before (Err f) = fault_before line f (valued (typed true e) before.state)

abbrev pub do_typed : (line : ℕ) → (body : FileTyping Statement) → Expression → FileTyping Statement
do_typed line body e = in_scope (λ f. do_behind line e f (body f))

-- `for` (6.8.5.3): all three parts of its head are typed before the rule on conditions is judged at the word

pub record Head : Type 0 where
  pub first : First
  pub condition : Option typed_tree.Expression
  pub step : Option typed_tree.Expression

abbrev pub first_typed : t.ForInit → FileTyping First
first_typed (t.declares d) = declaration true d ~> λ vs. finished (tree.first_declaration vs)
first_typed (t.evaluates None at) = finished tree.nothing
first_typed (t.evaluates (Some e) at) = in_state (evaluated e) ~> λ e. finished (tree.first_expression e)

abbrev pub valued_if : Option Expression → Typing (Option Value)
valued_if None = done None
valued_if (Some e) = valued (typed true e) >>> λ v. done (Some v)

abbrev pub controls_if : (line : ℕ) → Option Value → State → Answer (Option typed_tree.Expression)
controls_if line None s = Ok None
controls_if line (Some v) s = controls line v s >>= λ e. Ok (Some e)

abbrev pub behind_first : (line : ℕ) → (condition step : Option Expression) → First → Typing Head
behind_first line condition step first =
    valued_if condition >>> λ v. evaluated_if step >>> λ step. judged (controls_if line v) >>> λ c.
    done (record { first = first; condition = c; step = step })

abbrev pub head_typed : (line : ℕ) → t.ForInit → (condition step : Option Expression) → FileTyping Head
head_typed line first condition step =
    first_typed first ~> λ first. in_state (behind_first line condition step first)

abbrev pub for_typed : (line : ℕ) → t.ForInit → (condition step : Option Expression) → (body : FileTyping Statement)
    → FileTyping Statement
for_typed line first condition step body =
    in_scope (head_typed line first condition step ~> λ h. body ~> λ s.
    finished (tree.for line h.first h.condition h.step s))

-- `break` and `continue` (6.8.6.2, 6.8.6.3)
abbrev pub jump : (may_stand : Bool) → (line : ℕ) → Statement → State → Answer Statement
jump may_stand line statement s = if may_stand then Ok statement else violates MisplacedLabel line

-- `return` (6.8.6.4): the value is converted as by assignment to what the function gives (paragraph 3)

abbrev pub gives_void : (result : List TypeWord) → Bool
gives_void result = is_void_type (unqualified result)

abbrev pub returned_nothing : (line : ℕ) → (result : List TypeWord) → State → Answer Statement
returned_nothing line result s =
    if gives_void result then Ok (tree.return None) else violates MistakenReturn line

abbrev pub returned_value : (line : ℕ) → (result : List TypeWord) → Value → State → Answer Statement
returned_value line result v s =
    if gives_void result then violates MistakenReturn line
    else assigned (extents s) line result v >>= λ e. Ok (tree.return (Some e))

abbrev pub returned : (line : ℕ) → (result : List TypeWord) → Option Expression → Typing Statement
returned line result None = judged (returned_nothing line result)
returned line result (Some e) = valued (typed true e) >>> λ v. judged (returned_value line result v)
