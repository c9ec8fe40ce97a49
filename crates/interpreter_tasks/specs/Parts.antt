-- The work that a part of the source is itself, and the tasks that it gives way to.
use Rattle.std.specs.Prelude.{ℕ, suc, Bool, true, false, List, [], ◌∷◌, ◌++◌, Option, Some, None}
use Rattle.c_tree.specs.declared.expression.Fixity.TheVariants.{Prefix}
use Rattle.c_tree.specs.declared.expression.Kind.{Kind}
use Rattle.c_tree.specs.declared.statement.CaseLabel.{CaseLabel}
use Rattle.c_tree.specs.Tree.{Expression, expression, Expressions, no_expressions, expressions, Lvalue, lvalue, Node}
use Rattle.c_tree.specs.Tree.{constant, function, plain, read, decay, address, parenthesized, deref_function}
use Rattle.c_tree.specs.Tree.{address_function, cast, convert, unary, binary, offset_by, difference, logical_and}
use Rattle.c_tree.specs.Tree.{logical_or, comma, conditional, assign, assign_plain, compound, change_plain, step}
use Rattle.c_tree.specs.Tree.{step_plain, call, call_through, library, printf, LvalueNode, automatic, static, deref}
use Rattle.c_tree.specs.Tree.{index, member, arrow, member_of_value, parenthesized_lvalue, kind_of, line_of}
use Rattle.c_tree.specs.Tree.{lvalue_kind, lvalue_line}
use Rattle.c_tree.specs.Statements.{Part, Content, value_content, literal_content, Initializer, of_plain, of_object}
use Rattle.c_tree.specs.Statements.{DeclaredVariable, First, nothing, first_expression, first_declaration, Statement}
use Rattle.c_tree.specs.Statements.{expression_statement, empty, declaration, block, if_then, if_else, while_do}
use Rattle.c_tree.specs.Statements.{do_while, for, switch, break, continue, return}
use Rattle.c_tree.specs.Statements.{SwitchItems, no_items, items}
use Rattle.c_tree.specs.Blocks.{all_of, block_objects, block_variables, switch_variables, first_variables}
use Rattle.source_meaning.specs.Actions.{integer, integer_type, scalar_of}
use Rattle.source_meaning.specs.Expressions.{function_pointer, is_judged, nodes_of}
use Rattle.source_meaning.specs.Blocks.{has_objects}
use Rattle.source_meaning.specs.Statements.{Broken, Continued, is_case_of, is_default, labels_from}
use Rattle.interpreter_tasks.specs.Registers.{Activation}
use Rattle.interpreter_tasks.specs.Actions.{Action, Count, Give, GivePlain, GiveHome, GiveStatic, Read, AsPointer}
use Rattle.interpreter_tasks.specs.Actions.{Convert, Apply, Narrow, Member, Operate, Offset, Difference, Drop}
use Rattle.interpreter_tasks.specs.Actions.{Write, SetPlain, Change, ChangePlain, Take, CallRoutine, Print, Complete}
use Rattle.interpreter_tasks.specs.Actions.{Return, CompleteSwitch, Enter, Leave, Zero, StorePart, StoreLiteral}
use Rattle.interpreter_tasks.specs.Tasks.{Task, Do, Evaluate, Locate, Arguments, Choose, And, Or, Call, CallThrough}
use Rattle.interpreter_tasks.specs.Tasks.{Initialize, StoreParts, Execute, InOrder, Branch, Turn, TurnBefore, Select}
use Rattle.interpreter_tasks.specs.Tasks.{Items}

pub record Parts : Type 0 where
  pub work : ℕ
  pub tasks : List Task

abbrev pub parts : (work : ℕ) → List Task → Parts
parts work tasks = record { work = work; tasks = tasks }

-- a task, then an action; two tasks, then an action
abbrev pub after_one : Task → Action → List Task
after_one t a = t ∷ Do a ∷ []

abbrev pub after_two : (first second : Task) → Action → List Task
after_two t u a = t ∷ u ∷ Do a ∷ []

-- how many arguments there are
abbrev pub count_of : Expressions → ℕ
count_of no_expressions = 0
count_of (expressions e es) = suc (count_of es)

unfoldable pub node_parts : Node → Kind → (line : ℕ) → Parts
node_parts (constant w) kind line = parts 1 (Do (Give (integer w)) ∷ [])
node_parts (function f) kind line = parts 1 (Do (Give (function_pointer f)) ∷ [])
node_parts (plain x) kind line = parts 1 (Do (GivePlain x) ∷ [])
node_parts (read p) kind line = parts 0 (after_one (Locate p) (Read (lvalue_kind p) (is_judged p) (lvalue_line p)))
node_parts (decay p) kind line = parts 0 (after_one (Locate p) AsPointer)
node_parts (address p) kind line = parts 1 (after_one (Locate p) AsPointer)
node_parts (parenthesized a) kind line = parts 1 (Evaluate a ∷ [])
node_parts (deref_function a) kind line = parts 1 (after_one (Evaluate a) AsPointer)
node_parts (address_function a) kind line = parts 1 (after_one (Evaluate a) AsPointer)
node_parts (cast a) kind line = parts 1 (after_one (Evaluate a) (Convert kind))
node_parts (convert a) kind line = parts 0 (after_one (Evaluate a) (Convert kind))
node_parts (unary op a) kind line = parts 1 (after_one (Evaluate a) (Apply op (integer_type (scalar_of (kind_of a)))))
node_parts (binary op a b) kind line =
    parts 1 (after_two (Evaluate a) (Evaluate b) (Operate op (integer_type (scalar_of (kind_of a))) line))
node_parts (offset_by form size a b) kind line = parts 1 (after_two (Evaluate a) (Evaluate b) (Offset form size))
node_parts (difference size a b) kind line = parts 1 (after_two (Evaluate a) (Evaluate b) (Difference size))
node_parts (logical_and a b) kind line = parts 1 (Evaluate a ∷ And b ∷ [])
node_parts (logical_or a b) kind line = parts 1 (Evaluate a ∷ Or b ∷ [])
node_parts (comma a b) kind line = parts 1 (Evaluate a ∷ Do Drop ∷ Evaluate b ∷ [])
node_parts (conditional a b c) kind line = parts 1 (Evaluate a ∷ Choose b c ∷ [])
node_parts (assign p a) kind line =
    parts 1 (after_two (Locate p) (Evaluate a) (Write (lvalue_kind p) (is_judged p) (lvalue_line p)))
node_parts (assign_plain x a) kind line = parts (nodes_of x) (after_one (Evaluate a) (SetPlain x.variable))
node_parts (compound u p a) kind line = parts 1 (after_two (Locate p) (Evaluate a)
    (Change u (scalar_of (lvalue_kind p)) (is_judged p) (lvalue_line p) line Prefix))
node_parts (change_plain u x a) kind line =
    parts (nodes_of x) (after_one (Evaluate a) (ChangePlain u (scalar_of kind) x.variable line Prefix))
node_parts (step u fixity p) kind line = parts 1 (after_two (Locate p) (Do (Give (integer 1)))
    (Change u (scalar_of (lvalue_kind p)) (is_judged p) (lvalue_line p) line fixity))
node_parts (step_plain u fixity x) kind line =
    parts (nodes_of x) (after_one (Do (Give (integer 1))) (ChangePlain u (scalar_of kind) x.variable line fixity))
node_parts (call f es) kind line = parts 1 (Arguments es ∷ Call f (count_of es) line ∷ [])
node_parts (call_through t a es) kind line =
    parts 1 (Evaluate a ∷ Arguments es ∷ CallThrough t (count_of es) line ∷ [])
node_parts (library name es) kind line = parts 1 (after_one (Arguments es) (CallRoutine name (count_of es) line))
node_parts (printf format es) kind line = parts 2 (after_one (Arguments es) (Print format (count_of es) line))

abbrev pub expression_parts : Expression → Parts
expression_parts (expression kind line node) = node_parts node kind line

unfoldable pub lvalue_node_parts : LvalueNode → Parts
lvalue_node_parts (automatic x) = parts 1 (Do (GiveHome x) ∷ [])
lvalue_node_parts (static n) = parts 1 (Do (GiveStatic n) ∷ [])
lvalue_node_parts (deref a) = parts 1 (after_one (Evaluate a) AsPointer)
lvalue_node_parts (index form size a b) = parts 1 (after_two (Evaluate a) (Evaluate b) (Offset form size))
lvalue_node_parts (member p offset size) = parts 1 (after_one (Locate p) (Member offset size))
lvalue_node_parts (arrow a offset size) = parts 1 (after_one (Evaluate a) (Narrow offset size))
lvalue_node_parts (member_of_value a offset size) = parts 1 (after_one (Evaluate a) (Member offset size))
lvalue_node_parts (parenthesized_lvalue p) = parts 1 (Locate p ∷ [])

abbrev pub lvalue_parts : Lvalue → Parts
lvalue_parts (lvalue kind line node) = lvalue_node_parts node

abbrev pub argument_tasks : Expressions → List Task
argument_tasks no_expressions = []
argument_tasks (expressions e es) = Evaluate e ∷ Do (Take (kind_of e) (line_of e)) ∷ Arguments es ∷ []

-- initializers

abbrev pub initializer_tasks : (variable : ℕ) → Option Initializer → List Task
initializer_tasks x None = []
initializer_tasks x (Some (of_plain e)) = Evaluate e ∷ Do (SetPlain x) ∷ Do Drop ∷ []
initializer_tasks x (Some (of_object qs)) = Do (Zero x) ∷ Do (GiveHome x) ∷ StoreParts qs ∷ []

abbrev pub declaration_tasks : List DeclaredVariable → List Task
declaration_tasks [] = []
declaration_tasks (d ∷ ds) = initializer_tasks d.variable d.initializer ++ Initialize ds ∷ []

abbrev pub content_tasks : (offset : ℕ) → Content → List Task
content_tasks offset (value_content e) = Evaluate e ∷ Do (StorePart (kind_of e) offset (line_of e)) ∷ []
content_tasks offset (literal_content bytes) = Do (StoreLiteral offset bytes) ∷ []

abbrev pub store_tasks : List Part → List Task
store_tasks [] = Do Drop ∷ []
store_tasks (q ∷ qs) = content_tasks q.offset q.content ++ StoreParts qs ∷ []

-- statements

-- tasks in the block that declares some variables, which is entered and left where it has objects
abbrev pub in_block_if : Bool → (numbers : List ℕ) → (line : ℕ) → List Task → List Task
in_block_if true numbers line ts = Do (Enter numbers line) ∷ (ts ++ Do Leave ∷ [])
in_block_if false numbers line ts = ts

abbrev pub in_block_tasks : Activation → (numbers : List ℕ) → (line : ℕ) → List Task → List Task
in_block_tasks a numbers line ts =
    in_block_if (has_objects (block_objects (all_of a.function) numbers)) numbers line ts

-- an expression whose value is let go
abbrev pub expression_tasks : Option Expression → List Task
expression_tasks None = []
expression_tasks (Some e) = after_one (Evaluate e) Drop

-- the value of a condition; one that is left out holds
abbrev pub condition_task : Option Expression → Task
condition_task None = Do (Give (integer 1))
condition_task (Some e) = Evaluate e

abbrev pub first_tasks : First → List Task
first_tasks nothing = []
first_tasks (first_expression e) = expression_tasks (Some e)
first_tasks (first_declaration ds) = Initialize ds ∷ []

abbrev pub execute_tasks : Option Statement → List Task
execute_tasks None = []
execute_tasks (Some s) = Execute s ∷ []

unfoldable pub statement_parts : Activation → Statement → Parts
statement_parts a (expression_statement e) = parts 1 (expression_tasks (Some e))
statement_parts a empty = parts 1 []
statement_parts a (declaration ds) = parts 0 (Initialize ds ∷ [])
statement_parts a (block line body) = parts 1 (in_block_tasks a (block_variables body) line (InOrder body ∷ []))
statement_parts a (if_then e body) = parts 1 (Evaluate e ∷ Branch body None ∷ [])
statement_parts a (if_else e body other) = parts 1 (Evaluate e ∷ Branch body (Some other) ∷ [])
statement_parts a (while_do e body) =
    parts 1 (Turn (suc a.left) (record { condition = Some e; body = body; step = None }) ∷ [])
statement_parts a (do_while body e) = parts 1 (TurnBefore (suc a.left) e body ∷ [])
statement_parts a (for line first condition onward body) = parts 1 (in_block_tasks a (first_variables first) line
    (first_tasks first ++ Turn (suc a.left) (record { condition = condition; body = body; step = onward }) ∷ []))
statement_parts a (switch e line is) = parts 1
    (Evaluate e ∷ Do (Count 1) ∷ in_block_tasks a (switch_variables is) line (Select is ∷ []))
statement_parts a break = parts 1 (Do (Complete Broken) ∷ [])
statement_parts a continue = parts 1 (Do (Complete Continued) ∷ [])
statement_parts a (return None) = parts 1 (after_one (Do (Give (integer 0))) Return)
statement_parts a (return (Some e)) = parts 1 (after_two (Evaluate e) (Do (Take (kind_of e) (line_of e))) Return)

-- switch

abbrev pub labels_in : SwitchItems → List CaseLabel
labels_in no_items = []
labels_in (items ls s is) = ls ++ labels_in is

-- the items from the first label of some kind on, the first one with the labels from there, else others
abbrev pub found_at : Option (List CaseLabel) → Statement → (rest : SwitchItems) → (others : Option SwitchItems)
    → Option SwitchItems
found_at (Some ls) s is others = Some (items ls s is)
found_at None s is others = others

unfoldable pub found_from : (CaseLabel → Bool) → SwitchItems → Option SwitchItems
found_from is_sought no_items = None
found_from is_sought (items ls s is) = found_at (labels_from is_sought ls) s is (found_from is_sought is)

-- the items that are run: from the case label of the value on, else from the default label, else none
abbrev pub found_or_default : Option SwitchItems → (all : SwitchItems) → Option SwitchItems
found_or_default (Some is) all = Some is
found_or_default None all = found_from is_default all

abbrev pub selected : (word : ℕ) → SwitchItems → Option SwitchItems
selected word is = found_or_default (found_from (is_case_of word) is) is

abbrev pub selected_tasks : Option SwitchItems → List Task
selected_tasks None = []
selected_tasks (Some is) = after_one (Items is) CompleteSwitch
