-- Trees without where they lie in memory: from the code's trees to the plain ones.
use Rattle.std.specs.Prelude.{List, map, option_map}
use Rattle.c_tree.specs.declared.expression.LvalueNode.TheOpen.{LvalueNode-F, Node-F, Expression-F, Lvalue-F}
use Rattle.c_tree.specs.declared.expression.Expression as rx
use Rattle.c_tree.specs.declared.expression.Lvalue as rl
use Rattle.c_tree.specs.declared.statement.Content as rc
use Rattle.c_tree.specs.declared.statement.Part as rp
use Rattle.c_tree.specs.declared.statement.Initializer as ri
use Rattle.c_tree.specs.declared.statement.DeclaredVariable as rd
use Rattle.c_tree.specs.declared.statement.First as rf
use Rattle.c_tree.specs.declared.statement.Statement.TheOpen.{Statement-F, SwitchItem-F}
use Rattle.c_tree.specs.declared.statement.CaseLabel.{CaseLabel}
use Rattle.c_tree.specs.declared.statement.Statement as rs
use Rattle.c_tree.specs.declared.program.FunctionType as rt
use Rattle.c_tree.specs.declared.program.Function as ru
use Rattle.c_tree.specs.declared.program.StaticObject as ro
use Rattle.c_tree.specs.declared.program.Program as rg
use Rattle.c_tree.specs.Tree.{Expression, Node, Lvalue, LvalueNode, expressions_in}
use Rattle.c_tree.specs.Tree as t
use Rattle.c_tree.specs.Statements.{Content, Part, Initializer, DeclaredVariable, First, Statement, statements_in}
use Rattle.c_tree.specs.Statements.{items_in}
use Rattle.c_tree.specs.Statements as s
use Rattle.c_tree.specs.Programs.{FunctionType, Function, StaticObject, Program}

-- expressions

abbrev pub lvalue_node_step : LvalueNode-F LvalueNode Node Expression Lvalue → LvalueNode
lvalue_node_step (LvalueNode-F.Automatic x) = t.automatic x
lvalue_node_step (LvalueNode-F.Static n) = t.static n
lvalue_node_step (LvalueNode-F.Deref e) = t.deref e
lvalue_node_step (LvalueNode-F.Index form size a b) = t.index form size a b
lvalue_node_step (LvalueNode-F.Member p offset size) = t.member p offset size
lvalue_node_step (LvalueNode-F.Arrow e offset size) = t.arrow e offset size
lvalue_node_step (LvalueNode-F.MemberOfValue e offset size) = t.member_of_value e offset size
lvalue_node_step (LvalueNode-F.LvalueNode::Parenthesized p) = t.parenthesized_lvalue p

abbrev pub node_step : Node-F LvalueNode Node Expression Lvalue → Node
node_step (Node-F.Constant w) = t.constant w
node_step (Node-F.Function f) = t.function f
node_step (Node-F.Plain x) = t.plain x
node_step (Node-F.Read p) = t.read p
node_step (Node-F.Decay p) = t.decay p
node_step (Node-F.Address p) = t.address p
node_step (Node-F.Node::Parenthesized e) = t.parenthesized e
node_step (Node-F.DerefFunction e) = t.deref_function e
node_step (Node-F.AddressFunction e) = t.address_function e
node_step (Node-F.Cast e) = t.cast e
node_step (Node-F.Convert e) = t.convert e
node_step (Node-F.Unary op e) = t.unary op e
node_step (Node-F.Binary op a b) = t.binary op a b
node_step (Node-F.Offset form size a b) = t.offset_by form size a b
node_step (Node-F.Difference size a b) = t.difference size a b
node_step (Node-F.And a b) = t.logical_and a b
node_step (Node-F.Or a b) = t.logical_or a b
node_step (Node-F.Comma a b) = t.comma a b
node_step (Node-F.Conditional c a b) = t.conditional c a b
node_step (Node-F.Assign p e) = t.assign p e
node_step (Node-F.SetPlain x e) = t.assign_plain x e
node_step (Node-F.Compound u p e) = t.compound u p e
node_step (Node-F.ChangePlain u x e) = t.change_plain u x e
node_step (Node-F.Step u fixity p) = t.step u fixity p
node_step (Node-F.StepPlain u fixity x) = t.step_plain u fixity x
node_step (Node-F.Call f es) = t.call f (expressions_in es)
node_step (Node-F.CallThrough type e es) = t.call_through type e (expressions_in es)
node_step (Node-F.Library routine es) = t.library routine (expressions_in es)
node_step (Node-F.Printf format es) = t.printf format (expressions_in es)

abbrev pub expression_step : Expression-F LvalueNode Node Expression Lvalue → Expression
expression_step e = t.expression e.kind e.line e.node

abbrev pub lvalue_step : Lvalue-F LvalueNode Node Expression Lvalue → Lvalue
lvalue_step p = t.lvalue p.kind p.line p.node

abbrev pub expression_of : rx.Expression → Expression
expression_of = rx.fold-Expression LvalueNode Node Expression Lvalue lvalue_node_step node_step
    expression_step lvalue_step

abbrev pub lvalue_of : rl.Lvalue → Lvalue
lvalue_of = rl.fold-Lvalue LvalueNode Node Expression Lvalue lvalue_node_step node_step expression_step lvalue_step

-- initializers

abbrev pub content_of : rc.Content → Content
content_of (rc.TheVariants.Value e) = s.value_content (expression_of e)
content_of (rc.TheVariants.Literal bytes) = s.literal_content bytes

abbrev pub part_of : rp.Part → Part
part_of p = record { offset = p.offset; content = content_of p.content }

abbrev pub initializer_of : ri.Initializer → Initializer
initializer_of (ri.TheVariants.Plain e) = s.of_plain (expression_of e)
initializer_of (ri.TheVariants.Object parts) = s.of_object (map part_of parts)

abbrev pub declared_of : rd.DeclaredVariable → DeclaredVariable
declared_of d = record { variable = d.variable; initializer = option_map initializer_of d.initializer }

abbrev pub first_of : rf.First → First
first_of rf.TheVariants.Nothing = s.nothing
first_of (rf.TheVariants.Expression e) = s.first_expression (expression_of e)
first_of (rf.TheVariants.Declaration ds) = s.first_declaration (map declared_of ds)

-- statements

abbrev pub statement_step : Statement-F Statement (List CaseLabel × Statement) → Statement
statement_step (Statement-F.Expression e) = s.expression_statement (expression_of e)
statement_step Statement-F.Empty = s.empty
statement_step (Statement-F.Declaration ds) = s.declaration (map declared_of ds)
statement_step (Statement-F.Block line body) = s.block line (statements_in body)
statement_step (Statement-F.If e body) = s.if_then (expression_of e) body
statement_step (Statement-F.IfElse e body other) = s.if_else (expression_of e) body other
statement_step (Statement-F.While e body) = s.while_do (expression_of e) body
statement_step (Statement-F.DoWhile body e) = s.do_while body (expression_of e)
statement_step (Statement-F.For line first condition step body) =
    s.for line (first_of first) (option_map expression_of condition) (option_map expression_of step) body
statement_step (Statement-F.Switch e line is) = s.switch (expression_of e) line (items_in is)
statement_step Statement-F.Break = s.break
statement_step Statement-F.Continue = s.continue
statement_step (Statement-F.Return e) = s.return (option_map expression_of e)

abbrev pub item_step : SwitchItem-F Statement (List CaseLabel × Statement) → List CaseLabel × Statement
item_step i = (i.labels, i.statement)

abbrev pub statement_of : rs.Statement → Statement
statement_of = rs.fold-Statement Statement (List CaseLabel × Statement) statement_step item_step

-- programs

abbrev pub function_type_of : rt.FunctionType → FunctionType
function_type_of f = record { c_type = f.c_type; parameters = f.parameters; result = f.result }

abbrev pub function_of : ru.Function → Function
function_of f = record {
  line = f.line;
  type_number = f.type_number;
  parameters = f.parameters;
  variables = f.variables;
  body = statements_in (map statement_of f.body);
  room = f.room;
}

abbrev pub static_of : ro.StaticObject → StaticObject
static_of o = record { kind = o.kind; is_literal = o.is_literal; function = o.function; parts = map part_of o.parts }

abbrev pub program_of : rg.Program → Program
program_of p = record {
  structures = p.structures;
  statics = map static_of p.statics;
  function_types = map function_type_of p.function_types;
  functions = map function_of p.functions;
  main = p.main;
}
