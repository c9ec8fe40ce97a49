-- Small words in which the typed trees of the worked rows are written.
use Rattle.std.proofs.Common.{ℕ, List, [], ◌∷◌, true, false, Option, Some, None}
use Rattle.std.specs.Int.{int_wrap}
use Rattle.std.specs.Fmt.{digits}
use Rattle.obj_memory.specs.Integers.{size_of, is_signed, rank, fit}
use Rattle.obj_memory.specs.Operators.{shift_amount, unary_value, binary_value}
use Rattle.obj_memory.specs.Objects.{new_object, with_new, with_dead, with_zeroed, pointer_to}
use Rattle.obj_memory.specs.Judgement.{judge, named, moved, narrowed}
use Rattle.obj_memory.specs.Access.{read_value, write_bytes, write_tag, write_value, move_range}
use Rattle.obj_memory.specs.Heap.{block_count, is_clear, least_place}
use Rattle.sb_base.specs.Endings.{report_at}
use Rattle.addr_map.specs.Places.{region_size, region_start, function_address}
use Rattle.c_tree.specs.ValidProgram.{is_valid_program}
use Rattle.c_tree.specs.Room.{room}
use Rattle.source_meaning.specs.Structures.{moved_into, put_range}
use Rattle.obj_memory.specs.declared.int_type.IntType.{IntType}
use Rattle.obj_memory.specs.declared.int_type.IntType.TheVariants.{Int, Long}
use Rattle.obj_memory.specs.declared.value.Scalar.TheVariants.{Integer, Pointer}
use Rattle.obj_memory.specs.declared.operator.BinaryOperator.{BinaryOperator}
use Rattle.obj_memory.specs.declared.operator.UnaryOperator.{UnaryOperator}
use Rattle.obj_memory.specs.declared.operator.UnaryOperator.TheVariants.{Not}
use Rattle.c_tree.specs.declared.c_type.TypeWord.{TypeWord}
use Rattle.c_tree.specs.declared.c_type.TypeWord.TheVariants.{Gives, Integer as IntegerWord}
use Rattle.c_tree.specs.declared.expression.Kind.{Kind}
use Rattle.c_tree.specs.declared.expression.Kind.TheVariants.{Scalar as OfScalar}
use Rattle.c_tree.specs.declared.expression.OffsetForm.{OffsetForm}
use Rattle.c_tree.specs.declared.expression.OffsetForm.TheVariants.{PointerPlusIndex, IndexPlusPointer}
use Rattle.c_tree.specs.declared.expression.Update.{Update}
use Rattle.c_tree.specs.declared.expression.Fixity.{Fixity}
use Rattle.c_tree.specs.declared.expression.Routine.{Routine}
use Rattle.c_tree.specs.declared.expression.PlainName.{PlainName}
use Rattle.c_tree.specs.declared.statement.CaseLabel.{CaseLabel}
use Rattle.c_tree.specs.declared.program.Variable.{Variable}
use Rattle.c_tree.specs.Kinds.{size_of_kind}
use Rattle.c_tree.specs.Extents.{TypeExtent}
use Rattle.c_tree.specs.Tree.{Expression, expression, Lvalue, Node, LvalueNode, kind_of, line_of, lvalue_kind}
use Rattle.c_tree.specs.Tree.{lvalue_line, expressions_in}
use Rattle.c_tree.specs.Tree as tree
use Rattle.c_tree.specs.Statements.{Content, value_content, Part, of_plain, of_object, DeclaredVariable, Statement}
use Rattle.c_tree.specs.Statements.{block, switch, statements_in, items_in}
use Rattle.c_tree.specs.Programs.{FunctionType, Function, StaticObject, Program}
use Rattle.behaviours.specs.Shown.{End, Status, Access, Read as ReadAccess, Write as WriteAccess}
use Rattle.behaviours.specs.Behaviour.{Moment}

-- what the meaning computes by: a row names it in its `unfolding` line
unfoldable pub computing : Unit {0}
unfolding int_wrap digits size_of is_signed rank fit shift_amount unary_value binary_value new_object with_new with_dead
    with_zeroed pointer_to judge named moved narrowed read_value write_bytes write_tag write_value move_range
    block_count is_clear least_place report_at region_size region_start function_address is_valid_program room
    moved_into put_range
computing = tt

abbrev pub none : {A : Type 0} → List A
none = []

abbrev pub one : {A : Type 0} → A → List A
one a = a ∷ []

abbrev pub two : {A : Type 0} → A → A → List A
two a b = a ∷ b ∷ []

abbrev pub three : {A : Type 0} → A → A → A → List A
three a b c = a ∷ b ∷ c ∷ []

abbrev pub four : {A : Type 0} → A → A → A → A → List A
four a b c d = a ∷ b ∷ c ∷ d ∷ []

abbrev pub five : {A : Type 0} → A → A → A → A → A → List A
five a b c d e = a ∷ b ∷ c ∷ d ∷ e ∷ []

abbrev pub six : {A : Type 0} → A → A → A → A → A → A → List A
six a b c d e f = a ∷ b ∷ c ∷ d ∷ e ∷ f ∷ []

abbrev pub int : Kind
int = OfScalar (Integer Int)

abbrev pub pointer : Kind
pointer = OfScalar Pointer

-- an expression, and an lvalue, at a line
abbrev pub at : (line : ℕ) → Kind → Node → Expression
at line kind node = expression kind line node

abbrev pub lvalue : (line : ℕ) → Kind → LvalueNode → Lvalue
lvalue line kind node = tree.lvalue kind line node

abbrev pub number : (line : ℕ) → ℕ → Expression
number line n = at line int (tree.constant n)

-- what an lvalue holds
abbrev pub read : Lvalue → Expression
read p = at (lvalue_line p) (lvalue_kind p) (tree.read p)

abbrev pub convert : Kind → Expression → Expression
convert kind e = at (line_of e) kind (tree.convert e)

abbrev pub plain_variable : Kind → Variable
plain_variable kind = record { kind = kind; is_object = false }

abbrev pub object_variable : Kind → Variable
object_variable kind = record { kind = kind; is_object = true }

-- `int(void)`, the type of `main`
abbrev pub main_type : FunctionType
main_type = record { c_type = Gives ∷ IntegerWord Int ∷ []; parameters = none; result = int }

-- a program of `main` alone, at line 1, of function type 0
abbrev pub main_alone : List StaticObject → (variables : List Variable) → (room : ℕ) → List Statement → Program
main_alone statics variables room body = record {
  structures = [];
  statics = statics;
  function_types = one main_type;
  functions = one (record
      { line = 1; type_number = 0; parameters = none; variables = variables; body = statements_in body; room = room });
  main = 0;
}

-- The kind of an integer type, and the nodes of expressions, each with its line first, where it has one of its own. A
-- node that keeps a kind takes it from its operand.

abbrev pub integer_kind : IntType → Kind
integer_kind t = OfScalar (Integer t)

-- a constant of another type than `int`, by its word
abbrev pub constant : IntType → (line word : ℕ) → Expression
constant t line word = at line (integer_kind t) (tree.constant word)

abbrev pub plain : (line : ℕ) → Kind → (variable : ℕ) → Expression
plain line kind x = at line kind (tree.plain x)

abbrev pub function : (line number : ℕ) → Expression
function line f = at line pointer (tree.function f)

abbrev pub decay : Lvalue → Expression
decay p = at (lvalue_line p) pointer (tree.decay p)

abbrev pub address : (line : ℕ) → Lvalue → Expression
address line p = at line pointer (tree.address p)

abbrev pub parenthesized : Expression → Expression
parenthesized e = at (line_of e) (kind_of e) (tree.parenthesized e)

abbrev pub designator : (line : ℕ) → Expression → Expression
designator line e = at line pointer (tree.deref_function e)

abbrev pub function_address_of : (line : ℕ) → Expression → Expression
function_address_of line e = at line pointer (tree.address_function e)

abbrev pub cast : (line : ℕ) → Kind → Expression → Expression
cast line kind e = at line kind (tree.cast e)

abbrev pub unary : (line : ℕ) → UnaryOperator → Expression → Expression
unary line op e = at line (kind_of e) (tree.unary op e)

abbrev pub logical_not : (line : ℕ) → Expression → Expression
logical_not line e = at line int (tree.unary Not e)

abbrev pub binary : (line : ℕ) → BinaryOperator → (left right : Expression) → Expression
binary line op a b = at line (kind_of a) (tree.binary op a b)

abbrev pub compare : (line : ℕ) → BinaryOperator → (left right : Expression) → Expression
compare line op a b = at line int (tree.binary op a b)

abbrev pub offset : (line : ℕ) → OffsetForm → (size : ℕ) → (left right : Expression) → Expression
offset line form size a b = at line pointer (tree.offset_by form size a b)

abbrev pub difference : (line size : ℕ) → (left right : Expression) → Expression
difference line size a b = at line (integer_kind Long) (tree.difference size a b)

abbrev pub logical_and : (line : ℕ) → (left right : Expression) → Expression
logical_and line a b = at line int (tree.logical_and a b)

abbrev pub logical_or : (line : ℕ) → (left right : Expression) → Expression
logical_or line a b = at line int (tree.logical_or a b)

abbrev pub comma : (line : ℕ) → (left right : Expression) → Expression
comma line a b = at line (kind_of b) (tree.comma a b)

abbrev pub conditional : (line : ℕ) → (condition first second : Expression) → Expression
conditional line c a b = at line (kind_of a) (tree.conditional c a b)

abbrev pub assign : (line : ℕ) → Lvalue → Expression → Expression
assign line p e = at line (lvalue_kind p) (tree.assign p e)

abbrev pub set_plain : (line variable : ℕ) → Expression → Expression
set_plain line x e = at line (kind_of e) (tree.assign_plain (record { variable = x; parentheses = 0 }) e)

-- the same with parentheses around the name
abbrev pub set_plain_in : (line : ℕ) → PlainName → Expression → Expression
set_plain_in line x e = at line (kind_of e) (tree.assign_plain x e)

abbrev pub compound : (line : ℕ) → Update → Lvalue → Expression → Expression
compound line u p e = at line (lvalue_kind p) (tree.compound u p e)

abbrev pub change_plain : (line : ℕ) → Kind → Update → (variable : ℕ) → Expression → Expression
change_plain line kind u x e = at line kind (tree.change_plain u (record { variable = x; parentheses = 0 }) e)

abbrev pub change_plain_in : (line : ℕ) → Kind → Update → PlainName → Expression → Expression
change_plain_in line kind u x e = at line kind (tree.change_plain u x e)

abbrev pub step : (line : ℕ) → Update → Fixity → Lvalue → Expression
step line u fixity p = at line (lvalue_kind p) (tree.step u fixity p)

abbrev pub step_plain : (line : ℕ) → Kind → Update → Fixity → (variable : ℕ) → Expression
step_plain line kind u fixity x = at line kind (tree.step_plain u fixity (record { variable = x; parentheses = 0 }))

abbrev pub step_plain_in : (line : ℕ) → Kind → Update → Fixity → PlainName → Expression
step_plain_in line kind u fixity x = at line kind (tree.step_plain u fixity x)

abbrev pub call : (line : ℕ) → Kind → (function : ℕ) → List Expression → Expression
call line kind f arguments = at line kind (tree.call f (expressions_in arguments))

abbrev pub call_through : (line : ℕ) → Kind → (type_number : ℕ) → Expression → List Expression → Expression
call_through line kind type_number e arguments = at line kind
    (tree.call_through type_number e (expressions_in arguments))

abbrev pub library : (line : ℕ) → Kind → Routine → List Expression → Expression
library line kind routine arguments = at line kind (tree.library routine (expressions_in arguments))

-- lvalues

abbrev pub deref : (line : ℕ) → Kind → Expression → Lvalue
deref line kind e = lvalue line kind (tree.deref e)

abbrev pub index : (line : ℕ) → Kind → (array index : Expression) → Lvalue
index line kind e i = lvalue line kind (tree.index PointerPlusIndex (size_of_kind kind) e i)

abbrev pub index_of : (line : ℕ) → Kind → (index array : Expression) → Lvalue
index_of line kind i e = lvalue line kind (tree.index IndexPlusPointer (size_of_kind kind) i e)

abbrev pub member : (line : ℕ) → Kind → (offset : ℕ) → Lvalue → Lvalue
member line kind offset p = lvalue line kind (tree.member p offset (size_of_kind kind))

abbrev pub arrow : (line : ℕ) → Kind → (offset : ℕ) → Expression → Lvalue
arrow line kind offset e = lvalue line kind (tree.arrow e offset (size_of_kind kind))

abbrev pub member_of_value : (line : ℕ) → Kind → (offset : ℕ) → Expression → Lvalue
member_of_value line kind offset e = lvalue line kind (tree.member_of_value e offset (size_of_kind kind))

abbrev pub parenthesized_lvalue : Lvalue → Lvalue
parenthesized_lvalue p = lvalue (lvalue_line p) (lvalue_kind p) (tree.parenthesized_lvalue p)

-- parts of statements, of functions and of programs

-- an item of a switch
abbrev pub item : List CaseLabel → Statement → List CaseLabel × Statement
item labels s = (labels, s)

abbrev pub block_of : (line : ℕ) → List Statement → Statement
block_of line body = block line (statements_in body)

abbrev pub switch_of : Expression → (line : ℕ) → List (List CaseLabel × Statement) → Statement
switch_of e line is = switch e line (items_in is)

-- a variable that is declared with an initializer, and one without
abbrev pub with_value : (variable : ℕ) → Expression → DeclaredVariable
with_value x e = record { variable = x; initializer = Some (of_plain e) }

abbrev pub with_parts : (variable : ℕ) → List Part → DeclaredVariable
with_parts x parts = record { variable = x; initializer = Some (of_object parts) }

abbrev pub without_value : (variable : ℕ) → DeclaredVariable
without_value x = record { variable = x; initializer = None }

abbrev pub part : (offset : ℕ) → Content → Part
part offset content = record { offset = offset; content = content }

abbrev pub content : Expression → Content
content e = value_content e

abbrev pub static_object : Kind → List Part → StaticObject
static_object kind parts = record { kind = kind; is_literal = false; function = None; parts = parts }

-- one in the block of a function
abbrev pub static_within : (function : ℕ) → Kind → List Part → StaticObject
static_within f kind parts = record { kind = kind; is_literal = false; function = Some f; parts = parts }

abbrev pub string_literal : Kind → List Part → StaticObject
string_literal kind parts = record { kind = kind; is_literal = true; function = None; parts = parts }

abbrev pub function_type : List TypeWord → (parameters : List Kind) → (result : Kind) → FunctionType
function_type words parameters result = record { c_type = words; parameters = parameters; result = result }

abbrev pub defined : (line type_number : ℕ) → (parameters variables : List Variable) → (room : ℕ) → List Statement
    → Function
defined line type_number parameters variables room body = record {
  line = line;
  type_number = type_number;
  parameters = parameters;
  variables = variables;
  body = statements_in body;
  room = room;
}

abbrev pub program_of : List StaticObject → List FunctionType → List Function → (main : ℕ) → Program
program_of statics function_types functions main =
    record { structures = []; statics = statics; function_types = function_types; functions = functions; main = main }

-- the same with structures, by their extents
abbrev pub program_with : List (Option TypeExtent) → List StaticObject → List FunctionType → List Function → (main : ℕ)
    → Program
program_with structures statics function_types functions main =
    record {
      structures = structures;
      statics = statics;
      function_types = function_types;
      functions = functions;
      main =
          main;
    }

-- what is seen of a run at a moment: the bytes of its output, its report, and how it ended

pub record Seen : Type 0 where
  pub output : List ℕ
  pub errors : List ℕ
  pub ending : Option End

abbrev pub seen : Moment → Seen
seen m = record { output = m.shown.output; errors = m.shown.errors; ending = m.shown.ending }

abbrev pub exited : (output : List ℕ) → (status : ℕ) → Seen
exited output status = record { output = output; errors = []; ending = Some (Status status) }

abbrev pub stopped : (output errors : List ℕ) → (status : ℕ) → Seen
stopped output errors status = record { output = output; errors = errors; ending = Some (Status status) }

abbrev pub running : (output : List ℕ) → Seen
running output = record { output = output; errors = []; ending = None }

-- what is counted of a run at a moment

pub record Counts : Type 0 where
  pub turns : ℕ
  pub work : ℕ
  pub accesses : List Access

abbrev pub counts : Moment → Counts
counts m = record { turns = m.turns; work = m.work; accesses = m.shown.accesses }

abbrev pub reads : (address size : ℕ) → Access
reads address size = record { address = address; size = size; kind = ReadAccess }

abbrev pub writes : (address size : ℕ) → Access
writes address size = record { address = address; size = size; kind = WriteAccess }
