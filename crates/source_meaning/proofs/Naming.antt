-- What accesses that are not judged rest on. They name an object or a structure value, so the names must be of objects
-- that
-- are there, members must lie in what has them, and a structure value is used where it is made. Every program that
-- types
-- has this.
use Rattle.source_meaning.specs.Good.{Updates, Basis, OnName, OnPointer, OnValue, basis_of, object_kind, plain_type}
use Rattle.source_meaning.specs.Good.{signature_in, static_kind}
use Rattle.std.specs.Prelude.{◌≡◌, ℕ, ◌+◌, ◌<◌, ◌≤◌, true, false, List, [], ◌∷◌, ◌++◌, map, Option, Some, None, length}
use Rattle.c_tree.specs.declared.expression.Kind.{Kind}
use Rattle.c_tree.specs.declared.expression.Kind.TheVariants.{Void, Scalar as OfScalar, Structure, Array}
use Rattle.c_tree.specs.Tree.{Expression, expression, Expressions, no_expressions, expressions, Lvalue, lvalue, Node}
use Rattle.c_tree.specs.Tree.{constant, function, plain, read, decay, address, parenthesized, deref_function}
use Rattle.c_tree.specs.Tree.{address_function, cast, convert, unary, binary, offset_by, difference, logical_and}
use Rattle.c_tree.specs.Tree.{logical_or, comma, conditional, assign, assign_plain, compound, change_plain, step}
use Rattle.c_tree.specs.Tree.{step_plain, call, call_through, library, printf, LvalueNode, automatic, static, deref}
use Rattle.c_tree.specs.Tree.{index, member, arrow, member_of_value, parenthesized_lvalue, kind_of, lvalue_kind}
use Rattle.c_tree.specs.Tree.{kinds_of}
use Rattle.c_tree.specs.Statements.{Part, Content, value_content, literal_content, Initializer, of_plain, of_object}
use Rattle.c_tree.specs.Statements.{DeclaredVariable}
use Rattle.c_tree.specs.Statements.{First, nothing, first_expression, first_declaration, Statement}
use Rattle.c_tree.specs.Statements.{expression_statement, empty, declaration, block, if_then, if_else, while_do}
use Rattle.c_tree.specs.Statements.{do_while, for, switch, break, continue, return, Statements, no_statements}
use Rattle.c_tree.specs.Statements.{statements, SwitchItems, no_items, items}
use Rattle.c_tree.specs.declared.program.Variable.{Variable}
use Rattle.c_tree.specs.Programs.{Function, StaticObject, Program}
use Rattle.c_tree.specs.Kinds.{integer, pointer, size_of_kind, class_of, are_operands, Signature, routine_signature}
use Rattle.c_tree.specs.declared.expression.Update.{Update}
use Rattle.obj_memory.specs.declared.int_type.IntType.TheVariants.{Int, Long}
use Rattle.obj_memory.specs.declared.value.Scalar.TheVariants.{Integer, Pointer}
use Rattle.obj_memory.specs.Integers.{fit}
use Rattle.c_tree.specs.Valid.{Scope, within, is_operand}
use Rattle.c_tree.specs.Blocks.{all_of, body_variables, block_variables, switch_variables, first_variables}
use Rattle.c_tree.specs.ValidProgram.{name_variables, signatures_of}

-- what rests on a structure value is no lvalue that can be written (C99 6.5.16 paragraph 2)
abbrev pub IsWritable : Basis → Type 0
IsWritable OnName = Unit {0}
IsWritable OnPointer = Unit {0}
IsWritable OnValue = ⊥

abbrev pub IsScalar : Kind → Type 0
IsScalar Void = ⊥
IsScalar (OfScalar k) = Unit {0}
IsScalar (Structure n) = ⊥
IsScalar (Array n) = ⊥

-- a kind of values that have no contents
abbrev pub IsNoStructure : Kind → Type 0
IsNoStructure Void = Unit {0}
IsNoStructure (OfScalar k) = Unit {0}
IsNoStructure (Structure n) = ⊥
IsNoStructure (Array n) = Unit {0}

-- a plain variable that can be named is of a type
abbrev pub PlainNames : Scope → (variable : ℕ) → Kind → Type 0
PlainNames sc x Void = ⊥
PlainNames sc x (OfScalar k) = plain_type sc.variables x ≡ Some k
PlainNames sc x (Structure n) = ⊥
PlainNames sc x (Array n) = ⊥

-- a constant is a word of its type
abbrev pub IsConstantOf : (word : ℕ) → Kind → Type 0
IsConstantOf w Void = ⊥
IsConstantOf w (OfScalar (Integer t)) = fit t w ≡ w
IsConstantOf w (OfScalar Pointer) = ⊥
IsConstantOf w (Structure n) = ⊥
IsConstantOf w (Array n) = ⊥

-- an update of a scalar of a kind
abbrev pub UpdatesKind : Update → Kind → Type 0
UpdatesKind u Void = ⊥
UpdatesKind u (OfScalar k) = Updates u k
UpdatesKind u (Structure n) = ⊥
UpdatesKind u (Array n) = ⊥

abbrev pub IsStructureWith : Kind → (bytes : ℕ) → Type 0
IsStructureWith Void bytes = ⊥
IsStructureWith (OfScalar k) bytes = ⊥
IsStructureWith (Structure n) bytes = bytes ≤ n
IsStructureWith (Array n) bytes = ⊥

-- an object that is declared with a kind has the bytes of the kind that its name stands for
abbrev pub IsNamedAs : (declared : Option Kind) → Kind → Type 0
IsNamedAs None named = ⊥
IsNamedAs (Some declared) named = size_of_kind named ≤ size_of_kind declared

abbrev mutual
  pub Names : Scope → Expression → Type 0
  Names sc (expression kind line node) = ValueNames sc node kind

  pub ValueNames : Scope → Node → Kind → Type 0
  ValueNames sc (constant w) kind = IsConstantOf w kind
  ValueNames sc (function f) kind = (f < length sc.functions) × (kind ≡ pointer)
  ValueNames sc (plain x) kind = PlainNames sc x kind
  ValueNames sc (read p) kind = LvalueNames sc p × (kind ≡ lvalue_kind p)
  ValueNames sc (decay p) kind = LvalueNames sc p × (kind ≡ pointer)
  ValueNames sc (address p) kind = LvalueNames sc p × (kind ≡ pointer)
  ValueNames sc (parenthesized a) kind = Names sc a × (kind ≡ kind_of a)
  ValueNames sc (deref_function a) kind = Names sc a × (kind_of a ≡ pointer) × (kind ≡ pointer)
  ValueNames sc (address_function a) kind = Names sc a × (kind_of a ≡ pointer) × (kind ≡ pointer)
  ValueNames sc (cast a) kind = Names sc a × IsNoStructure kind
  ValueNames sc (convert a) kind = Names sc a × IsNoStructure kind
  ValueNames sc (unary op a) kind = Names sc a × (is_operand op (kind_of a) kind ≡ true)
  ValueNames sc (binary op a b) kind = Names sc a × Names sc b
      × (are_operands (class_of op) (kind_of a) (kind_of b) kind ≡ true)
  ValueNames sc (offset_by form size a b) kind = Names sc a × Names sc b × (kind ≡ pointer)
  ValueNames sc (difference size a b) kind = Names sc a × Names sc b × (kind ≡ integer Long)
  ValueNames sc (logical_and a b) kind = Names sc a × Names sc b × (kind ≡ integer Int)
  ValueNames sc (logical_or a b) kind = Names sc a × Names sc b × (kind ≡ integer Int)
  ValueNames sc (comma a b) kind = Names sc a × Names sc b × (kind ≡ kind_of b)
  ValueNames sc (conditional a b c) kind =
      Names sc a × Names sc b × Names sc c × (kind ≡ kind_of b) × (kind ≡ kind_of c)
  ValueNames sc (assign p a) kind =
      LvalueNames sc p × IsWritable (basis_of p) × Names sc a × (lvalue_kind p ≡ kind_of a) × (kind ≡ lvalue_kind p)
  ValueNames sc (assign_plain x a) kind = Names sc a × PlainNames sc x.variable (kind_of a) × (kind ≡ kind_of a)
  ValueNames sc (compound u p a) kind =
      LvalueNames sc p × IsWritable (basis_of p) × UpdatesKind u (lvalue_kind p) × Names sc a × (kind ≡ lvalue_kind p)
  ValueNames sc (change_plain u x a) kind = Names sc a × PlainNames sc x.variable kind × UpdatesKind u kind
  ValueNames sc (step u fixity p) kind = LvalueNames sc p × IsWritable (basis_of p) × UpdatesKind u (lvalue_kind p)
      × (kind ≡ lvalue_kind p)
  ValueNames sc (step_plain u fixity x) kind = PlainNames sc x.variable kind × UpdatesKind u kind
  ValueNames sc (call f args) kind =
      RowNames sc args × (kinds_of args ≡ (signature_in sc.functions f).parameters)
      × (kind ≡ (signature_in sc.functions f).result)
  ValueNames sc (call_through type_number a args) kind =
      Names sc a × RowNames sc args × (kinds_of args ≡ (signature_in sc.types type_number).parameters)
      × (kind ≡ (signature_in sc.types type_number).result)
  ValueNames sc (library name args) kind =
      RowNames sc args × (kinds_of args ≡ (routine_signature name).parameters)
      × (kind ≡ (routine_signature name).result)
  ValueNames sc (printf format args) kind = RowNames sc args × (kind ≡ integer Int)

  pub LvalueNames : Scope → Lvalue → Type 0
  LvalueNames sc (lvalue kind line node) = PlaceNames sc node kind

  pub PlaceNames : Scope → LvalueNode → Kind → Type 0
  PlaceNames sc (automatic x) kind = IsNamedAs (object_kind sc.variables x) kind
  PlaceNames sc (static n) kind = IsNamedAs (static_kind sc.statics n) kind
  PlaceNames sc (deref a) kind = Names sc a
  PlaceNames sc (index form size a b) kind = Names sc a × Names sc b
  PlaceNames sc (member p offset size) kind = LvalueNames sc p × (offset + size ≤ size_of_kind (lvalue_kind p))
      × (size_of_kind kind ≤ size)
  PlaceNames sc (arrow a offset size) kind = Names sc a
  PlaceNames sc (member_of_value a offset size) kind = Names sc a × IsStructureWith (kind_of a) (offset + size)
      × (size_of_kind kind ≤ size)
  PlaceNames sc (parenthesized_lvalue p) kind = LvalueNames sc p × (kind ≡ lvalue_kind p)

  pub RowNames : Scope → Expressions → Type 0
  RowNames sc no_expressions = Unit {0}
  RowNames sc (expressions e es) = Names sc e × RowNames sc es

abbrev pub NamesIfAny : Scope → Option Expression → Type 0
NamesIfAny sc None = Unit {0}
NamesIfAny sc (Some e) = Names sc e

-- initializers

-- a part lies in an object of some bytes
abbrev pub ContentNames : Scope → (bytes offset : ℕ) → Content → Type 0
ContentNames sc bytes offset (value_content e) = Names sc e × (offset + size_of_kind (kind_of e) ≤ bytes)
ContentNames sc bytes offset (literal_content text) = offset + length text ≤ bytes

abbrev pub PartsName : Scope → (bytes : ℕ) → List Part → Type 0
PartsName sc bytes [] = Unit {0}
PartsName sc bytes (q ∷ qs) = ContentNames sc bytes q.offset q.content × PartsName sc bytes qs

abbrev pub InitializerNames : Scope → (variable : ℕ) → Option Initializer → Type 0
InitializerNames sc x None = Unit {0}
InitializerNames sc x (Some (of_plain e)) = Names sc e × PlainNames sc x (kind_of e)
InitializerNames sc x (Some (of_object parts)) = (kind : Kind) × (object_kind sc.variables x ≡ Some kind)
    × PartsName sc (size_of_kind kind) parts

abbrev pub DeclaredName : Scope → List DeclaredVariable → Type 0
DeclaredName sc [] = Unit {0}
DeclaredName sc (d ∷ ds) = InitializerNames sc d.variable d.initializer × DeclaredName sc ds

abbrev pub FirstNames : Scope → First → Type 0
FirstNames sc nothing = Unit {0}
FirstNames sc (first_expression e) = Names sc e
FirstNames sc (first_declaration ds) = DeclaredName sc ds

-- statements

abbrev pub ReturnNames : Scope → Option Expression → Type 0
ReturnNames sc None = sc.result ≡ Void
ReturnNames sc (Some e) = Names sc e × (kind_of e ≡ sc.result)

abbrev mutual
  pub StatementNames : Scope → Statement → Type 0
  StatementNames sc (expression_statement e) = Names sc e
  StatementNames sc empty = Unit {0}
  StatementNames sc (declaration ds) = DeclaredName sc ds
  StatementNames sc (block line body) = StatementsName (within sc (block_variables body)) body
  StatementNames sc (if_then e body) = Names sc e × StatementNames sc body
  StatementNames sc (if_else e body other) = Names sc e × StatementNames sc body × StatementNames sc other
  StatementNames sc (while_do e body) = Names sc e × StatementNames sc body
  StatementNames sc (do_while body e) = StatementNames sc body × Names sc e
  StatementNames sc (for line first condition next body) =
      FirstNames (within sc (first_variables first)) first × NamesIfAny (within sc (first_variables first)) condition
      × NamesIfAny (within sc (first_variables first)) next × StatementNames (within sc (first_variables first)) body
  StatementNames sc (switch e line is) = Names sc e × ItemsName (within sc (switch_variables is)) is
  StatementNames sc break = Unit {0}
  StatementNames sc continue = Unit {0}
  StatementNames sc (return e) = ReturnNames sc e

  pub StatementsName : Scope → Statements → Type 0
  StatementsName sc no_statements = Unit {0}
  StatementsName sc (statements s ss) = StatementNames sc s × StatementsName sc ss

  pub ItemsName : Scope → SwitchItems → Type 0
  ItemsName sc no_items = Unit {0}
  ItemsName sc (items labels s is) = StatementNames sc s × ItemsName sc is

-- programs

-- what all functions of a program have in common
pub record ProgramNames : Type 0 where
  pub statics : List Kind
  pub functions : List Signature
  pub types : List Signature

abbrev pub scope_of : ProgramNames → Function → Scope
scope_of u f = record {
  statics = u.statics;
  all = all_of f;
  variables = f.parameters ++ body_variables f;
  functions = u.functions;
  types = u.types;
  result = (signature_in u.types f.type_number).result;
}

abbrev pub kinds_in : List Variable → List Kind
kinds_in vs = map (λ v. v.kind) vs

pub record FunctionNames (u : ProgramNames) (f : Function) : Type 0 where
  pub body : StatementsName (scope_of u f) f.body
  pub parameters : kinds_in f.parameters ≡ (signature_in u.types f.type_number).parameters

abbrev pub FunctionsName : ProgramNames → List Function → Type 0
FunctionsName u [] = Unit {0}
FunctionsName u (f ∷ fs) = FunctionNames u f × FunctionsName u fs

abbrev pub file_scope : ProgramNames → Scope
file_scope u = record
    { statics = u.statics; all = []; variables = []; functions = u.functions; types = u.types; result = Void }

-- initializers of static objects that name no variables
abbrev pub StaticsName : Scope → List StaticObject → Type 0
StaticsName sc [] = Unit {0}
StaticsName sc (o ∷ os) = (name_variables o.parts ≡ false → PartsName sc (size_of_kind o.kind) o.parts)
    × StaticsName sc os

-- of each function by its type
abbrev pub function_signatures : List Signature → List Function → List Signature
function_signatures types fs = map (λ f. signature_in types f.type_number) fs

abbrev pub names_of : Program → ProgramNames
names_of p = record {
  statics = map (λ o. o.kind) p.statics;
  functions = function_signatures (signatures_of p)
      p.functions;
  types = signatures_of p;
}

-- a program names what is there
pub record NamesObjects (p : Program) : Type 0 where
  pub statics : StaticsName (file_scope (names_of p)) p.statics
  pub functions : FunctionsName (names_of p) p.functions
  pub main : (signature_in (names_of p).functions p.main).parameters ≡ []
