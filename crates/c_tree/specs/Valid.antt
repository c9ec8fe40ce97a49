-- What makes an expression valid: each node has the kind that C99 6.5 gives it, and each name stands for something of
-- that kind that can be named there.
use Rattle.std.specs.Prelude.{ℕ, ◌+◌, ◌^◌, Bool, true, false, not, ◌&&◌, ◌||◌, ◌==◌, nat_lt, nat_le, List, [], length}
use Rattle.std.specs.Prelude.{Option, Some, None, get_or}
use Rattle.obj_memory.specs.declared.int_type.IntType.{IntType}
use Rattle.obj_memory.specs.declared.int_type.IntType.TheVariants.{Int, Long}
use Rattle.obj_memory.specs.declared.operator.UnaryOperator.{UnaryOperator}
use Rattle.obj_memory.specs.declared.operator.UnaryOperator.TheVariants.{Plus, Negate, Complement, Not}
use Rattle.obj_memory.specs.declared.value.Scalar.TheVariants.{Integer}
use Rattle.obj_memory.specs.Integers.{fit}
use Rattle.c_tree.specs.declared.expression.Kind.{Kind}
use Rattle.c_tree.specs.declared.expression.Kind.TheVariants as kind
use Rattle.c_tree.specs.declared.expression.OffsetForm.{OffsetForm}
use Rattle.c_tree.specs.declared.expression.OffsetForm.TheVariants.{PointerPlusIndex, IndexPlusPointer}
use Rattle.c_tree.specs.declared.expression.OffsetForm.TheVariants.{PointerMinusIndex}
use Rattle.c_tree.specs.declared.expression.Update.{Update}
use Rattle.c_tree.specs.declared.expression.Update.TheVariants as update
use Rattle.c_tree.specs.declared.program.Variable.{Variable}
use Rattle.c_tree.specs.declared.format.Piece.{Piece}
use Rattle.c_tree.specs.Tree.{Expression, expression, Expressions, no_expressions, expressions, Lvalue, lvalue, Node}
use Rattle.c_tree.specs.Tree.{constant, function, plain, read, decay, address, parenthesized, deref_function}
use Rattle.c_tree.specs.Tree.{address_function, cast, convert, unary, binary, offset_by, difference, logical_and}
use Rattle.c_tree.specs.Tree.{logical_or, comma, conditional, assign, assign_plain, compound, change_plain, step}
use Rattle.c_tree.specs.Tree.{step_plain, call, call_through, library, printf, LvalueNode, automatic, static, deref}
use Rattle.c_tree.specs.Tree.{index, member, arrow, member_of_value, parenthesized_lvalue, kind_of, lvalue_kind}
use Rattle.c_tree.specs.Tree.{kinds_of}
use Rattle.c_tree.specs.Blocks.{no_variable, opened}
use Rattle.c_tree.specs.Format.{pieces, directives}
use Rattle.c_tree.specs.Kinds.{integer, pointer, is_kind, are_kinds, size_of_kind, is_size, has_size, is_integer}
use Rattle.c_tree.specs.Kinds.{is_promoted, is_promoted_type, is_scalar, is_value, is_array, has_member}
use Rattle.c_tree.specs.Kinds.{is_step_operator, OperatorClass, Arithmetic, Shift, Comparison, class_of, are_operands}
use Rattle.c_tree.specs.Kinds.{are_offset, is_minus, Signature, routine_signature, fit_directives}

-- What names stand for in a function. Of its variables those can be named whose block is open: an object that cannot
-- has no kind.
pub record Scope : Type 0 where
  pub statics : List Kind
  pub functions : List Signature
  pub types : List Signature
  pub all : List Variable
  pub variables : List Variable
  pub result : Kind

abbrev pub at_number : List Variable → ℕ → Variable
at_number variables x = get_or variables x no_variable

-- some variables can be named too
abbrev pub within : Scope → (numbers : List ℕ) → Scope
within scope numbers = record scope { variables = opened numbers 0 scope.all scope.variables }

-- the word of a constant is one of its type
abbrev pub is_constant : ℕ → Kind → Bool
is_constant w (kind.Scalar (Integer t)) = fit t w == w
is_constant w _ = false

abbrev pub variable_at : Scope → ℕ → Variable
variable_at scope x = at_number scope.variables x

abbrev pub is_plain : Scope → ℕ → Kind → Bool
is_plain scope x k = not (variable_at scope x).is_object && is_kind (variable_at scope x).kind k && is_scalar k

-- an array or a structure may be named where its size is not known yet (6.2.5 paragraph 22): there it counts no bytes
abbrev pub is_unsized : (declared named : Kind) → Bool
is_unsized (kind.Array size) (kind.Array bytes) = bytes == 0
is_unsized (kind.Structure size) (kind.Structure bytes) = bytes == 0
is_unsized _ _ = false

abbrev pub is_named_as : (declared named : Kind) → Bool
is_named_as declared named = is_kind declared named || is_unsized declared named

abbrev pub is_static : Scope → ℕ → Kind → Bool
is_static scope n k = nat_lt n (length scope.statics) && is_named_as (get_or scope.statics n kind.Void) k

abbrev pub is_automatic : Scope → ℕ → Kind → Bool
is_automatic scope x k = (variable_at scope x).is_object && is_named_as (variable_at scope x).kind k

-- a unary operator (6.5.3.3)
abbrev pub is_operand : UnaryOperator → (operand result : Kind) → Bool
is_operand Plus k result = is_promoted k && is_kind result k
is_operand Negate k result = is_promoted k && is_kind result k
is_operand Complement k result = is_promoted k && is_kind result k
is_operand Not k result = is_scalar k && is_kind result (integer Int)

-- a conversion (6.3, 6.5.4): to void, or between scalars
abbrev pub is_conversion : (from to : Kind) → Bool
is_conversion from kind.Void = true
is_conversion from (kind.Scalar s) = is_scalar from
is_conversion from _ = false

abbrev pub is_convert : Node → Bool
is_convert (convert e) = true
is_convert n = false

abbrev pub is_converted : Expression → Bool
is_converted (expression kind line node) = is_convert node

-- the index of a pointer counts as it stands: no implicit conversion stands above it
abbrev pub is_index : OffsetForm → (left right : Expression) → Bool
is_index PointerPlusIndex left right = not (is_converted right)
is_index IndexPlusPointer left right = not (is_converted left)
is_index PointerMinusIndex left right = not (is_converted right)

-- the right operand of an operator in a compound assignment
abbrev pub is_right_of : OperatorClass → IntType → Kind → Bool
is_right_of Arithmetic t right = is_kind right (integer t)
is_right_of Shift t right = is_promoted right
is_right_of Comparison t right = false

-- an update of an object of a kind, with a right operand of a kind (6.5.16.2)
abbrev pub is_update : Update → (updated right : Kind) → Bool
is_update (update.Arithmetic op t) k right = is_integer k && is_promoted_type t && is_right_of (class_of op) t right
is_update (update.Forward size) k right = is_kind k pointer && is_integer right && is_size size
is_update (update.Back size) k right = is_kind k pointer && is_integer right && is_size size

-- an update by 1, which has the type of the operation (6.5.2.4, 6.5.3.1)
abbrev pub is_step : Update → Kind → Bool
is_step (update.Arithmetic op t) k = is_step_operator op && is_update (update.Arithmetic op t) k (integer t)
is_step (update.Forward size) k = is_update (update.Forward size) k (integer Int)
is_step (update.Back size) k = is_update (update.Back size) k (integer Int)

-- a call of something with a signature
abbrev pub is_call : Signature → List Kind → Kind → Bool
is_call s arguments result = are_kinds arguments s.parameters && is_kind result s.result

abbrev pub has_number : {A : Type 0} → List A → ℕ → Bool
has_number list n = nat_lt n (length list)

abbrev pub no_signature : Signature
no_signature = record { parameters = []; result = kind.Void }

abbrev pub are_printed : Option (List Piece) → List Kind → Bool
are_printed None arguments = false
are_printed (Some ps) arguments = fit_directives (directives ps) arguments

-- what has an address and may be assigned (6.3.2.1); a member of a structure value that is no lvalue is none either
-- (6.5.2.3 paragraph 3)
abbrev mutual
  pub is_lvalue : Lvalue → Bool
  is_lvalue (lvalue kind line node) = is_lvalue_node node

  pub is_lvalue_node : LvalueNode → Bool
  is_lvalue_node (automatic x) = true
  is_lvalue_node (static n) = true
  is_lvalue_node (deref e) = true
  is_lvalue_node (index form size a b) = true
  is_lvalue_node (member p at size) = is_lvalue p
  is_lvalue_node (arrow e at size) = true
  is_lvalue_node (member_of_value e at size) = false
  is_lvalue_node (parenthesized_lvalue p) = is_lvalue p

-- a member, by its kind and the place and size that the node has
abbrev pub is_member : Kind → (at size : ℕ) → Bool
is_member k at size = size_of_kind k == size && is_size size && nat_le (at + size) (2 ^ 32)

abbrev mutual
  pub is_valid : Scope → Expression → Bool
  is_valid scope (expression k line node) = is_node scope node k

  -- an expression of a kind
  pub is_node : Scope → Node → Kind → Bool
  is_node scope (constant w) k = is_constant w k
  is_node scope (function f) k = has_number scope.functions f && is_kind k pointer
  is_node scope (plain x) k = is_plain scope x k
  is_node scope (read p) k = is_valid_lvalue scope p && is_kind k (lvalue_kind p) && is_value k
  is_node scope (decay p) k = is_valid_lvalue scope p && is_lvalue p && is_array (lvalue_kind p) && is_kind k pointer
  is_node scope (address p) k = is_valid_lvalue scope p && is_lvalue p && is_kind k pointer
  is_node scope (parenthesized e) k = is_valid scope e && is_kind k (kind_of e)
  is_node scope (deref_function e) k = is_valid scope e && is_kind (kind_of e) pointer && is_kind k pointer
  is_node scope (address_function e) k = is_valid scope e && is_kind (kind_of e) pointer && is_kind k pointer
  is_node scope (cast e) k = is_valid scope e && is_conversion (kind_of e) k
  is_node scope (convert e) k = is_valid scope e && is_conversion (kind_of e) k && not (is_converted e)
  is_node scope (unary op e) k = is_valid scope e && is_operand op (kind_of e) k
  is_node scope (binary op a b) k = is_valid scope a && is_valid scope b
      && are_operands (class_of op) (kind_of a) (kind_of b) k
  is_node scope (offset_by form size a b) k =
      is_valid scope a && is_valid scope b && are_offset form (kind_of a) (kind_of b) && is_index form a b
      && is_size size && is_kind k pointer
  is_node scope (difference size a b) k =
      is_valid scope a && is_valid scope b && is_kind (kind_of a) pointer && is_kind (kind_of b) pointer && is_size size
      && is_kind k (integer Long)
  is_node scope (logical_and a b) k =
      is_valid scope a && is_valid scope b && is_scalar (kind_of a) && is_scalar (kind_of b) && is_kind k (integer Int)
  is_node scope (logical_or a b) k =
      is_valid scope a && is_valid scope b && is_scalar (kind_of a) && is_scalar (kind_of b) && is_kind k (integer Int)
  is_node scope (comma a b) k = is_valid scope a && is_valid scope b && is_kind k (kind_of b)
  is_node scope (conditional c a b) k =
      is_valid scope c && is_scalar (kind_of c) && is_valid scope a && is_valid scope b && is_kind k (kind_of a)
      && is_kind k (kind_of b)
  is_node scope (assign p e) k =
      is_valid_lvalue scope p && is_lvalue p && is_valid scope e && is_kind (lvalue_kind p) (kind_of e)
      && is_kind k (lvalue_kind p) && is_value k
  is_node scope (assign_plain x e) k = is_valid scope e && is_plain scope x.variable (kind_of e)
      && is_kind k (kind_of e)
  is_node scope (compound u p e) k =
      is_valid_lvalue scope p && is_lvalue p && is_valid scope e && is_update u (lvalue_kind p) (kind_of e)
      && is_kind k (lvalue_kind p)
  is_node scope (change_plain u x e) k = is_valid scope e && is_plain scope x.variable k && is_update u k (kind_of e)
  is_node scope (step u fixity p) k = is_valid_lvalue scope p && is_lvalue p && is_step u (lvalue_kind p)
      && is_kind k (lvalue_kind p)
  is_node scope (step_plain u fixity x) k = is_plain scope x.variable k && is_step u k
  is_node scope (call f es) k =
      are_valid scope es && has_number scope.functions f
      && is_call (get_or scope.functions f no_signature) (kinds_of es) k
  is_node scope (call_through type e es) k =
      is_valid scope e && is_kind (kind_of e) pointer && are_valid scope es && has_number scope.types type
      && is_call (get_or scope.types type no_signature) (kinds_of es) k
  is_node scope (library routine es) k = are_valid scope es && is_call (routine_signature routine) (kinds_of es) k
  is_node scope (printf format es) k = are_valid scope es && are_printed (pieces format) (kinds_of es)
      && is_kind k (integer Int)

  pub are_valid : Scope → Expressions → Bool
  are_valid scope no_expressions = true
  are_valid scope (expressions e es) = is_valid scope e && are_valid scope es

  pub is_valid_lvalue : Scope → Lvalue → Bool
  is_valid_lvalue scope (lvalue k line node) = is_valid_lvalue_node scope node k

  -- an lvalue that designates an object of a kind
  pub is_valid_lvalue_node : Scope → LvalueNode → Kind → Bool
  is_valid_lvalue_node scope (automatic x) k = is_automatic scope x k
  is_valid_lvalue_node scope (static n) k = is_static scope n k
  is_valid_lvalue_node scope (deref e) k = is_valid scope e && is_kind (kind_of e) pointer && has_size k
  is_valid_lvalue_node scope (index form size a b) k =
      is_valid scope a && is_valid scope b && are_offset form (kind_of a) (kind_of b) && is_index form a b
      && not (is_minus form)
      && size_of_kind k == size && is_size size
  is_valid_lvalue_node scope (member p at size) k = is_valid_lvalue scope p && has_member (lvalue_kind p) at size
      && is_member k at size
  is_valid_lvalue_node scope (arrow e at size) k = is_valid scope e && is_kind (kind_of e) pointer
      && is_member k at size
  is_valid_lvalue_node scope (member_of_value e at size) k = is_valid scope e && has_member (kind_of e) at size
      && is_member k at size
  is_valid_lvalue_node scope (parenthesized_lvalue p) k = is_valid_lvalue scope p && is_kind k (lvalue_kind p)

-- a controlling expression (6.8.4.1, 6.8.5)
abbrev pub is_condition : Scope → Expression → Bool
is_condition scope e = is_valid scope e && is_scalar (kind_of e)
