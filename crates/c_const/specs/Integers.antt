-- Integer constant expressions (C99 6.6 paragraph 6), over typed trees: the name of an enumeration constant and
-- `sizeof` with its operand are constants there, and each conversion is a node.
use Rattle.std.specs.Prelude.{ℕ, Bool, true, false, ◌&&◌, ◌==◌, if◌then◌else◌, Option, Some, None, option_map, ℤ, pos}
use Rattle.obj_memory.specs.declared.int_type.IntType.{IntType}
use Rattle.obj_memory.specs.declared.int_type.IntType.TheVariants.{UnsignedLong}
use Rattle.obj_memory.specs.declared.value.Scalar.TheVariants.{Integer}
use Rattle.obj_memory.specs.Integers.{fit, is_signed}
use Rattle.obj_memory.specs.Operators.{unary_value, binary_value}
use Rattle.words.specs.TwosComplement.{signed}
use Rattle.c_tree.specs.declared.expression.Kind.{Kind}
use Rattle.c_tree.specs.declared.expression.Kind.TheVariants as kind
use Rattle.c_tree.specs.Kinds.{is_integer}
use Rattle.c_tree.specs.Tree.{Expression, expression, Node, constant, parenthesized, cast, convert, unary, binary}
use Rattle.c_tree.specs.Tree.{logical_and, logical_or, conditional, kind_of}

-- the type at which an operator sees an operand
abbrev pub type_of : Kind → IntType
type_of (kind.Scalar (Integer t)) = t
type_of _ = UnsignedLong

-- Whether an expression has the form of one: constants under casts and conversions to integer types, parentheses, and
-- the arithmetic, comparing, logical and conditional operators, all of integers. Operands that are not evaluated have
-- to have the form too.
abbrev mutual
  pub has_form : Expression → Bool
  has_form (expression kind line node) = is_integer kind && node_has_form node

  pub node_has_form : Node → Bool
  node_has_form (constant w) = true
  node_has_form (parenthesized e) = has_form e
  node_has_form (cast e) = has_form e
  node_has_form (convert e) = has_form e
  node_has_form (unary op e) = has_form e
  node_has_form (binary op a b) = has_form a && has_form b
  node_has_form (logical_and a b) = has_form a && has_form b
  node_has_form (logical_or a b) = has_form a && has_form b
  node_has_form (conditional c a b) = has_form c && (has_form a && has_form b)
  node_has_form _ = false

-- what follows from a value, where there is one
abbrev pub with_value : (value : Option ℕ) → (ℕ → Option ℕ) → Option ℕ
with_value None next = None
with_value (Some w) next = next w

-- a value as one that is true or false (6.5.13, 6.5.14)
abbrev pub truth : Option ℕ → Option ℕ
truth None = None
truth (Some w) = Some (if w == 0 then 0 else 1)

-- The word of an expression of that form, by the operators of its types, or none where an operand that is evaluated
-- divides by zero. It is that of the values of its operands, from left to right, those alone that are evaluated.
abbrev mutual
  pub value_of : Expression → Option ℕ
  value_of (expression kind line node) = node_value kind node

  pub node_value : Kind → Node → Option ℕ
  node_value kind (constant w) = Some w
  node_value kind (parenthesized e) = value_of e
  node_value kind (cast e) = option_map (fit (type_of kind)) (value_of e)
  node_value kind (convert e) = option_map (fit (type_of kind)) (value_of e)
  node_value kind (unary op e) = option_map (unary_value op (type_of (kind_of e))) (value_of e)
  node_value kind (binary op a b) =
      with_value (value_of a) (λ x. with_value (value_of b) (binary_value op (type_of (kind_of a)) x))
  node_value kind (logical_and a b) = with_value (value_of a) (λ x. if x == 0 then Some 0 else truth (value_of b))
  node_value kind (logical_or a b) = with_value (value_of a) (λ x. if x == 0 then truth (value_of b) else Some 1)
  node_value kind (conditional c a b) = with_value (value_of c) (λ x. if x == 0 then value_of b else value_of a)
  node_value kind _ = None

-- the word of an integer constant expression
unfoldable pub constant_word : Expression → Option ℕ
constant_word e = if has_form e then value_of e else None

-- the integer that a word of a type stands for
unfoldable pub integer_of : IntType → (word : ℕ) → ℤ
integer_of t w = if is_signed t then signed 64 w else pos w

-- the value of an integer constant expression in its type
unfoldable pub constant_of : Expression → Option ℤ
constant_of e = option_map (integer_of (type_of (kind_of e))) (constant_word e)
