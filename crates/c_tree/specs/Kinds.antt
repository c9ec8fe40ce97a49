-- Kinds of values, and what operators and library routines take and give (C99 6.5, 7.19 to 7.21).
use Rattle.std.specs.Prelude.{ℕ, ◌+◌, ◌^◌, Bool, true, false, ◌&&◌, ◌||◌, ◌==◌, nat_le, List, [], ◌∷◌}
use Rattle.obj_memory.specs.declared.int_type.IntType.{IntType}
use Rattle.obj_memory.specs.declared.int_type.IntType.TheVariants.{Char, SignedChar, UnsignedChar, Short, UnsignedShort}
use Rattle.obj_memory.specs.declared.int_type.IntType.TheVariants.{Int, UnsignedInt, Long, UnsignedLong, LongLong}
use Rattle.obj_memory.specs.declared.int_type.IntType.TheVariants.{UnsignedLongLong}
use Rattle.obj_memory.specs.declared.operator.BinaryOperator.{BinaryOperator}
use Rattle.obj_memory.specs.declared.operator.BinaryOperator.TheVariants.{Add, Subtract, Multiply, Divide, Remainder}
use Rattle.obj_memory.specs.declared.operator.BinaryOperator.TheVariants.{ShiftLeft, ShiftRight, BitAnd, BitXor, BitOr}
use Rattle.obj_memory.specs.declared.operator.BinaryOperator.TheVariants.{Less, Greater, LessOrEqual, GreaterOrEqual}
use Rattle.obj_memory.specs.declared.operator.BinaryOperator.TheVariants.{Equal, NotEqual}
use Rattle.obj_memory.specs.declared.value.Scalar.TheVariants.{Integer, Pointer}
use Rattle.obj_memory.specs.Integers.{rank}
use Rattle.obj_memory.specs.Access.{scalar_size}
use Rattle.c_tree.specs.declared.expression.Kind.{Kind}
use Rattle.c_tree.specs.declared.expression.Kind.TheVariants as kind
use Rattle.c_tree.specs.declared.expression.Routine.{Routine}
use Rattle.c_tree.specs.declared.expression.Routine.TheVariants.{Malloc, Calloc, Free, Realloc, Memcpy, Memmove, Memset}
use Rattle.c_tree.specs.declared.expression.Routine.TheVariants.{Memcmp, Strlen, Strcmp, Strcpy, Strncpy, Strcat}
use Rattle.c_tree.specs.declared.expression.Routine.TheVariants.{Strchr, Putchar, Getchar, Puts, Exit, Abort}
use Rattle.c_tree.specs.declared.expression.OffsetForm.{OffsetForm}
use Rattle.c_tree.specs.declared.expression.OffsetForm.TheVariants.{PointerPlusIndex, IndexPlusPointer}
use Rattle.c_tree.specs.declared.expression.OffsetForm.TheVariants.{PointerMinusIndex}
use Rattle.c_tree.specs.declared.format.Directive.{Directive}
use Rattle.c_tree.specs.declared.format.Directive.TheVariants as directive

abbrev pub integer : IntType → Kind
integer t = kind.Scalar (Integer t)

abbrev pub pointer : Kind
pointer = kind.Scalar Pointer

-- which integer type it is, for comparing them
abbrev pub int_number : IntType → ℕ
int_number Char = 0
int_number SignedChar = 1
int_number UnsignedChar = 2
int_number Short = 3
int_number UnsignedShort = 4
int_number Int = 5
int_number UnsignedInt = 6
int_number Long = 7
int_number UnsignedLong = 8
int_number LongLong = 9
int_number UnsignedLongLong = 10

abbrev pub is_int_type : IntType → IntType → Bool
is_int_type s t = int_number s == int_number t

abbrev pub is_kind : Kind → Kind → Bool
is_kind kind.Void kind.Void = true
is_kind (kind.Scalar (Integer s)) (kind.Scalar (Integer t)) = is_int_type s t
is_kind (kind.Scalar Pointer) (kind.Scalar Pointer) = true
is_kind (kind.Structure m) (kind.Structure n) = m == n
is_kind (kind.Array m) (kind.Array n) = m == n
is_kind _ _ = false

abbrev pub are_kinds : List Kind → List Kind → Bool
are_kinds [] [] = true
are_kinds (k ∷ ks) (l ∷ ls) = is_kind k l && are_kinds ks ls
are_kinds _ _ = false

-- the bytes of an object of a kind
abbrev pub size_of_kind : Kind → ℕ
size_of_kind kind.Void = 0
size_of_kind (kind.Scalar s) = scalar_size s
size_of_kind (kind.Structure size) = size
size_of_kind (kind.Array size) = size

-- an object, a member and an element have from 1 to 2^32 bytes
abbrev pub is_size : ℕ → Bool
is_size n = nat_le 1 n && nat_le n (2 ^ 32)

abbrev pub has_size : Kind → Bool
has_size k = is_size (size_of_kind k)

abbrev pub is_integer : Kind → Bool
is_integer (kind.Scalar (Integer t)) = true
is_integer _ = false

abbrev pub is_promoted_type : IntType → Bool
is_promoted_type t = nat_le 3 (rank t)

-- an integer of a type that promotion keeps (6.3.1.1)
abbrev pub is_promoted : Kind → Bool
is_promoted (kind.Scalar (Integer t)) = is_promoted_type t
is_promoted _ = false

abbrev pub is_scalar : Kind → Bool
is_scalar (kind.Scalar s) = true
is_scalar _ = false

-- what an expression may give as a value that is assigned: a scalar, a structure or a union
abbrev pub is_value : Kind → Bool
is_value (kind.Scalar s) = true
is_value (kind.Structure size) = true
is_value _ = false

abbrev pub is_array : Kind → Bool
is_array (kind.Array size) = true
is_array _ = false

-- whether a member of so many bytes lies in a structure or union
abbrev pub has_member : Kind → (offset size : ℕ) → Bool
has_member (kind.Structure whole) offset size = nat_le (offset + size) whole
has_member _ offset size = false

pub data OperatorClass : Type 0 where
  Arithmetic : OperatorClass
  Shift : OperatorClass
  Comparison : OperatorClass

abbrev pub class_of : BinaryOperator → OperatorClass
class_of Add = Arithmetic
class_of Subtract = Arithmetic
class_of Multiply = Arithmetic
class_of Divide = Arithmetic
class_of Remainder = Arithmetic
class_of ShiftLeft = Shift
class_of ShiftRight = Shift
class_of BitAnd = Arithmetic
class_of BitXor = Arithmetic
class_of BitOr = Arithmetic
class_of Less = Comparison
class_of Greater = Comparison
class_of LessOrEqual = Comparison
class_of GreaterOrEqual = Comparison
class_of Equal = Comparison
class_of NotEqual = Comparison

-- `+` and `-`, by which `++` and `--` step (6.5.2.4, 6.5.3.1)
abbrev pub is_step_operator : BinaryOperator → Bool
is_step_operator Add = true
is_step_operator Subtract = true
is_step_operator op = false

-- operands of two kinds and a result of a third, of an operator (6.5.5 to 6.5.12)
abbrev pub are_operands : OperatorClass → (left right result : Kind) → Bool
are_operands Arithmetic left right result = is_promoted left && is_kind left right && is_kind result left
are_operands Shift left right result = is_promoted left && is_promoted right && is_kind result left
are_operands Comparison left right result =
    (is_promoted left || is_kind left pointer) && is_kind left right && is_kind result (integer Int)

-- a pointer and an integer in the order of their form (6.5.6)
abbrev pub are_offset : OffsetForm → (left right : Kind) → Bool
are_offset PointerPlusIndex left right = is_kind left pointer && is_integer right
are_offset IndexPlusPointer left right = is_integer left && is_kind right pointer
are_offset PointerMinusIndex left right = is_kind left pointer && is_integer right

abbrev pub is_minus : OffsetForm → Bool
is_minus PointerPlusIndex = false
is_minus IndexPlusPointer = false
is_minus PointerMinusIndex = true

-- what a function takes and gives
pub record Signature : Type 0 where
  pub parameters : List Kind
  pub result : Kind

abbrev pub routine_signature : Routine → Signature
routine_signature Malloc = record { parameters = integer UnsignedLong ∷ []; result = pointer }
routine_signature Calloc = record { parameters = integer UnsignedLong ∷ integer UnsignedLong ∷ []; result = pointer }
routine_signature Free = record { parameters = pointer ∷ []; result = kind.Void }
routine_signature Realloc = record { parameters = pointer ∷ integer UnsignedLong ∷ []; result = pointer }
routine_signature Memcpy = record { parameters = pointer ∷ pointer ∷ integer UnsignedLong ∷ []; result = pointer }
routine_signature Memmove = record { parameters = pointer ∷ pointer ∷ integer UnsignedLong ∷ []; result = pointer }
routine_signature Memset = record { parameters = pointer ∷ integer Int ∷ integer UnsignedLong ∷ []; result = pointer }
routine_signature Memcmp = record { parameters = pointer ∷ pointer ∷ integer UnsignedLong ∷ []; result = integer Int }
routine_signature Strlen = record { parameters = pointer ∷ []; result = integer UnsignedLong }
routine_signature Strcmp = record { parameters = pointer ∷ pointer ∷ []; result = integer Int }
routine_signature Strcpy = record { parameters = pointer ∷ pointer ∷ []; result = pointer }
routine_signature Strncpy = record { parameters = pointer ∷ pointer ∷ integer UnsignedLong ∷ []; result = pointer }
routine_signature Strcat = record { parameters = pointer ∷ pointer ∷ []; result = pointer }
routine_signature Strchr = record { parameters = pointer ∷ integer Int ∷ []; result = pointer }
routine_signature Putchar = record { parameters = integer Int ∷ []; result = integer Int }
routine_signature Getchar = record { parameters = []; result = integer Int }
routine_signature Puts = record { parameters = pointer ∷ []; result = integer Int }
routine_signature Exit = record { parameters = integer Int ∷ []; result = kind.Void }
routine_signature Abort = record { parameters = []; result = kind.Void }

-- whether an argument of printf, promoted, fits its directive (7.19.6.1)
abbrev pub fits_directive : Directive → Kind → Bool
fits_directive directive.Int k = is_kind k (integer Int) || is_kind k (integer UnsignedInt)
fits_directive directive.UnsignedInt k = is_kind k (integer Int) || is_kind k (integer UnsignedInt)
fits_directive directive.Hexadecimal k = is_kind k (integer Int) || is_kind k (integer UnsignedInt)
fits_directive directive.Character k = is_kind k (integer Int) || is_kind k (integer UnsignedInt)
fits_directive directive.Long k = is_integer k && size_of_kind k == 8
fits_directive directive.UnsignedLong k = is_integer k && size_of_kind k == 8
fits_directive directive.String k = is_kind k pointer

abbrev pub fit_directives : List Directive → List Kind → Bool
fit_directives [] [] = true
fit_directives (d ∷ ds) (k ∷ ks) = fits_directive d k && fit_directives ds ks
fit_directives _ _ = false
