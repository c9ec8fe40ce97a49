-- What makes a program valid, each rule both ways: a program that breaks just this rule, and beside it one that keeps
-- it.
use Rattle.std.proofs.Common.{◌≡◌, ℕ, ◌∷◌, [], ◌^◌, ◌+◌, ◌-◌, Some, None, refl, true, false}
use Rattle.c_tree.specs.Programs.{Program}
use Rattle.c_tree.specs.Statements.{Statement, expression_statement, declaration, if_then, empty, return, while_do}
use Rattle.c_tree.specs.Tree.{automatic, static}
use Rattle.c_tree.specs.ValidProgram.{is_valid_program}
use Rattle.c_tree.specs.declared.c_type.TypeWord.TheVariants.{Takes, Gives, Integer as IntegerWord}
use Rattle.c_tree.specs.declared.expression.Kind.TheVariants.{Structure, Array}
use Rattle.c_tree.specs.declared.expression.Fixity.TheVariants.{Postfix}
use Rattle.c_tree.specs.declared.expression.Update.TheVariants.{Arithmetic}
use Rattle.obj_memory.specs.declared.int_type.IntType.TheVariants.{Int, Long}
use Rattle.obj_memory.specs.declared.operator.BinaryOperator.{BinaryOperator}
use Rattle.obj_memory.specs.declared.operator.BinaryOperator.TheVariants.{Add, Multiply}
use Rattle.c_tree.specs.declared.expression.OffsetForm.TheVariants.{PointerPlusIndex}
use Rattle.c_tree.specs.declared.expression.Kind.{Kind}
use Rattle.c_tree.specs.declared.program.Variable.{Variable}
use Rattle.c_tree.specs.Programs.{StaticObject, FunctionType}
use Rattle.c_tree.specs.Tree.{Expression}
use Rattle.source_meaning_rows.proofs.Samples.{computing, none, one, two, int, integer_kind, pointer, number, cast}
use Rattle.source_meaning_rows.proofs.Samples.{convert, function, address, read, lvalue, member, arrow, offset}
use Rattle.source_meaning_rows.proofs.Samples.{step_plain, plain_variable, object_variable, without_value, content}
use Rattle.source_meaning_rows.proofs.Samples.{part, static_object, static_within, main_alone, main_type, function_type}
use Rattle.source_meaning_rows.proofs.Samples.{defined, program_of}

-- `int main(void){E;return 0;}`
main_of : Expression → Program
main_of e = main_alone none none 168 (two (expression_statement e) (return (Some (number 1 0))))

-- A converted value is converted no more (the two conversions are one).

twice_converted : is_valid_program (main_of (convert int (convert (integer_kind Long) (number 1 1)))) ≡ false
unfolding main_of computing
twice_converted = refl

converted_from_a_cast : is_valid_program (main_of (convert int (cast 1 (integer_kind Long) (number 1 1)))) ≡ true
unfolding main_of computing
converted_from_a_cast = refl

-- An object has from 1 to 2^32 bytes.

object_of : Kind → Program
object_of kind = main_alone none (one (object_variable kind)) 208
    (two (declaration (one (without_value 0))) (return (Some (number 1 0))))

object_of_no_bytes : is_valid_program (object_of (Array 0)) ≡ false
unfolding object_of computing
object_of_no_bytes = refl

object_of_one_byte : is_valid_program (object_of (Array 1)) ≡ true
unfolding object_of computing
object_of_one_byte = refl

object_of_most_bytes : is_valid_program (object_of (Array (2 ^ 32))) ≡ true
unfolding object_of computing
object_of_most_bytes = refl

object_of_more_bytes : is_valid_program (object_of (Array (2 ^ 32 + 1))) ≡ false
unfolding object_of computing
object_of_more_bytes = refl

-- A member has at least one byte, too.

member_of : Kind → Program
member_of kind = main_alone (one (static_object (Structure 8) none)) none 168
    (two (expression_statement (address 1 (member 1 kind 0 (lvalue 1 (Structure 8) (static 0)))))
    (return (Some (number 1 0))))

member_of_no_bytes : is_valid_program (member_of (Array 0)) ≡ false
unfolding member_of computing
member_of_no_bytes = refl

member_of_one_byte : is_valid_program (member_of (Array 1)) ≡ true
unfolding member_of computing
member_of_one_byte = refl

-- Behind a pointer it has at most 2^32, with the bytes before it.

member_behind : Kind → (at : ℕ) → Program
member_behind kind at = main_of (address 1 (arrow 1 kind at (cast 1 pointer (number 1 0))))

member_of_most_bytes : is_valid_program (member_behind (Array (2 ^ 32 - 8)) 8) ≡ true
unfolding member_behind main_of computing
member_of_most_bytes = refl

member_of_more_bytes : is_valid_program (member_behind (Array (2 ^ 32 - 7)) 8) ≡ false
unfolding member_behind main_of computing
member_of_more_bytes = refl

-- So has an element, by which a pointer is moved.

moved_by : Expression → (size : ℕ) → Program
moved_by index size = main_alone none none 208
    (two (expression_statement (offset 1 PointerPlusIndex size (cast 1 pointer (number 1 0)) index))
    (return (Some (number 1 0))))

element_of_no_bytes : is_valid_program (moved_by (number 1 1) 0) ≡ false
unfolding moved_by computing
element_of_no_bytes = refl

element_of_one_byte : is_valid_program (moved_by (number 1 1) 1) ≡ true
unfolding moved_by computing
element_of_one_byte = refl

element_of_most_bytes : is_valid_program (moved_by (number 1 1) (2 ^ 32)) ≡ true
unfolding moved_by computing
element_of_most_bytes = refl

element_of_more_bytes : is_valid_program (moved_by (number 1 1) (2 ^ 32 + 1)) ≡ false
unfolding moved_by computing
element_of_more_bytes = refl

-- An index counts as it stands, also where it has another type: it is not converted.

converted_index : is_valid_program (moved_by (convert (integer_kind Long) (number 1 1)) 1) ≡ false
unfolding moved_by computing
converted_index = refl

cast_index : is_valid_program (moved_by (cast 1 (integer_kind Long) (number 1 1)) 1) ≡ true
unfolding moved_by computing
cast_index = refl

-- A constant is a word of its type.

greatest_int : is_valid_program (main_of (number 1 (2 ^ 31 - 1))) ≡ true
unfolding main_of computing
greatest_int = refl

above_int : is_valid_program (main_of (number 1 (2 ^ 31))) ≡ false
unfolding main_of computing
above_int = refl

-- A variable that is no object is a scalar.

plain_of : Kind → Program
plain_of kind = main_alone none (one (plain_variable kind)) 208
    (two (declaration (one (without_value 0))) (return (Some (number 1 0))))

plain_structure : is_valid_program (plain_of (Structure 8)) ≡ false
unfolding plain_of computing
plain_structure = refl

plain_pointer : is_valid_program (plain_of pointer) ≡ true
unfolding plain_of computing
plain_pointer = refl

-- A declaration is no body of a branch or loop.

body_of : Statement → Program
body_of s = main_alone none none 168 (two (if_then (number 1 1) s) (return (Some (number 1 0))))

declared_in_a_branch : is_valid_program (body_of (declaration none)) ≡ false
unfolding body_of computing
declared_in_a_branch = refl

empty_in_a_branch : is_valid_program (body_of empty) ≡ true
unfolding body_of computing
empty_in_a_branch = refl

declared_in_a_loop : is_valid_program
    (main_alone none none 168 (two (while_do (number 1 0) (declaration none)) (return (Some (number 1 0))))) ≡ false
unfolding computing
declared_in_a_loop = refl

empty_in_a_loop : is_valid_program
    (main_alone none none 168 (two (while_do (number 1 0) empty) (return (Some (number 1 0))))) ≡ true
unfolding computing
empty_in_a_loop = refl

-- Each variable is declared once, in the order of the numbers.

declared_by : Statement → Program
declared_by s = main_alone none (two (plain_variable int) (plain_variable int)) 248 (two s (return (Some (number 1 0))))

declared_in_order : is_valid_program (declared_by (declaration (two (without_value 0) (without_value 1)))) ≡ true
unfolding declared_by computing
declared_in_order = refl

declared_out_of_order : is_valid_program (declared_by (declaration (two (without_value 1) (without_value 0)))) ≡ false
unfolding declared_by computing
declared_out_of_order = refl

one_not_declared : is_valid_program (declared_by (declaration (one (without_value 0)))) ≡ false
unfolding declared_by computing
one_not_declared = refl

-- Function types differ, and each agrees with the kinds of its parameters and result.

types_of : FunctionType → Program
types_of t = program_of none (two main_type t) (one (defined 1 0 none none 168 (one (return (Some (number 1 0)))))) 0

two_equal_types : is_valid_program (types_of main_type) ≡ false
unfolding types_of computing
two_equal_types = refl

two_types : is_valid_program
    (types_of (function_type (Takes ∷ IntegerWord Int ∷ Gives ∷ IntegerWord Long ∷ []) (one int) (integer_kind Long)))
    ≡ true
unfolding types_of computing
two_types = refl

another_result : is_valid_program
    (types_of (function_type (Takes ∷ IntegerWord Int ∷ Gives ∷ IntegerWord Long ∷ []) (one int) int)) ≡ false
unfolding types_of computing
another_result = refl

another_parameter : is_valid_program
    (types_of (function_type (Takes ∷ IntegerWord Int ∷ Gives ∷ IntegerWord Long ∷ []) (one pointer)
    (integer_kind Long))) ≡ false
unfolding types_of computing
another_parameter = refl

-- `++` and `--` are updates by `+` and `-`.

stepped_by : BinaryOperator → Program
stepped_by op = main_alone none (one (plain_variable int)) 208
    (declaration (one (without_value 0))
    ∷ expression_statement (step_plain 1 int (Arithmetic op Int) Postfix 0)
    ∷ return (Some (number 1 0))
    ∷ [])

stepped_by_a_sum : is_valid_program (stepped_by Add) ≡ true
unfolding stepped_by computing
stepped_by_a_sum = refl

stepped_by_a_product : is_valid_program (stepped_by Multiply) ≡ false
unfolding stepped_by computing
stepped_by_a_product = refl

-- The name of a function is that of one of the program.

function_named : is_valid_program (main_of (function 1 0)) ≡ true
unfolding main_of computing
function_named = refl

function_not_there : is_valid_program (main_of (function 1 1)) ≡ false
unfolding main_of computing
function_not_there = refl

-- A static object in a block has the number of that function, and what its initializer names is judged there. An
-- initializer that is
-- no constant is valid: whether it is one is a question of its own.

static_of : StaticObject → Program
static_of object = main_alone (one object) (one (object_variable int)) 208
    (two (declaration (one (without_value 0))) (return (Some (number 1 0))))

within_main : is_valid_program (static_of (static_within 0 int (one (part 0 (content (number 1 1)))))) ≡ true
unfolding static_of computing
within_main = refl

within_no_function : is_valid_program (static_of (static_within 1 int (one (part 0 (content (number 1 1)))))) ≡ false
unfolding static_of computing
within_no_function = refl

names_a_variable_of_main : is_valid_program
    (static_of (static_within 0 pointer (one (part 0 (content (address 1 (lvalue 1 int (automatic 0)))))))) ≡ true
unfolding static_of computing
names_a_variable_of_main = refl

names_a_variable_outside : is_valid_program
    (static_of (static_object pointer (one (part 0 (content (address 1 (lvalue 1 int (automatic 0)))))))) ≡ false
unfolding static_of computing
names_a_variable_outside = refl
