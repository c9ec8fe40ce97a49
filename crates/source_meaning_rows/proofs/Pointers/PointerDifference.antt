-- The difference of two addresses divided by the size of an element, without its fraction. The text is
-- rows/pointer_difference.c.
--     void h(unsigned long v){if(v>15)h(v>>4);putchar("0123456789abcdef"[v&15]);}
--     void p(unsigned long v){h(v);putchar(32);}
--     int a[8];int main(void){int*q=(int*)((char*)a+7);long*r=(long*)((char*)a+15);
--     p(a+5-a);p(a-(a+5));p(q-a);p(a-q);p(r-(long*)a);p((long*)a-r);p((char*)q-(char*)a);p(&a[3]-&a[1]);return 0;}
use Rattle.c_tree.specs.Programs.{Program, Function}
use Rattle.c_tree.specs.Statements.{Statement, expression_statement, declaration, return}
use Rattle.c_tree.specs.Tree as tree
use Rattle.c_tree.specs.ValidProgram.{is_valid_program}
use Rattle.c_tree.specs.declared.expression.Kind.TheVariants.{Array, Void}
use Rattle.c_tree.specs.declared.expression.OffsetForm.TheVariants.{PointerPlusIndex}
use Rattle.obj_memory.specs.declared.int_type.IntType.TheVariants.{UnsignedLong}
use Rattle.sb_base.specs.Budgets.{default_sizes}
use Rattle.source_meaning.specs.Meaning.{meaning}
use Rattle.source_meaning_rows.proofs.Hexadecimal.{hex_digits, put_digits, put_number, put_type}
use Rattle.source_meaning_rows.proofs.Samples.{address, call, cast, computing, convert, decay, defined, difference}
use Rattle.source_meaning_rows.proofs.Samples.{exited, index, int, integer_kind, lvalue, main_type, none, number}
use Rattle.source_meaning_rows.proofs.Samples.{offset, one, parenthesized, plain, plain_variable, pointer, program_of}
use Rattle.source_meaning_rows.proofs.Samples.{seen, static_object, three, two, with_value}
use Rattle.std.proofs.Common.{Some, [], refl, true, ◌∷◌, ◌≡◌}
use Rattle.std.specs.Prelude.{codes}

statement_1 : Statement
statement_1 = declaration
    (one (with_value 0 (cast 3 pointer
    (parenthesized (offset 3 PointerPlusIndex 1 (cast 3 pointer (decay (lvalue 3 (Array 32) (tree.static 1))))
    (number 3 7))))))

statement_2 : Statement
statement_2 = declaration
    (one (with_value 1 (cast 3 pointer
    (parenthesized (offset 3 PointerPlusIndex 1 (cast 3 pointer (decay (lvalue 3 (Array 32) (tree.static 1))))
    (number 3 15))))))

statement_3 : Statement
statement_3 = expression_statement (call 4 Void 1 (one (convert
    (integer_kind UnsignedLong)
    (difference 4 4
    (offset 4 PointerPlusIndex 4 (decay (lvalue 4 (Array 32) (tree.static 1))) (number 4 5))
    (decay (lvalue 4 (Array 32) (tree.static 1)))))))

statement_4 : Statement
statement_4 = expression_statement (call 4 Void 1 (one (convert
    (integer_kind UnsignedLong)
    (difference 4 4
    (decay (lvalue 4 (Array 32) (tree.static 1)))
    (parenthesized (offset 4 PointerPlusIndex 4 (decay (lvalue 4 (Array 32) (tree.static 1))) (number 4 5)))))))

statement_5 : Statement
statement_5 = expression_statement
    (call 4 Void 1 (one (convert (integer_kind UnsignedLong)
    (difference 4 4 (plain 4 pointer 0) (decay (lvalue 4 (Array 32) (tree.static 1)))))))

statement_6 : Statement
statement_6 = expression_statement
    (call 4 Void 1 (one (convert (integer_kind UnsignedLong)
    (difference 4 4 (decay (lvalue 4 (Array 32) (tree.static 1))) (plain 4 pointer 0)))))

statement_7 : Statement
statement_7 = expression_statement (call 4 Void 1 (one (convert
    (integer_kind UnsignedLong)
    (difference 4 8 (plain 4 pointer 1) (cast 4 pointer (decay (lvalue 4 (Array 32) (tree.static 1))))))))

statement_8 : Statement
statement_8 = expression_statement (call 4 Void 1 (one (convert
    (integer_kind UnsignedLong)
    (difference 4 8 (cast 4 pointer (decay (lvalue 4 (Array 32) (tree.static 1)))) (plain 4 pointer 1)))))

statement_9 : Statement
statement_9 = expression_statement (call 4 Void 1 (one (convert
    (integer_kind UnsignedLong)
    (difference 4 1 (cast 4 pointer (plain 4 pointer 0))
    (cast 4 pointer (decay (lvalue 4 (Array 32) (tree.static 1))))))))

statement_10 : Statement
statement_10 = expression_statement (call 4 Void 1 (one (convert
    (integer_kind UnsignedLong)
    (difference 4 4
    (address 4 (index 4 int (decay (lvalue 4 (Array 32) (tree.static 1))) (number 4 3)))
    (address 4 (index 4 int (decay (lvalue 4 (Array 32) (tree.static 1))) (number 4 1)))))))

function_main : Function
function_main = defined 3 0 none
    (two (plain_variable pointer) (plain_variable pointer))
    328
    (statement_1 ∷
    statement_2 ∷
    statement_3 ∷
    statement_4 ∷
    statement_5 ∷
    statement_6 ∷
    statement_7 ∷
    statement_8 ∷
    statement_9 ∷
    statement_10 ∷
    return (Some (number 4 0)) ∷ [])

program : Program
program = program_of (two hex_digits (static_object (Array 32) none)) (two main_type put_type)
    (three put_digits put_number function_main) 2

run : seen (meaning program default_sizes [] 300) ≡
    exited (codes "5 fffffffffffffffb 1 ffffffffffffffff 1 ffffffffffffffff 7 2 ") 0
unfolding program put_digits put_number function_main statement_1 statement_2 statement_3 statement_4 statement_5
    statement_6 statement_7 statement_8 statement_9 statement_10 hex_digits put_type computing
run = refl

valid : is_valid_program program ≡ true
unfolding program put_digits put_number function_main statement_1 statement_2 statement_3 statement_4 statement_5
    statement_6 statement_7 statement_8 statement_9 statement_10 hex_digits put_type computing
valid = refl
