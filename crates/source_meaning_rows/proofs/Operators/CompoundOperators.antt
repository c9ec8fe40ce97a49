-- Each compound operator, on plain variables, objects and through a pointer. The text is rows/compound_operators.c; gcc
-- 12.2.0 gives the same output and status.
--     void h(unsigned long v){if(v>15)h(v>>4);putchar("0123456789abcdef"[v&15]);}
--     void p(unsigned long v){h(v);putchar(32);}
--     int main(void){int i=100;unsigned u=7;long l=-5;char c=200;int a[1]={-100};long*q=&l;
--     p(i+=5);p(i-=200);p(i*=3);p(i/=4);p(i%=7);p(i<<=4);p(i>>=2);p(i&=0xff);p(i|=0x100);p(i^=0x1ff);
--     p(u-=8);p(u/=2);p(u*=l);p(c+=100);p(c*=c);p(c>>=1);p(c-=1000);
--     p(a[0]/=7);p(a[0]%=4);p(a[0]<<=u);p(*q*=c);p(*q>>=1);p((*q)^=l);p(i+=l+=3);return 0;}
use Rattle.c_tree.specs.Programs.{Program, Function}
use Rattle.c_tree.specs.Statements.{Statement, expression_statement, declaration, return}
use Rattle.c_tree.specs.Tree as tree
use Rattle.c_tree.specs.ValidProgram.{is_valid_program}
use Rattle.c_tree.specs.declared.expression.Kind.TheVariants.{Array, Void}
use Rattle.c_tree.specs.declared.expression.Update.TheVariants.{Arithmetic}
use Rattle.obj_memory.specs.declared.int_type.IntType.TheVariants.{Char, Int, Long, UnsignedInt, UnsignedLong}
use Rattle.obj_memory.specs.declared.operator.BinaryOperator.TheVariants.{Add, BitAnd, BitOr, BitXor, Divide, Multiply}
use Rattle.obj_memory.specs.declared.operator.BinaryOperator.TheVariants.{Remainder, ShiftLeft, ShiftRight, Subtract}
use Rattle.obj_memory.specs.declared.operator.UnaryOperator.TheVariants.{Negate}
use Rattle.sb_base.specs.Budgets.{default_sizes}
use Rattle.source_meaning.specs.Meaning.{meaning}
use Rattle.source_meaning_rows.proofs.Hexadecimal.{hex_digits, put_digits, put_number, put_type}
use Rattle.source_meaning_rows.proofs.Samples.{address, call, change_plain, compound, computing, content, convert}
use Rattle.source_meaning_rows.proofs.Samples.{decay, defined, deref, exited, index, int, integer_kind, lvalue}
use Rattle.source_meaning_rows.proofs.Samples.{main_type, none, number, object_variable, one, parenthesized_lvalue}
use Rattle.source_meaning_rows.proofs.Samples.{part, plain, plain_variable, pointer, program_of, read, seen, six, three}
use Rattle.source_meaning_rows.proofs.Samples.{two, unary, with_parts, with_value}
use Rattle.std.proofs.Common.{Some, [], refl, true, ◌∷◌, ◌++◌, ◌≡◌}
use Rattle.std.specs.Prelude.{codes}

statement_1 : Statement
statement_1 = declaration
    (one (with_parts 2 (one (part 0 (content (convert (integer_kind Long) (unary 3 Negate (number 3 5))))))))

statement_2 : Statement
statement_2 = expression_statement
    (call 4 Void 1 (one (convert (integer_kind UnsignedLong) (change_plain 4 int (Arithmetic Add Int) 0 (number 4 5)))))

statement_3 : Statement
statement_3 = expression_statement
    (call 4 Void 1 (one (convert (integer_kind UnsignedLong)
    (change_plain 4 int (Arithmetic Subtract Int) 0 (number 4 200)))))

statement_4 : Statement
statement_4 = expression_statement
    (call 4 Void 1 (one (convert (integer_kind UnsignedLong)
    (change_plain 4 int (Arithmetic Multiply Int) 0 (number 4 3)))))

statement_5 : Statement
statement_5 = expression_statement
    (call 4 Void 1 (one (convert (integer_kind UnsignedLong)
    (change_plain 4 int (Arithmetic Divide Int) 0 (number 4 4)))))

statement_6 : Statement
statement_6 = expression_statement
    (call 4 Void 1 (one (convert (integer_kind UnsignedLong)
    (change_plain 4 int (Arithmetic Remainder Int) 0 (number 4 7)))))

statement_7 : Statement
statement_7 = expression_statement
    (call 4 Void 1 (one (convert (integer_kind UnsignedLong)
    (change_plain 4 int (Arithmetic ShiftLeft Int) 0 (number 4 4)))))

statement_8 : Statement
statement_8 = expression_statement
    (call 4 Void 1 (one (convert (integer_kind UnsignedLong)
    (change_plain 4 int (Arithmetic ShiftRight Int) 0 (number 4 2)))))

statement_9 : Statement
statement_9 = expression_statement
    (call 4 Void 1 (one (convert (integer_kind UnsignedLong)
    (change_plain 4 int (Arithmetic BitAnd Int) 0 (number 4 255)))))

statement_10 : Statement
statement_10 = expression_statement
    (call 4 Void 1 (one (convert (integer_kind UnsignedLong)
    (change_plain 4 int (Arithmetic BitOr Int) 0 (number 4 256)))))

statement_11 : Statement
statement_11 = expression_statement
    (call 4 Void 1 (one (convert (integer_kind UnsignedLong)
    (change_plain 4 int (Arithmetic BitXor Int) 0 (number 4 511)))))

statement_12 : Statement
statement_12 = expression_statement (call 5 Void 1 (one (convert
    (integer_kind UnsignedLong)
    (change_plain 5
    (integer_kind UnsignedInt)
    (Arithmetic Subtract UnsignedInt)
    1
    (convert (integer_kind UnsignedInt) (number 5 8))))))

statement_13 : Statement
statement_13 = expression_statement (call 5 Void 1 (one (convert
    (integer_kind UnsignedLong)
    (change_plain 5
    (integer_kind UnsignedInt)
    (Arithmetic Divide UnsignedInt)
    1
    (convert (integer_kind UnsignedInt) (number 5 2))))))

statement_14 : Statement
statement_14 = expression_statement (call 5 Void 1 (one (convert
    (integer_kind UnsignedLong)
    (change_plain 5
    (integer_kind UnsignedInt)
    (Arithmetic Multiply Long)
    1
    (read (lvalue 5 (integer_kind Long) (tree.automatic 2)))))))

statement_15 : Statement
statement_15 = expression_statement
    (call 5 Void 1 (one (convert (integer_kind UnsignedLong)
    (change_plain 5 (integer_kind Char) (Arithmetic Add Int) 3 (number 5 100)))))

statement_16 : Statement
statement_16 = expression_statement (call 5 Void 1 (one (convert
    (integer_kind UnsignedLong)
    (change_plain 5 (integer_kind Char) (Arithmetic Multiply Int) 3 (convert int (plain 5 (integer_kind Char) 3))))))

statement_17 : Statement
statement_17 = expression_statement
    (call 5 Void 1 (one (convert (integer_kind UnsignedLong)
    (change_plain 5 (integer_kind Char) (Arithmetic ShiftRight Int) 3 (number 5 1)))))

statement_18 : Statement
statement_18 = expression_statement
    (call 5 Void 1 (one (convert (integer_kind UnsignedLong)
    (change_plain 5 (integer_kind Char) (Arithmetic Subtract Int) 3 (number 5 1000)))))

statement_19 : Statement
statement_19 = expression_statement (call 6 Void 1 (one (convert
    (integer_kind UnsignedLong)
    (compound 6 (Arithmetic Divide Int) (index 6 int (decay (lvalue 6 (Array 4) (tree.automatic 4))) (number 6 0))
    (number 6 7)))))

statement_20 : Statement
statement_20 = expression_statement (call 6 Void 1 (one (convert
    (integer_kind UnsignedLong)
    (compound 6 (Arithmetic Remainder Int) (index 6 int (decay (lvalue 6 (Array 4) (tree.automatic 4))) (number 6 0))
    (number 6 4)))))

statement_21 : Statement
statement_21 = expression_statement (call 6 Void 1 (one (convert
    (integer_kind UnsignedLong)
    (compound 6
    (Arithmetic ShiftLeft Int)
    (index 6 int (decay (lvalue 6 (Array 4) (tree.automatic 4))) (number 6 0))
    (plain 6 (integer_kind UnsignedInt) 1)))))

statement_22 : Statement
statement_22 = expression_statement (call 6 Void 1 (one (convert
    (integer_kind UnsignedLong)
    (compound 6
    (Arithmetic Multiply Long)
    (deref 6 (integer_kind Long) (plain 6 pointer 5))
    (convert (integer_kind Long) (plain 6 (integer_kind Char) 3))))))

statement_23 : Statement
statement_23 = expression_statement (call 6 Void 1 (one (convert
    (integer_kind UnsignedLong)
    (compound 6 (Arithmetic ShiftRight Long) (deref 6 (integer_kind Long) (plain 6 pointer 5)) (number 6 1)))))

statement_24 : Statement
statement_24 = expression_statement (call 6 Void 1 (one (convert
    (integer_kind UnsignedLong)
    (compound 6 (Arithmetic BitXor Long)
    (parenthesized_lvalue (deref 6 (integer_kind Long) (plain 6 pointer 5)))
    (read (lvalue 6 (integer_kind Long) (tree.automatic 2)))))))

statement_25 : Statement
statement_25 = expression_statement (call 6 Void 1 (one (convert
    (integer_kind UnsignedLong)
    (change_plain 6 int (Arithmetic Add Long) 0
    (compound 6 (Arithmetic Add Long) (lvalue 6 (integer_kind Long) (tree.automatic 2))
    (convert (integer_kind Long) (number 6 3)))))))

function_main : Function
function_main = defined 3 0 none
    (six (plain_variable int)
    (plain_variable (integer_kind UnsignedInt))
    (object_variable (integer_kind Long))
    (plain_variable (integer_kind Char))
    (object_variable (Array 4))
    (plain_variable pointer))
    488
    (declaration (one (with_value 0 (number 3 100))) ∷
    declaration (one (with_value 1 (convert (integer_kind UnsignedInt) (number 3 7)))) ∷
    statement_1 ∷
    declaration (one (with_value 3 (convert (integer_kind Char) (number 3 200)))) ∷
    declaration (one (with_parts 4 (one (part 0 (content (unary 3 Negate (number 3 100))))))) ∷
    declaration (one (with_value 5 (address 3 (lvalue 3 (integer_kind Long) (tree.automatic 2))))) ∷
    statement_2 ∷
    statement_3 ∷
    statement_4 ∷
    statement_5 ∷
    statement_6 ∷
    statement_7 ∷
    statement_8 ∷
    statement_9 ∷
    statement_10 ∷
    statement_11 ∷
    statement_12 ∷
    statement_13 ∷
    statement_14 ∷
    statement_15 ∷
    statement_16 ∷
    statement_17 ∷
    statement_18 ∷
    statement_19 ∷
    statement_20 ∷
    statement_21 ∷
    statement_22 ∷
    statement_23 ∷
    statement_24 ∷
    statement_25 ∷
    return (Some (number 6 0)) ∷ [])

program : Program
program = program_of (one hex_digits) (two main_type put_type) (three put_digits put_number function_main) 2

run : seen (meaning program default_sizes [] 2000) ≡
    exited (codes "69 ffffffffffffffa1 fffffffffffffee3 ffffffffffffffb9 ffffffffffffffff "
    ++ codes "fffffffffffffff0 fffffffffffffffc fc 1fc 3 ffffffff 7fffffff 80000005 2c 90 48 60 "
    ++ codes "fffffffffffffff2 fffffffffffffffe ffffffffffffffc0 fffffffffffffe20 ffffffffffffff10 0 "
    ++ codes "6 ") 0
unfolding program put_digits put_number function_main statement_1 statement_2 statement_3 statement_4 statement_5
    statement_6 statement_7 statement_8 statement_9 statement_10 statement_11 statement_12 statement_13 statement_14
    statement_15 statement_16 statement_17 statement_18 statement_19 statement_20 statement_21 statement_22 statement_23
    statement_24 statement_25 hex_digits put_type computing
run = refl

valid : is_valid_program program ≡ true
unfolding program put_digits put_number function_main statement_1 statement_2 statement_3 statement_4 statement_5
    statement_6 statement_7 statement_8 statement_9 statement_10 statement_11 statement_12 statement_13 statement_14
    statement_15 statement_16 statement_17 statement_18 statement_19 statement_20 statement_21 statement_22 statement_23
    statement_24 statement_25 hex_digits put_type computing
valid = refl
