-- Operators on operands of several types. The text is rows/operators.c; gcc 12.2.0 gives the same output and status.
--     void h(unsigned long v){if(v>15)h(v>>4);putchar("0123456789abcdef"[v&15]);}
--     void p(unsigned long v){h(v);putchar(32);}
--     int main(void){int i=-10;int j=3;unsigned u=4000000000U;unsigned v=7;long l=-10000000000L;unsigned long
-- m=18446744073709551615UL;
--     p(i+j);p(i-j);p(i*j);p(i/j);p(i%j);p(i&j);p(i|j);p(i^j);p(~j);p(-u);p(u+u);p(u*v);p(u/v);p(u%v);p(u-v-u);
-- p(l+i);p(l*l);p(l/i);p(l%j);p(l^m);p(m*m);p(m/u);p(m%v);p(i<j);p(i<u);p(l<=m);p(l>=i);p(i==-10);p(m!=-1);p(!l);p(+u);
-- return
-- 0;}
use Rattle.c_tree.specs.Programs.{Program, Function}
use Rattle.c_tree.specs.Statements.{Statement, expression_statement, declaration, return}
use Rattle.c_tree.specs.ValidProgram.{is_valid_program}
use Rattle.c_tree.specs.declared.expression.Kind.TheVariants.{Void}
use Rattle.obj_memory.specs.declared.int_type.IntType.TheVariants.{Long, UnsignedInt, UnsignedLong}
use Rattle.obj_memory.specs.declared.operator.BinaryOperator.TheVariants.{Add, BitAnd, BitOr, BitXor, Divide, Equal}
use Rattle.obj_memory.specs.declared.operator.BinaryOperator.TheVariants.{GreaterOrEqual, Less, LessOrEqual, Multiply}
use Rattle.obj_memory.specs.declared.operator.BinaryOperator.TheVariants.{NotEqual, Remainder, Subtract}
use Rattle.obj_memory.specs.declared.operator.UnaryOperator.TheVariants.{Complement, Negate, Plus}
use Rattle.sb_base.specs.Budgets.{default_sizes}
use Rattle.source_meaning.specs.Meaning.{meaning}
use Rattle.source_meaning_rows.proofs.Hexadecimal.{hex_digits, put_digits, put_number, put_type}
use Rattle.source_meaning_rows.proofs.Samples.{binary, call, compare, computing, constant, convert, defined, exited}
use Rattle.source_meaning_rows.proofs.Samples.{int, integer_kind, logical_not, main_type, none, number, one, plain}
use Rattle.source_meaning_rows.proofs.Samples.{plain_variable, program_of, seen, six, three, two, unary, with_value}
use Rattle.std.proofs.Common.{Some, [], refl, true, ◌∷◌, ◌++◌, ◌≡◌}
use Rattle.std.specs.Prelude.{codes}

statement_1 : Statement
statement_1 = expression_statement
    (call 4 Void 1 (one (convert (integer_kind UnsignedLong) (binary 4 Add (plain 4 int 0) (plain 4 int 1)))))

statement_2 : Statement
statement_2 = expression_statement
    (call 4 Void 1 (one (convert (integer_kind UnsignedLong) (binary 4 Subtract (plain 4 int 0) (plain 4 int 1)))))

statement_3 : Statement
statement_3 = expression_statement
    (call 4 Void 1 (one (convert (integer_kind UnsignedLong) (binary 4 Multiply (plain 4 int 0) (plain 4 int 1)))))

statement_4 : Statement
statement_4 = expression_statement
    (call 4 Void 1 (one (convert (integer_kind UnsignedLong) (binary 4 Divide (plain 4 int 0) (plain 4 int 1)))))

statement_5 : Statement
statement_5 = expression_statement
    (call 4 Void 1 (one (convert (integer_kind UnsignedLong) (binary 4 Remainder (plain 4 int 0) (plain 4 int 1)))))

statement_6 : Statement
statement_6 = expression_statement
    (call 4 Void 1 (one (convert (integer_kind UnsignedLong) (binary 4 BitAnd (plain 4 int 0) (plain 4 int 1)))))

statement_7 : Statement
statement_7 = expression_statement
    (call 4 Void 1 (one (convert (integer_kind UnsignedLong) (binary 4 BitOr (plain 4 int 0) (plain 4 int 1)))))

statement_8 : Statement
statement_8 = expression_statement
    (call 4 Void 1 (one (convert (integer_kind UnsignedLong) (binary 4 BitXor (plain 4 int 0) (plain 4 int 1)))))

statement_9 : Statement
statement_9 = expression_statement
    (call 4 Void 1 (one (convert (integer_kind UnsignedLong) (unary 4 Negate (plain 4 (integer_kind UnsignedInt) 2)))))

statement_10 : Statement
statement_10 = expression_statement (call 4 Void 1 (one (convert
    (integer_kind UnsignedLong)
    (binary 4 Add (plain 4 (integer_kind UnsignedInt) 2) (plain 4 (integer_kind UnsignedInt) 2)))))

statement_11 : Statement
statement_11 = expression_statement (call 4 Void 1 (one (convert
    (integer_kind UnsignedLong)
    (binary 4 Multiply (plain 4 (integer_kind UnsignedInt) 2) (plain 4 (integer_kind UnsignedInt) 3)))))

statement_12 : Statement
statement_12 = expression_statement (call 4 Void 1 (one (convert
    (integer_kind UnsignedLong)
    (binary 4 Divide (plain 4 (integer_kind UnsignedInt) 2) (plain 4 (integer_kind UnsignedInt) 3)))))

statement_13 : Statement
statement_13 = expression_statement (call 4 Void 1 (one (convert
    (integer_kind UnsignedLong)
    (binary 4 Remainder (plain 4 (integer_kind UnsignedInt) 2) (plain 4 (integer_kind UnsignedInt) 3)))))

statement_14 : Statement
statement_14 = expression_statement (call 4 Void 1 (one (convert
    (integer_kind UnsignedLong)
    (binary 4 Subtract
    (binary 4 Subtract (plain 4 (integer_kind UnsignedInt) 2) (plain 4 (integer_kind UnsignedInt) 3))
    (plain 4 (integer_kind UnsignedInt) 2)))))

statement_15 : Statement
statement_15 = expression_statement (call 5 Void 1 (one (convert
    (integer_kind UnsignedLong)
    (binary 5 Add (plain 5 (integer_kind Long) 4) (convert (integer_kind Long) (plain 5 int 0))))))

statement_16 : Statement
statement_16 = expression_statement
    (call 5 Void 1 (one (convert (integer_kind UnsignedLong)
    (binary 5 Multiply (plain 5 (integer_kind Long) 4) (plain 5 (integer_kind Long) 4)))))

statement_17 : Statement
statement_17 = expression_statement (call 5 Void 1 (one (convert
    (integer_kind UnsignedLong)
    (binary 5 Divide (plain 5 (integer_kind Long) 4) (convert (integer_kind Long) (plain 5 int 0))))))

statement_18 : Statement
statement_18 = expression_statement (call 5 Void 1 (one (convert
    (integer_kind UnsignedLong)
    (binary 5 Remainder (plain 5 (integer_kind Long) 4) (convert (integer_kind Long) (plain 5 int 1))))))

statement_19 : Statement
statement_19 = expression_statement
    (call 5 Void 1 (one (binary 5 BitXor (convert (integer_kind UnsignedLong) (plain 5 (integer_kind Long) 4))
    (plain 5 (integer_kind UnsignedLong) 5))))

statement_20 : Statement
statement_20 = expression_statement
    (call 5 Void 1 (one (binary 5 Multiply (plain 5 (integer_kind UnsignedLong) 5)
    (plain 5 (integer_kind UnsignedLong) 5))))

statement_21 : Statement
statement_21 = expression_statement (call 5 Void 1 (one (binary 5 Divide
    (plain 5 (integer_kind UnsignedLong) 5)
    (convert (integer_kind UnsignedLong) (plain 5 (integer_kind UnsignedInt) 2)))))

statement_22 : Statement
statement_22 = expression_statement (call 5 Void 1 (one (binary 5 Remainder
    (plain 5 (integer_kind UnsignedLong) 5)
    (convert (integer_kind UnsignedLong) (plain 5 (integer_kind UnsignedInt) 3)))))

statement_23 : Statement
statement_23 = expression_statement
    (call 5 Void 1 (one (convert (integer_kind UnsignedLong) (compare 5 Less (plain 5 int 0) (plain 5 int 1)))))

statement_24 : Statement
statement_24 = expression_statement (call 5 Void 1 (one (convert
    (integer_kind UnsignedLong)
    (compare 5 Less (convert (integer_kind UnsignedInt) (plain 5 int 0)) (plain 5 (integer_kind UnsignedInt) 2)))))

statement_25 : Statement
statement_25 = expression_statement (call 5 Void 1 (one (convert
    (integer_kind UnsignedLong)
    (compare 5 LessOrEqual
    (convert (integer_kind UnsignedLong) (plain 5 (integer_kind Long) 4))
    (plain 5 (integer_kind UnsignedLong) 5)))))

statement_26 : Statement
statement_26 = expression_statement (call 5 Void 1 (one (convert
    (integer_kind UnsignedLong)
    (compare 5 GreaterOrEqual (plain 5 (integer_kind Long) 4) (convert (integer_kind Long) (plain 5 int 0))))))

statement_27 : Statement
statement_27 = expression_statement
    (call 5 Void 1 (one (convert (integer_kind UnsignedLong)
    (compare 5 Equal (plain 5 int 0) (unary 5 Negate (number 5 10))))))

statement_28 : Statement
statement_28 = expression_statement (call 5 Void 1 (one (convert
    (integer_kind UnsignedLong)
    (compare 5 NotEqual
    (plain 5 (integer_kind UnsignedLong) 5)
    (convert (integer_kind UnsignedLong) (unary 5 Negate (number 5 1)))))))

statement_29 : Statement
statement_29 = expression_statement
    (call 5 Void 1 (one (convert (integer_kind UnsignedLong) (logical_not 5 (plain 5 (integer_kind Long) 4)))))

statement_30 : Statement
statement_30 = expression_statement
    (call 5 Void 1 (one (convert (integer_kind UnsignedLong) (unary 5 Plus (plain 5 (integer_kind UnsignedInt) 2)))))

function_main : Function
function_main = defined 3 0 none
    (six (plain_variable int) (plain_variable int)
    (plain_variable (integer_kind UnsignedInt))
    (plain_variable (integer_kind UnsignedInt))
    (plain_variable (integer_kind Long))
    (plain_variable (integer_kind UnsignedLong)))
    448
    (declaration (one (with_value 0 (unary 3 Negate (number 3 10)))) ∷
    declaration (one (with_value 1 (number 3 3))) ∷
    declaration (one (with_value 2 (constant UnsignedInt 3 4000000000))) ∷
    declaration (one (with_value 3 (convert (integer_kind UnsignedInt) (number 3 7)))) ∷
    declaration (one (with_value 4 (unary 3 Negate (constant Long 3 10000000000)))) ∷
    declaration (one (with_value 5 (constant UnsignedLong 3 18446744073709551615))) ∷
    statement_1 ∷
    statement_2 ∷
    statement_3 ∷
    statement_4 ∷
    statement_5 ∷
    statement_6 ∷
    statement_7 ∷
    statement_8 ∷
    expression_statement (call 4 Void 1
    (one (convert (integer_kind UnsignedLong) (unary 4 Complement (plain 4 int 1))))) ∷
    statement_9 ∷
    statement_10 ∷
    statement_11 ∷
    statement_12 ∷
    statement_13 ∷
    statement_14 ∷
    statement_15 ∷
    statement_16 ∷
    statement_17 ∷
    statement_18 ∷
    statement_19 ∷
    statement_20 ∷
    statement_21 ∷
    statement_22 ∷
    statement_23 ∷
    statement_24 ∷
    statement_25 ∷
    statement_26 ∷
    statement_27 ∷
    statement_28 ∷
    statement_29 ∷
    statement_30 ∷
    return (Some (number 5 0)) ∷ [])

program : Program
program = program_of (one hex_digits) (two main_type put_type) (three put_digits put_number function_main) 2

run : seen (meaning program default_sizes [] 2000) ≡
    exited (codes "fffffffffffffff9 fffffffffffffff3 ffffffffffffffe2 fffffffffffffffd ffffffffffffffff 2 "
    ++ codes "fffffffffffffff7 fffffffffffffff5 fffffffffffffffc 1194d800 dcd65000 84ee1800 220f4edb "
    ++ codes "3 fffffff9 fffffffdabf41bf6 6bc75e2d63100000 3b9aca00 ffffffffffffffff 2540be3ff 1 "
    ++ codes "112e0be82 1 1 0 1 0 1 0 0 ee6b2800 ") 0
unfolding program put_digits put_number function_main statement_1 statement_2 statement_3 statement_4 statement_5
    statement_6 statement_7 statement_8 statement_9 statement_10 statement_11 statement_12 statement_13 statement_14
    statement_15 statement_16 statement_17 statement_18 statement_19 statement_20 statement_21 statement_22 statement_23
    statement_24 statement_25 statement_26 statement_27 statement_28 statement_29 statement_30 hex_digits
    put_type computing
run = refl

valid : is_valid_program program ≡ true
unfolding program put_digits put_number function_main statement_1 statement_2 statement_3 statement_4 statement_5
    statement_6 statement_7 statement_8 statement_9 statement_10 statement_11 statement_12 statement_13 statement_14
    statement_15 statement_16 statement_17 statement_18 statement_19 statement_20 statement_21 statement_22 statement_23
    statement_24 statement_25 statement_26 statement_27 statement_28 statement_29 statement_30 hex_digits
    put_type computing
valid = refl
