-- The least value of a type divided by -1 is itself, with remainder 0. Quotients are truncated toward zero. The text is
-- rows/least_quotients.c.
--     void h(unsigned long v){if(v>15)h(v>>4);putchar("0123456789abcdef"[v&15]);}
--     void p(unsigned long v){h(v);putchar(32);}
--     int main(void){int i=-2147483647-1;long l=-9223372036854775807L-1;int d=-1;
-- p(i/d);p(i%d);p(l/d);p(l%d);p(-i);p(-l);p(i*d);p(l*d);p(-7/2);p(-7%2);p(7/-2);p(7%-2);p(-1U/2);p(i-1);p(i/=d);
-- p(l%=d);return
-- 0;}
use Rattle.c_tree.specs.Programs.{Program, Function}
use Rattle.c_tree.specs.Statements.{Statement, expression_statement, declaration, return}
use Rattle.c_tree.specs.ValidProgram.{is_valid_program}
use Rattle.c_tree.specs.declared.expression.Kind.TheVariants.{Void}
use Rattle.c_tree.specs.declared.expression.Update.TheVariants.{Arithmetic}
use Rattle.obj_memory.specs.declared.int_type.IntType.TheVariants.{Int, Long, UnsignedInt, UnsignedLong}
use Rattle.obj_memory.specs.declared.operator.BinaryOperator.TheVariants.{Divide, Multiply, Remainder, Subtract}
use Rattle.obj_memory.specs.declared.operator.UnaryOperator.TheVariants.{Negate}
use Rattle.sb_base.specs.Budgets.{default_sizes}
use Rattle.source_meaning.specs.Meaning.{meaning}
use Rattle.source_meaning_rows.proofs.Hexadecimal.{hex_digits, put_digits, put_number, put_type}
use Rattle.source_meaning_rows.proofs.Samples.{binary, call, change_plain, computing, constant, convert, defined}
use Rattle.source_meaning_rows.proofs.Samples.{exited, int, integer_kind, main_type, none, number, one, plain}
use Rattle.source_meaning_rows.proofs.Samples.{plain_variable, program_of, seen, three, two, unary, with_value}
use Rattle.std.proofs.Common.{Some, [], refl, true, ◌∷◌, ◌++◌, ◌≡◌}
use Rattle.std.specs.Prelude.{codes}

statement_1 : Statement
statement_1 = declaration
    (one (with_value 1 (binary 3 Subtract (unary 3 Negate (constant Long 3 9223372036854775807))
    (convert (integer_kind Long) (number 3 1)))))

statement_2 : Statement
statement_2 = expression_statement
    (call 4 Void 1 (one (convert (integer_kind UnsignedLong) (binary 4 Divide (plain 4 int 0) (plain 4 int 2)))))

statement_3 : Statement
statement_3 = expression_statement
    (call 4 Void 1 (one (convert (integer_kind UnsignedLong) (binary 4 Remainder (plain 4 int 0) (plain 4 int 2)))))

statement_4 : Statement
statement_4 = expression_statement (call 4 Void 1 (one (convert
    (integer_kind UnsignedLong)
    (binary 4 Divide (plain 4 (integer_kind Long) 1) (convert (integer_kind Long) (plain 4 int 2))))))

statement_5 : Statement
statement_5 = expression_statement (call 4 Void 1 (one (convert
    (integer_kind UnsignedLong)
    (binary 4 Remainder (plain 4 (integer_kind Long) 1) (convert (integer_kind Long) (plain 4 int 2))))))

statement_6 : Statement
statement_6 = expression_statement
    (call 4 Void 1 (one (convert (integer_kind UnsignedLong) (unary 4 Negate (plain 4 (integer_kind Long) 1)))))

statement_7 : Statement
statement_7 = expression_statement
    (call 4 Void 1 (one (convert (integer_kind UnsignedLong) (binary 4 Multiply (plain 4 int 0) (plain 4 int 2)))))

statement_8 : Statement
statement_8 = expression_statement (call 4 Void 1 (one (convert
    (integer_kind UnsignedLong)
    (binary 4 Multiply (plain 4 (integer_kind Long) 1) (convert (integer_kind Long) (plain 4 int 2))))))

statement_9 : Statement
statement_9 = expression_statement
    (call 4 Void 1 (one (convert (integer_kind UnsignedLong)
    (binary 4 Divide (unary 4 Negate (number 4 7)) (number 4 2)))))

statement_10 : Statement
statement_10 = expression_statement
    (call 4 Void 1 (one (convert (integer_kind UnsignedLong)
    (binary 4 Remainder (unary 4 Negate (number 4 7)) (number 4 2)))))

statement_11 : Statement
statement_11 = expression_statement
    (call 4 Void 1 (one (convert (integer_kind UnsignedLong)
    (binary 4 Divide (number 4 7) (unary 4 Negate (number 4 2))))))

statement_12 : Statement
statement_12 = expression_statement
    (call 4 Void 1 (one (convert (integer_kind UnsignedLong)
    (binary 4 Remainder (number 4 7) (unary 4 Negate (number 4 2))))))

statement_13 : Statement
statement_13 = expression_statement (call 4 Void 1 (one (convert
    (integer_kind UnsignedLong)
    (binary 4 Divide (unary 4 Negate (constant UnsignedInt 4 1)) (convert (integer_kind UnsignedInt) (number 4 2))))))

statement_14 : Statement
statement_14 = expression_statement
    (call 4 Void 1 (one (convert (integer_kind UnsignedLong) (binary 4 Subtract (plain 4 int 0) (number 4 1)))))

statement_15 : Statement
statement_15 = expression_statement
    (call 4 Void 1 (one (convert (integer_kind UnsignedLong)
    (change_plain 4 int (Arithmetic Divide Int) 0 (plain 4 int 2)))))

statement_16 : Statement
statement_16 = expression_statement (call 4 Void 1 (one (convert
    (integer_kind UnsignedLong)
    (change_plain 4 (integer_kind Long) (Arithmetic Remainder Long) 1 (convert (integer_kind Long) (plain 4 int 2))))))

function_main : Function
function_main = defined 3 0 none
    (three (plain_variable int) (plain_variable (integer_kind Long)) (plain_variable int))
    328
    (declaration (one (with_value 0 (binary 3 Subtract (unary 3 Negate (number 3 2147483647)) (number 3 1)))) ∷
    statement_1 ∷
    declaration (one (with_value 2 (unary 3 Negate (number 3 1)))) ∷
    statement_2 ∷
    statement_3 ∷
    statement_4 ∷
    statement_5 ∷
    expression_statement (call 4 Void 1 (one (convert (integer_kind UnsignedLong) (unary 4 Negate (plain 4 int 0))))) ∷
    statement_6 ∷
    statement_7 ∷
    statement_8 ∷
    statement_9 ∷
    statement_10 ∷
    statement_11 ∷
    statement_12 ∷
    statement_13 ∷
    statement_14 ∷
    statement_15 ∷
    statement_16 ∷
    return (Some (number 4 0)) ∷ [])

program : Program
program = program_of (one hex_digits) (two main_type put_type) (three put_digits put_number function_main) 2

run : seen (meaning program default_sizes [] 600) ≡
    exited (codes "ffffffff80000000 0 8000000000000000 0 ffffffff80000000 8000000000000000 "
    ++ codes "ffffffff80000000 8000000000000000 fffffffffffffffd ffffffffffffffff fffffffffffffffd 1 "
    ++ codes "7fffffff 7fffffff ffffffff80000000 0 ") 0
unfolding program put_digits put_number function_main statement_1 statement_2 statement_3 statement_4 statement_5
    statement_6 statement_7 statement_8 statement_9 statement_10 statement_11 statement_12 statement_13 statement_14
    statement_15 statement_16 hex_digits put_type computing
run = refl

valid : is_valid_program program ≡ true
unfolding program put_digits put_number function_main statement_1 statement_2 statement_3 statement_4 statement_5
    statement_6 statement_7 statement_8 statement_9 statement_10 statement_11 statement_12 statement_13 statement_14
    statement_15 statement_16 hex_digits put_type computing
valid = refl
