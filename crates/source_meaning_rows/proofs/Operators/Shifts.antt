-- Shifts by 31, 32, 63 and 64 bits. The text is rows/shifts.c; gcc 12.2.0 gives the same output and status.
--     void h(unsigned long v){if(v>15)h(v>>4);putchar("0123456789abcdef"[v&15]);}
--     void p(unsigned long v){h(v);putchar(32);}
--     int main(void){int n=31;int i=-8;unsigned u=0x80000001U;long l=-8;unsigned long m=0x8000000000000001UL;
--     p(1<<n);p(i>>n);p(u>>n);p(u<<n);n=32;p(1<<n);p(i>>n);p(u>>n);p(u<<n);p(m<<n);p(m>>n);
--     n=63;p(m<<n);p(m>>n);p(l>>n);p(1L<<n);n=64;p(m<<n);p(m>>n);p(l>>n);p(u<<n);return 0;}
use Rattle.c_tree.specs.Programs.{Program, Function}
use Rattle.c_tree.specs.Statements.{Statement, expression_statement, declaration, return}
use Rattle.c_tree.specs.ValidProgram.{is_valid_program}
use Rattle.c_tree.specs.declared.expression.Kind.TheVariants.{Void}
use Rattle.obj_memory.specs.declared.int_type.IntType.TheVariants.{Long, UnsignedInt, UnsignedLong}
use Rattle.obj_memory.specs.declared.operator.BinaryOperator.TheVariants.{ShiftLeft, ShiftRight}
use Rattle.obj_memory.specs.declared.operator.UnaryOperator.TheVariants.{Negate}
use Rattle.sb_base.specs.Budgets.{default_sizes}
use Rattle.source_meaning.specs.Meaning.{meaning}
use Rattle.source_meaning_rows.proofs.Hexadecimal.{hex_digits, put_digits, put_number, put_type}
use Rattle.source_meaning_rows.proofs.Samples.{binary, call, computing, constant, convert, defined, exited, five, int}
use Rattle.source_meaning_rows.proofs.Samples.{integer_kind, main_type, none, number, one, plain, plain_variable}
use Rattle.source_meaning_rows.proofs.Samples.{program_of, seen, set_plain, three, two, unary, with_value}
use Rattle.std.proofs.Common.{Some, [], refl, true, ◌∷◌, ◌++◌, ◌≡◌}
use Rattle.std.specs.Prelude.{codes}

statement_1 : Statement
statement_1 = expression_statement
    (call 4 Void 1 (one (convert (integer_kind UnsignedLong) (binary 4 ShiftLeft (number 4 1) (plain 4 int 0)))))

statement_2 : Statement
statement_2 = expression_statement
    (call 4 Void 1 (one (convert (integer_kind UnsignedLong) (binary 4 ShiftRight (plain 4 int 1) (plain 4 int 0)))))

statement_3 : Statement
statement_3 = expression_statement
    (call 4 Void 1 (one (convert (integer_kind UnsignedLong)
    (binary 4 ShiftRight (plain 4 (integer_kind UnsignedInt) 2) (plain 4 int 0)))))

statement_4 : Statement
statement_4 = expression_statement
    (call 4 Void 1 (one (convert (integer_kind UnsignedLong)
    (binary 4 ShiftLeft (plain 4 (integer_kind UnsignedInt) 2) (plain 4 int 0)))))

statement_5 : Statement
statement_5 = expression_statement
    (call 4 Void 1 (one (convert (integer_kind UnsignedLong) (binary 4 ShiftLeft (number 4 1) (plain 4 int 0)))))

statement_6 : Statement
statement_6 = expression_statement
    (call 4 Void 1 (one (convert (integer_kind UnsignedLong) (binary 4 ShiftRight (plain 4 int 1) (plain 4 int 0)))))

statement_7 : Statement
statement_7 = expression_statement
    (call 4 Void 1 (one (convert (integer_kind UnsignedLong)
    (binary 4 ShiftRight (plain 4 (integer_kind UnsignedInt) 2) (plain 4 int 0)))))

statement_8 : Statement
statement_8 = expression_statement
    (call 4 Void 1 (one (convert (integer_kind UnsignedLong)
    (binary 4 ShiftLeft (plain 4 (integer_kind UnsignedInt) 2) (plain 4 int 0)))))

statement_9 : Statement
statement_9 = expression_statement
    (call 5 Void 1 (one (convert (integer_kind UnsignedLong)
    (binary 5 ShiftRight (plain 5 (integer_kind Long) 3) (plain 5 int 0)))))

statement_10 : Statement
statement_10 = expression_statement
    (call 5 Void 1 (one (convert (integer_kind UnsignedLong) (binary 5 ShiftLeft (constant Long 5 1) (plain 5 int 0)))))

statement_11 : Statement
statement_11 = expression_statement
    (call 5 Void 1 (one (convert (integer_kind UnsignedLong)
    (binary 5 ShiftRight (plain 5 (integer_kind Long) 3) (plain 5 int 0)))))

statement_12 : Statement
statement_12 = expression_statement
    (call 5 Void 1 (one (convert (integer_kind UnsignedLong)
    (binary 5 ShiftLeft (plain 5 (integer_kind UnsignedInt) 2) (plain 5 int 0)))))

function_main : Function
function_main = defined 3 0 none
    (five (plain_variable int) (plain_variable int)
    (plain_variable (integer_kind UnsignedInt))
    (plain_variable (integer_kind Long))
    (plain_variable (integer_kind UnsignedLong)))
    408
    (declaration (one (with_value 0 (number 3 31))) ∷
    declaration (one (with_value 1 (unary 3 Negate (number 3 8)))) ∷
    declaration (one (with_value 2 (constant UnsignedInt 3 2147483649))) ∷
    declaration (one (with_value 3 (convert (integer_kind Long) (unary 3 Negate (number 3 8))))) ∷
    declaration (one (with_value 4 (constant UnsignedLong 3 9223372036854775809))) ∷
    statement_1 ∷
    statement_2 ∷
    statement_3 ∷
    statement_4 ∷
    expression_statement (set_plain 4 0 (number 4 32)) ∷
    statement_5 ∷
    statement_6 ∷
    statement_7 ∷
    statement_8 ∷
    expression_statement (call 4 Void 1
    (one (binary 4 ShiftLeft (plain 4 (integer_kind UnsignedLong) 4) (plain 4 int 0)))) ∷
    expression_statement (call 4 Void 1
    (one (binary 4 ShiftRight (plain 4 (integer_kind UnsignedLong) 4) (plain 4 int 0)))) ∷
    expression_statement (set_plain 5 0 (number 5 63)) ∷
    expression_statement (call 5 Void 1
    (one (binary 5 ShiftLeft (plain 5 (integer_kind UnsignedLong) 4) (plain 5 int 0)))) ∷
    expression_statement (call 5 Void 1
    (one (binary 5 ShiftRight (plain 5 (integer_kind UnsignedLong) 4) (plain 5 int 0)))) ∷
    statement_9 ∷
    statement_10 ∷
    expression_statement (set_plain 5 0 (number 5 64)) ∷
    expression_statement (call 5 Void 1
    (one (binary 5 ShiftLeft (plain 5 (integer_kind UnsignedLong) 4) (plain 5 int 0)))) ∷
    expression_statement (call 5 Void 1
    (one (binary 5 ShiftRight (plain 5 (integer_kind UnsignedLong) 4) (plain 5 int 0)))) ∷
    statement_11 ∷
    statement_12 ∷
    return (Some (number 5 0)) ∷ [])

program : Program
program = program_of (one hex_digits) (two main_type put_type) (three put_digits put_number function_main) 2

run : seen (meaning program default_sizes [] 600) ≡
    exited (codes "ffffffff80000000 ffffffffffffffff 1 80000000 1 fffffffffffffff8 80000001 80000001 "
    ++ codes "100000000 80000000 8000000000000000 1 ffffffffffffffff 8000000000000000 "
    ++ codes "8000000000000001 8000000000000001 fffffffffffffff8 80000001 ") 0
unfolding program put_digits put_number function_main statement_1 statement_2 statement_3 statement_4 statement_5
    statement_6 statement_7 statement_8 statement_9 statement_10 statement_11 statement_12 hex_digits put_type computing
run = refl

valid : is_valid_program program ≡ true
unfolding program put_digits put_number function_main statement_1 statement_2 statement_3 statement_4 statement_5
    statement_6 statement_7 statement_8 statement_9 statement_10 statement_11 statement_12 hex_digits put_type computing
valid = refl
