-- Conversions to the types of four and eight bytes at their edges. The text is rows/int_conversions.c; gcc 12.2.0 gives
-- the same output and status.
--     void h(unsigned long v){if(v>15)h(v>>4);putchar("0123456789abcdef"[v&15]);}
--     void p(unsigned long v){h(v);putchar(32);}
--     int main(void){
--     p((int)2147483647L);p((int)2147483648L);p((int)4294967295L);p((int)4294967296L);
--     p((unsigned)-1);p((unsigned)4294967296L);p((long)(unsigned)-1);p((long)-1);p((unsigned long)-1);
--     p((long long)-2147483648L);p((unsigned long long)(signed char)-1);p((unsigned)(short)-1);p((long)(unsigned
-- short)-1);return 0;}
use Rattle.c_tree.specs.Programs.{Program, Function}
use Rattle.c_tree.specs.Statements.{Statement, expression_statement, return}
use Rattle.c_tree.specs.ValidProgram.{is_valid_program}
use Rattle.c_tree.specs.declared.expression.Kind.TheVariants.{Void}
use Rattle.obj_memory.specs.declared.int_type.IntType.TheVariants.{Long, LongLong, Short, SignedChar, UnsignedInt}
use Rattle.obj_memory.specs.declared.int_type.IntType.TheVariants.{UnsignedLong, UnsignedLongLong, UnsignedShort}
use Rattle.obj_memory.specs.declared.operator.UnaryOperator.TheVariants.{Negate}
use Rattle.sb_base.specs.Budgets.{default_sizes}
use Rattle.source_meaning.specs.Meaning.{meaning}
use Rattle.source_meaning_rows.proofs.Hexadecimal.{hex_digits, put_digits, put_number, put_type}
use Rattle.source_meaning_rows.proofs.Samples.{call, cast, computing, constant, convert, defined, exited, int}
use Rattle.source_meaning_rows.proofs.Samples.{integer_kind, main_type, none, number, one, program_of, seen, three, two}
use Rattle.source_meaning_rows.proofs.Samples.{unary}
use Rattle.std.proofs.Common.{Some, [], refl, true, ◌∷◌, ◌++◌, ◌≡◌}
use Rattle.std.specs.Prelude.{codes}

statement_1 : Statement
statement_1 = expression_statement
    (call 5 Void 1 (one (convert (integer_kind UnsignedLong)
    (cast 5 (integer_kind UnsignedInt) (unary 5 Negate (number 5 1))))))

statement_2 : Statement
statement_2 = expression_statement
    (call 5 Void 1 (one (convert (integer_kind UnsignedLong)
    (cast 5 (integer_kind UnsignedInt) (constant Long 5 4294967296)))))

statement_3 : Statement
statement_3 = expression_statement (call 5 Void 1 (one (convert
    (integer_kind UnsignedLong)
    (cast 5 (integer_kind Long) (cast 5 (integer_kind UnsignedInt) (unary 5 Negate (number 5 1)))))))

statement_4 : Statement
statement_4 = expression_statement
    (call 5 Void 1 (one (convert (integer_kind UnsignedLong)
    (cast 5 (integer_kind Long) (unary 5 Negate (number 5 1))))))

statement_5 : Statement
statement_5 = expression_statement
    (call 6 Void 1 (one (convert (integer_kind UnsignedLong)
    (cast 6 (integer_kind LongLong) (unary 6 Negate (constant Long 6 2147483648))))))

statement_6 : Statement
statement_6 = expression_statement (call 6 Void 1 (one (convert
    (integer_kind UnsignedLong)
    (cast 6 (integer_kind UnsignedLongLong) (cast 6 (integer_kind SignedChar) (unary 6 Negate (number 6 1)))))))

statement_7 : Statement
statement_7 = expression_statement (call 6 Void 1 (one (convert
    (integer_kind UnsignedLong)
    (cast 6 (integer_kind UnsignedInt) (cast 6 (integer_kind Short) (unary 6 Negate (number 6 1)))))))

statement_8 : Statement
statement_8 = expression_statement (call 6 Void 1 (one (convert
    (integer_kind UnsignedLong)
    (cast 6 (integer_kind Long) (cast 6 (integer_kind UnsignedShort) (unary 6 Negate (number 6 1)))))))

function_main : Function
function_main = defined 3 0 none none 168
    (expression_statement
    (call 4 Void 1 (one (convert (integer_kind UnsignedLong) (cast 4 int (constant Long 4 2147483647))))) ∷
    expression_statement (call 4 Void 1
    (one (convert (integer_kind UnsignedLong) (cast 4 int (constant Long 4 2147483648))))) ∷
    expression_statement (call 4 Void 1
    (one (convert (integer_kind UnsignedLong) (cast 4 int (constant Long 4 4294967295))))) ∷
    expression_statement (call 4 Void 1
    (one (convert (integer_kind UnsignedLong) (cast 4 int (constant Long 4 4294967296))))) ∷
    statement_1 ∷
    statement_2 ∷
    statement_3 ∷
    statement_4 ∷
    expression_statement (call 5 Void 1 (one (cast 5 (integer_kind UnsignedLong) (unary 5 Negate (number 5 1))))) ∷
    statement_5 ∷
    statement_6 ∷
    statement_7 ∷
    statement_8 ∷
    return (Some (number 6 0)) ∷ [])

program : Program
program = program_of (one hex_digits) (two main_type put_type) (three put_digits put_number function_main) 2

run : seen (meaning program default_sizes [] 400) ≡
    exited (codes "7fffffff ffffffff80000000 ffffffffffffffff 0 ffffffff 0 ffffffff ffffffffffffffff "
    ++ codes "ffffffffffffffff ffffffff80000000 ffffffffffffffff ffffffff ffff ") 0
unfolding program put_digits put_number function_main statement_1 statement_2 statement_3 statement_4 statement_5
    statement_6 statement_7 statement_8 hex_digits put_type computing
run = refl

valid : is_valid_program program ≡ true
unfolding program put_digits put_number function_main statement_1 statement_2 statement_3 statement_4 statement_5
    statement_6 statement_7 statement_8 hex_digits put_type computing
valid = refl
