-- Conversions to the types of one and two bytes at their edges. The text is rows/char_conversions.c; gcc 12.2.0 gives
-- the same output and status.
--     void h(unsigned long v){if(v>15)h(v>>4);putchar("0123456789abcdef"[v&15]);}
--     void p(unsigned long v){h(v);putchar(32);}
--     int main(void){
--     p((signed char)127);p((signed char)128);p((signed char)255);p((signed char)256);
--     p((char)255);p((char)256);p((char)-1);p((unsigned char)511);
--     p((short)32767);p((short)32768);p((short)65535);p((short)65536);
--     p((unsigned short)65535);p((unsigned short)65536);p((unsigned short)-1);return 0;}
use Rattle.c_tree.specs.Programs.{Program, Function}
use Rattle.c_tree.specs.Statements.{Statement, expression_statement, return}
use Rattle.c_tree.specs.ValidProgram.{is_valid_program}
use Rattle.c_tree.specs.declared.expression.Kind.TheVariants.{Void}
use Rattle.obj_memory.specs.declared.int_type.IntType.TheVariants.{Char, Short, SignedChar, UnsignedChar, UnsignedLong}
use Rattle.obj_memory.specs.declared.int_type.IntType.TheVariants.{UnsignedShort}
use Rattle.obj_memory.specs.declared.operator.UnaryOperator.TheVariants.{Negate}
use Rattle.sb_base.specs.Budgets.{default_sizes}
use Rattle.source_meaning.specs.Meaning.{meaning}
use Rattle.source_meaning_rows.proofs.Hexadecimal.{hex_digits, put_digits, put_number, put_type}
use Rattle.source_meaning_rows.proofs.Samples.{call, cast, computing, convert, defined, exited, integer_kind, main_type}
use Rattle.source_meaning_rows.proofs.Samples.{none, number, one, program_of, seen, three, two, unary}
use Rattle.std.proofs.Common.{Some, [], refl, true, ◌∷◌, ◌++◌, ◌≡◌}
use Rattle.std.specs.Prelude.{codes}

statement_1 : Statement
statement_1 = expression_statement
    (call 4 Void 1 (one (convert (integer_kind UnsignedLong) (cast 4 (integer_kind SignedChar) (number 4 127)))))

statement_2 : Statement
statement_2 = expression_statement
    (call 4 Void 1 (one (convert (integer_kind UnsignedLong) (cast 4 (integer_kind SignedChar) (number 4 128)))))

statement_3 : Statement
statement_3 = expression_statement
    (call 4 Void 1 (one (convert (integer_kind UnsignedLong) (cast 4 (integer_kind SignedChar) (number 4 255)))))

statement_4 : Statement
statement_4 = expression_statement
    (call 4 Void 1 (one (convert (integer_kind UnsignedLong) (cast 4 (integer_kind SignedChar) (number 4 256)))))

statement_5 : Statement
statement_5 = expression_statement
    (call 5 Void 1 (one (convert (integer_kind UnsignedLong) (cast 5 (integer_kind Char) (number 5 255)))))

statement_6 : Statement
statement_6 = expression_statement
    (call 5 Void 1 (one (convert (integer_kind UnsignedLong) (cast 5 (integer_kind Char) (number 5 256)))))

statement_7 : Statement
statement_7 = expression_statement
    (call 5 Void 1 (one (convert (integer_kind UnsignedLong)
    (cast 5 (integer_kind Char) (unary 5 Negate (number 5 1))))))

statement_8 : Statement
statement_8 = expression_statement
    (call 5 Void 1 (one (convert (integer_kind UnsignedLong) (cast 5 (integer_kind UnsignedChar) (number 5 511)))))

statement_9 : Statement
statement_9 = expression_statement
    (call 6 Void 1 (one (convert (integer_kind UnsignedLong) (cast 6 (integer_kind Short) (number 6 32767)))))

statement_10 : Statement
statement_10 = expression_statement
    (call 6 Void 1 (one (convert (integer_kind UnsignedLong) (cast 6 (integer_kind Short) (number 6 32768)))))

statement_11 : Statement
statement_11 = expression_statement
    (call 6 Void 1 (one (convert (integer_kind UnsignedLong) (cast 6 (integer_kind Short) (number 6 65535)))))

statement_12 : Statement
statement_12 = expression_statement
    (call 6 Void 1 (one (convert (integer_kind UnsignedLong) (cast 6 (integer_kind Short) (number 6 65536)))))

statement_13 : Statement
statement_13 = expression_statement
    (call 7 Void 1 (one (convert (integer_kind UnsignedLong) (cast 7 (integer_kind UnsignedShort) (number 7 65535)))))

statement_14 : Statement
statement_14 = expression_statement
    (call 7 Void 1 (one (convert (integer_kind UnsignedLong) (cast 7 (integer_kind UnsignedShort) (number 7 65536)))))

statement_15 : Statement
statement_15 = expression_statement
    (call 7 Void 1 (one (convert (integer_kind UnsignedLong)
    (cast 7 (integer_kind UnsignedShort) (unary 7 Negate (number 7 1))))))

function_main : Function
function_main = defined 3 0 none none 168 (statement_1 ∷
    statement_2 ∷
    statement_3 ∷
    statement_4 ∷
    statement_5 ∷
    statement_6 ∷
    statement_7 ∷
    statement_8 ∷
    statement_9 ∷
    statement_10 ∷
    statement_11 ∷
    statement_12 ∷
    statement_13 ∷
    statement_14 ∷
    statement_15 ∷
    return (Some (number 7 0)) ∷ [])

program : Program
program = program_of (one hex_digits) (two main_type put_type) (three put_digits put_number function_main) 2

run : seen (meaning program default_sizes [] 400) ≡
    exited (codes "7f ffffffffffffff80 ffffffffffffffff 0 ff 0 ff ff 7fff ffffffffffff8000 "
    ++ codes "ffffffffffffffff 0 ffff 0 ffff ") 0
unfolding program put_digits put_number function_main statement_1 statement_2 statement_3 statement_4 statement_5
    statement_6 statement_7 statement_8 statement_9 statement_10 statement_11 statement_12 statement_13 statement_14
    statement_15 hex_digits put_type computing
run = refl

valid : is_valid_program program ≡ true
unfolding program put_digits put_number function_main statement_1 statement_2 statement_3 statement_4 statement_5
    statement_6 statement_7 statement_8 statement_9 statement_10 statement_11 statement_12 statement_13 statement_14
    statement_15 hex_digits put_type computing
valid = refl
