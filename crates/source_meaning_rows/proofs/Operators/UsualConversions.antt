-- Promotions, and the type of an operation on two types. The text is rows/usual_conversions.c; gcc 12.2.0 gives the
-- same
-- output and status.
--     void h(unsigned long v){if(v>15)h(v>>4);putchar("0123456789abcdef"[v&15]);}
--     void p(unsigned long v){h(v);putchar(32);}
--     int main(void){
--     unsigned char c=255;signed char s=-128;unsigned short w=65535;unsigned u=4294967295U;int i=-1;long l=-1;unsigned
-- long m=1;
--     p(c+c);p(s-1);p(w*w);p(u+1);p(u+l);p(i<u);p(l<u);p(i<m);p(-u);p(~c);p(s==128);p((char)s==128);p(u/i);p(u/l);
--     return 0;}
use Rattle.c_tree.specs.Programs.{Program, Function}
use Rattle.c_tree.specs.Statements.{Statement, expression_statement, declaration, return}
use Rattle.c_tree.specs.ValidProgram.{is_valid_program}
use Rattle.c_tree.specs.declared.expression.Kind.TheVariants.{Void}
use Rattle.obj_memory.specs.declared.int_type.IntType.TheVariants.{Char, Long, SignedChar, UnsignedChar, UnsignedInt}
use Rattle.obj_memory.specs.declared.int_type.IntType.TheVariants.{UnsignedLong, UnsignedShort}
use Rattle.obj_memory.specs.declared.operator.BinaryOperator.TheVariants.{Add, Divide, Equal, Less, Multiply, Subtract}
use Rattle.obj_memory.specs.declared.operator.UnaryOperator.TheVariants.{Complement, Negate}
use Rattle.sb_base.specs.Budgets.{default_sizes}
use Rattle.source_meaning.specs.Meaning.{meaning}
use Rattle.source_meaning_rows.proofs.Hexadecimal.{hex_digits, put_digits, put_number, put_type}
use Rattle.source_meaning_rows.proofs.Samples.{binary, call, cast, compare, computing, constant, convert, defined}
use Rattle.source_meaning_rows.proofs.Samples.{exited, int, integer_kind, main_type, none, number, one, plain}
use Rattle.source_meaning_rows.proofs.Samples.{plain_variable, program_of, seen, three, two, unary, with_value}
use Rattle.std.proofs.Common.{Some, [], refl, true, ◌∷◌, ◌≡◌}
use Rattle.std.specs.Prelude.{codes}

statement_1 : Statement
statement_1 = expression_statement (call 5 Void 1 (one (convert
    (integer_kind UnsignedLong)
    (binary 5 Add (convert int (plain 5 (integer_kind UnsignedChar) 0))
    (convert int (plain 5 (integer_kind UnsignedChar) 0))))))

statement_2 : Statement
statement_2 = expression_statement
    (call 5 Void 1 (one (convert (integer_kind UnsignedLong)
    (binary 5 Subtract (convert int (plain 5 (integer_kind SignedChar) 1)) (number 5 1)))))

statement_3 : Statement
statement_3 = expression_statement (call 5 Void 1 (one (convert
    (integer_kind UnsignedLong)
    (binary 5 Multiply
    (convert int (plain 5 (integer_kind UnsignedShort) 2))
    (convert int (plain 5 (integer_kind UnsignedShort) 2))))))

statement_4 : Statement
statement_4 = expression_statement (call 5 Void 1 (one (convert
    (integer_kind UnsignedLong)
    (binary 5 Add (plain 5 (integer_kind UnsignedInt) 3) (convert (integer_kind UnsignedInt) (number 5 1))))))

statement_5 : Statement
statement_5 = expression_statement (call 5 Void 1 (one (convert
    (integer_kind UnsignedLong)
    (binary 5 Add (convert (integer_kind Long) (plain 5 (integer_kind UnsignedInt) 3))
    (plain 5 (integer_kind Long) 5)))))

statement_6 : Statement
statement_6 = expression_statement (call 5 Void 1 (one (convert
    (integer_kind UnsignedLong)
    (compare 5 Less (convert (integer_kind UnsignedInt) (plain 5 int 4)) (plain 5 (integer_kind UnsignedInt) 3)))))

statement_7 : Statement
statement_7 = expression_statement (call 5 Void 1 (one (convert
    (integer_kind UnsignedLong)
    (compare 5 Less (plain 5 (integer_kind Long) 5)
    (convert (integer_kind Long) (plain 5 (integer_kind UnsignedInt) 3))))))

statement_8 : Statement
statement_8 = expression_statement (call 5 Void 1 (one (convert
    (integer_kind UnsignedLong)
    (compare 5 Less (convert (integer_kind UnsignedLong) (plain 5 int 4)) (plain 5 (integer_kind UnsignedLong) 6)))))

statement_9 : Statement
statement_9 = expression_statement
    (call 5 Void 1 (one (convert (integer_kind UnsignedLong) (unary 5 Negate (plain 5 (integer_kind UnsignedInt) 3)))))

statement_10 : Statement
statement_10 = expression_statement
    (call 5 Void 1 (one (convert (integer_kind UnsignedLong)
    (unary 5 Complement (convert int (plain 5 (integer_kind UnsignedChar) 0))))))

statement_11 : Statement
statement_11 = expression_statement
    (call 5 Void 1 (one (convert (integer_kind UnsignedLong)
    (compare 5 Equal (convert int (plain 5 (integer_kind SignedChar) 1)) (number 5 128)))))

statement_12 : Statement
statement_12 = expression_statement (call 5 Void 1 (one (convert
    (integer_kind UnsignedLong)
    (compare 5 Equal (convert int (cast 5 (integer_kind Char) (plain 5 (integer_kind SignedChar) 1))) (number 5 128)))))

statement_13 : Statement
statement_13 = expression_statement (call 5 Void 1 (one (convert
    (integer_kind UnsignedLong)
    (binary 5 Divide (plain 5 (integer_kind UnsignedInt) 3) (convert (integer_kind UnsignedInt) (plain 5 int 4))))))

statement_14 : Statement
statement_14 = expression_statement (call 5 Void 1 (one (convert
    (integer_kind UnsignedLong)
    (binary 5 Divide (convert (integer_kind Long) (plain 5 (integer_kind UnsignedInt) 3))
    (plain 5 (integer_kind Long) 5)))))

function_main : Function
function_main = defined 3 0 none
    (plain_variable (integer_kind UnsignedChar) ∷
    plain_variable (integer_kind SignedChar) ∷
    plain_variable (integer_kind UnsignedShort) ∷
    plain_variable (integer_kind UnsignedInt) ∷
    plain_variable int ∷
    plain_variable (integer_kind Long) ∷
    plain_variable (integer_kind UnsignedLong) ∷ [])
    488
    (declaration (one (with_value 0 (convert (integer_kind UnsignedChar) (number 4 255)))) ∷
    declaration (one (with_value 1 (convert (integer_kind SignedChar) (unary 4 Negate (number 4 128))))) ∷
    declaration (one (with_value 2 (convert (integer_kind UnsignedShort) (number 4 65535)))) ∷
    declaration (one (with_value 3 (constant UnsignedInt 4 4294967295))) ∷
    declaration (one (with_value 4 (unary 4 Negate (number 4 1)))) ∷
    declaration (one (with_value 5 (convert (integer_kind Long) (unary 4 Negate (number 4 1))))) ∷
    declaration (one (with_value 6 (convert (integer_kind UnsignedLong) (number 4 1)))) ∷
    statement_1 ∷
    statement_2 ∷
    statement_3 ∷
    statement_4 ∷
    statement_5 ∷
    statement_6 ∷
    statement_7 ∷
    statement_8 ∷
    statement_9 ∷
    statement_10 ∷
    statement_11 ∷
    statement_12 ∷
    statement_13 ∷
    statement_14 ∷
    return (Some (number 6 0)) ∷ [])

program : Program
program = program_of (one hex_digits) (two main_type put_type) (three put_digits put_number function_main) 2

run : seen (meaning program default_sizes [] 400) ≡
    exited (codes "1fe ffffffffffffff7f fffffffffffe0001 0 fffffffe 0 1 0 1 ffffffffffffff00 0 1 1 ffffffff00000001 ") 0
unfolding program put_digits put_number function_main statement_1 statement_2 statement_3 statement_4 statement_5
    statement_6 statement_7 statement_8 statement_9 statement_10 statement_11 statement_12 statement_13 statement_14
    hex_digits put_type computing
run = refl

valid : is_valid_program program ≡ true
unfolding program put_digits put_number function_main statement_1 statement_2 statement_3 statement_4 statement_5
    statement_6 statement_7 statement_8 statement_9 statement_10 statement_11 statement_12 statement_13 statement_14
    hex_digits put_type computing
valid = refl
