-- Initializers, assignments, arguments and results are converted; the value of an assignment is the value as it is
-- stored. The text is rows/stored_conversions.c; gcc 12.2.0 gives the same output and status.
--     void h(unsigned long v){if(v>15)h(v>>4);putchar("0123456789abcdef"[v&15]);}
--     void p(unsigned long v){h(v);putchar(32);}
--     signed char s=200;unsigned short w=-1;int f(signed char c){return c;}short g(void){return 40000;}
--     int main(void){signed char t;unsigned char
-- c;p(s);p(w);p(t=255);p(c=-1);p(f(300));p(g());p(s+=100);p(c<<=1);p(w>>=4);p(s*=-1);return 0;}
use Rattle.c_tree.specs.Programs.{Program, Function}
use Rattle.c_tree.specs.Statements.{Statement, expression_statement, return, declaration}
use Rattle.c_tree.specs.Tree as tree
use Rattle.c_tree.specs.ValidProgram.{is_valid_program}
use Rattle.c_tree.specs.declared.c_type.TypeWord.TheVariants.{Gives, Integer as IntegerWord, Takes}
use Rattle.c_tree.specs.declared.expression.Kind.TheVariants.{Void}
use Rattle.c_tree.specs.declared.expression.Update.TheVariants.{Arithmetic}
use Rattle.obj_memory.specs.declared.int_type.IntType.TheVariants.{Int, Short, SignedChar, UnsignedChar, UnsignedLong}
use Rattle.obj_memory.specs.declared.int_type.IntType.TheVariants.{UnsignedShort}
use Rattle.obj_memory.specs.declared.operator.BinaryOperator.TheVariants.{Add, Multiply, ShiftLeft, ShiftRight}
use Rattle.obj_memory.specs.declared.operator.UnaryOperator.TheVariants.{Negate}
use Rattle.sb_base.specs.Budgets.{default_sizes}
use Rattle.source_meaning.specs.Meaning.{meaning}
use Rattle.source_meaning_rows.proofs.Hexadecimal.{hex_digits, put_digits, put_number, put_type}
use Rattle.source_meaning_rows.proofs.Samples.{call, change_plain, compound, computing, content, convert, defined}
use Rattle.source_meaning_rows.proofs.Samples.{exited, five, four, function_type, int, integer_kind, lvalue, main_type}
use Rattle.source_meaning_rows.proofs.Samples.{none, number, one, part, plain, plain_variable, program_of, read, seen}
use Rattle.source_meaning_rows.proofs.Samples.{set_plain, static_object, three, two, unary, without_value}
use Rattle.std.proofs.Common.{Some, [], refl, true, ◌∷◌, ◌≡◌}
use Rattle.std.specs.Prelude.{codes}

function_f : Function
function_f = defined 3 2
    (one (plain_variable (integer_kind SignedChar)))
    none
    240
    (one (return (Some (convert int (plain 3 (integer_kind SignedChar) 0)))))

function_g : Function
function_g = defined 3 3 none none 168 (one (return (Some (convert (integer_kind Short) (number 3 40000)))))

statement_1 : Statement
statement_1 = expression_statement
    (call 4 Void 1 (one (convert (integer_kind UnsignedLong)
    (read (lvalue 4 (integer_kind SignedChar) (tree.static 1))))))

statement_2 : Statement
statement_2 = expression_statement
    (call 4 Void 1 (one (convert (integer_kind UnsignedLong)
    (read (lvalue 4 (integer_kind UnsignedShort) (tree.static 2))))))

statement_3 : Statement
statement_3 = expression_statement
    (call 4 Void 1 (one (convert (integer_kind UnsignedLong)
    (set_plain 4 0 (convert (integer_kind SignedChar) (number 4 255))))))

statement_4 : Statement
statement_4 = expression_statement
    (call 4 Void 1 (one (convert (integer_kind UnsignedLong)
    (set_plain 4 1 (convert (integer_kind UnsignedChar) (unary 4 Negate (number 4 1)))))))

statement_5 : Statement
statement_5 = expression_statement
    (call 4 Void 1 (one (convert (integer_kind UnsignedLong)
    (call 4 int 2 (one (convert (integer_kind SignedChar) (number 4 300)))))))

statement_6 : Statement
statement_6 = expression_statement (call 4 Void 1 (one (convert
    (integer_kind UnsignedLong)
    (compound 4 (Arithmetic Add Int) (lvalue 4 (integer_kind SignedChar) (tree.static 1)) (number 4 100)))))

statement_7 : Statement
statement_7 = expression_statement
    (call 4 Void 1 (one (convert (integer_kind UnsignedLong)
    (change_plain 4 (integer_kind UnsignedChar) (Arithmetic ShiftLeft Int) 1 (number 4 1)))))

statement_8 : Statement
statement_8 = expression_statement (call 4 Void 1 (one (convert
    (integer_kind UnsignedLong)
    (compound 4 (Arithmetic ShiftRight Int) (lvalue 4 (integer_kind UnsignedShort) (tree.static 2)) (number 4 4)))))

statement_9 : Statement
statement_9 = expression_statement (call 4 Void 1 (one (convert
    (integer_kind UnsignedLong)
    (compound 4 (Arithmetic Multiply Int) (lvalue 4 (integer_kind SignedChar) (tree.static 1))
    (unary 4 Negate (number 4 1))))))

function_main : Function
function_main = defined 4 0 none
    (two (plain_variable (integer_kind SignedChar)) (plain_variable (integer_kind UnsignedChar)))
    288
    ((declaration (without_value 0 ∷ without_value 1 ∷ []))
    ∷ statement_1
    ∷ statement_2
    ∷ statement_3
    ∷ statement_4
    ∷ statement_5
    ∷ (expression_statement
    (call 4 Void 1 (one (convert (integer_kind UnsignedLong) (call 4 (integer_kind Short) 3 none)))))
    ∷ statement_6
    ∷ statement_7
    ∷ statement_8
    ∷ statement_9
    ∷ (return (Some (number 4 0)))
    ∷ [])

program : Program
program = program_of
    (three hex_digits
    (static_object (integer_kind SignedChar)
    (one (part 0 (content (convert (integer_kind SignedChar) (number 3 200))))))
    (static_object
    (integer_kind UnsignedShort)
    (one (part 0 (content (convert (integer_kind UnsignedShort) (unary 3 Negate (number 3 1))))))))
    (four main_type put_type
    (function_type (Takes ∷ (IntegerWord SignedChar) ∷ Gives ∷ (IntegerWord Int) ∷ [])
    (one (integer_kind SignedChar)) int)
    (function_type (Gives ∷ (IntegerWord Short) ∷ []) none (integer_kind Short)))
    (five put_digits put_number function_f function_g function_main)
    4

run : seen (meaning program default_sizes [] 400) ≡
    exited (codes "ffffffffffffffc8 ffff ffffffffffffffff ff 2c ffffffffffff9c40 2c fe fff ffffffffffffffd4 ") 0
unfolding program put_digits put_number function_f function_g function_main statement_1 statement_2 statement_3
    statement_4 statement_5 statement_6 statement_7 statement_8 statement_9 hex_digits put_type computing
run = refl

valid : is_valid_program program ≡ true
unfolding program put_digits put_number function_f function_g function_main statement_1 statement_2 statement_3
    statement_4 statement_5 statement_6 statement_7 statement_8 statement_9 hex_digits put_type computing
valid = refl
