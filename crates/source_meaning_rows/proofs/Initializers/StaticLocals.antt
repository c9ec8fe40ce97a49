-- A static object of a block keeps its value, and is apart from others of its name. The text is rows/static_locals.c;
-- gcc 12.2.0 gives the same output and status.
--     int f(void){static int n=5;static char s[]="ab";n++;s[0]++;return n*10+s[0]-97;}int g(void){static int n;return
-- ++n;}
--     int main(void){static int n=7;f();g();f();g();return f()+g()+n;}
use Rattle.c_tree.specs.Programs.{Program, Function}
use Rattle.c_tree.specs.Statements.{Statement, expression_statement, return, literal_content}
use Rattle.c_tree.specs.Tree as tree
use Rattle.c_tree.specs.ValidProgram.{is_valid_program}
use Rattle.c_tree.specs.declared.expression.Fixity.TheVariants.{Postfix, Prefix}
use Rattle.c_tree.specs.declared.expression.Kind.TheVariants.{Array}
use Rattle.c_tree.specs.declared.expression.Update.TheVariants.{Arithmetic}
use Rattle.obj_memory.specs.declared.int_type.IntType.TheVariants.{Char, Int}
use Rattle.obj_memory.specs.declared.operator.BinaryOperator.TheVariants.{Add, Multiply, Subtract}
use Rattle.sb_base.specs.Budgets.{default_sizes}
use Rattle.source_meaning.specs.Meaning.{meaning}
use Rattle.source_meaning_rows.proofs.Samples.{binary, call, computing, content, convert, decay, defined, exited, five}
use Rattle.source_meaning_rows.proofs.Samples.{four, index, int, integer_kind, lvalue, main_type, none, number, one}
use Rattle.source_meaning_rows.proofs.Samples.{part, program_of, read, seen, static_object, step, three}
use Rattle.std.proofs.Common.{Some, [], refl, true, ◌++◌, ◌∷◌, ◌≡◌}
use Rattle.std.specs.Prelude.{codes}

statement_1 : Statement
statement_1 = expression_statement
    (step 1 (Arithmetic Add Int) Postfix
    (index 1 (integer_kind Char) (decay (lvalue 1 (Array 3) (tree.static 1))) (number 1 0)))

statement_2 : Statement
statement_2 = return (Some (binary 1 Subtract
    (binary 1 Add
    (binary 1 Multiply (read (lvalue 1 int (tree.static 0))) (number 1 10))
    (convert int (read (index 1 (integer_kind Char) (decay (lvalue 1 (Array 3) (tree.static 1))) (number 1 0)))))
    (number 1 97)))

function_f : Function
function_f = defined 1 0 none none 248
    (three (expression_statement (step 1 (Arithmetic Add Int) Postfix (lvalue 1 int (tree.static 0))))
    statement_1 statement_2)

function_g : Function
function_g = defined 1 0 none none 168
    (one (return (Some (step 1 (Arithmetic Add Int) Prefix (lvalue 1 int (tree.static 2))))))

statement_3 : Statement
statement_3 = return (Some
    (binary 2 Add (binary 2 Add (call 2 int 0 none) (call 2 int 1 none)) (read (lvalue 2 int (tree.static 3)))))

function_main : Function
function_main = defined 2 0 none none 208 (five
    (expression_statement (call 2 int 0 none))
    (expression_statement (call 2 int 1 none))
    (expression_statement (call 2 int 0 none))
    (expression_statement (call 2 int 1 none))
    statement_3)

program : Program
program = program_of
    (four
    (static_object int (one (part 0 (content (number 1 5)))))
    (static_object (Array 3) (one (part 0 (literal_content (codes "ab" ++ 0 ∷ [])))))
    (static_object int none)
    (static_object int (one (part 0 (content (number 2 7))))))
    (one main_type)
    (three function_f function_g function_main)
    2

run : seen (meaning program default_sizes [] 40) ≡ exited [] 93
unfolding program function_f function_g function_main statement_1 statement_2 statement_3 computing
run = refl

valid : is_valid_program program ≡ true
unfolding program function_f function_g function_main statement_1 statement_2 statement_3 computing
valid = refl
