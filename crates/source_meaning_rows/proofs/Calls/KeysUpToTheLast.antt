-- `int f(void){int a[1];int b[2];a[0]=3;b[1]=4;return a[0]+b[1];}int main(void){char*p=malloc(1);*p=1;return *p+f();}`
-- All objects of a call have one key. The text is rows/keys_up_to_the_last.c; gcc 12.2.0 gives the same output and
-- status.
use Rattle.c_tree.specs.Programs.{Program, Function}
use Rattle.c_tree.specs.Statements.{Statement, expression_statement, declaration, return}
use Rattle.c_tree.specs.Tree as tree
use Rattle.c_tree.specs.ValidProgram.{is_valid_program}
use Rattle.c_tree.specs.declared.expression.Kind.TheVariants.{Array}
use Rattle.c_tree.specs.declared.expression.Routine.TheVariants.{Malloc}
use Rattle.obj_memory.specs.declared.int_type.IntType.TheVariants.{Char, UnsignedLong}
use Rattle.obj_memory.specs.declared.operator.BinaryOperator.TheVariants.{Add}
use Rattle.sb_base.specs.Budgets.{default_sizes}
use Rattle.source_meaning.specs.Meaning.{meaning}
use Rattle.source_meaning_rows.proofs.Samples.{assign, binary, call, computing, convert, decay, defined, deref, exited}
use Rattle.source_meaning_rows.proofs.Samples.{index, int, integer_kind, library, lvalue, main_type, none, number}
use Rattle.source_meaning_rows.proofs.Samples.{object_variable, one, plain, plain_variable, pointer, program_of, read}
use Rattle.source_meaning_rows.proofs.Samples.{seen, three, two, with_value, without_value}
use Rattle.std.proofs.Common.{Some, [], refl, true, ◌≡◌, ◌∷◌}

statement_1 : Statement
statement_1 = return (Some (binary 1 Add
    (read (index 1 int (decay (lvalue 1 (Array 4) (tree.automatic 0))) (number 1 0)))
    (read (index 1 int (decay (lvalue 1 (Array 8) (tree.automatic 1))) (number 1 1)))))

function_f : Function
function_f = defined 1 0 none
    (two (object_variable (Array 4)) (object_variable (Array 8)))
    328
    ((declaration (without_value 0 ∷ without_value 1 ∷ []))
    ∷ (expression_statement
    (assign 1 (index 1 int (decay (lvalue 1 (Array 4) (tree.automatic 0))) (number 1 0)) (number 1 3)))
    ∷ (expression_statement
    (assign 1 (index 1 int (decay (lvalue 1 (Array 8) (tree.automatic 1))) (number 1 1)) (number 1 4)))
    ∷ statement_1
    ∷ [])

statement_2 : Statement
statement_2 = expression_statement
    (assign 1 (deref 1 (integer_kind Char) (plain 1 pointer 0)) (convert (integer_kind Char) (number 1 1)))

statement_3 : Statement
statement_3 = return (Some
    (binary 1 Add (convert int (read (deref 1 (integer_kind Char) (plain 1 pointer 0)))) (call 1 int 0 none)))

function_main : Function
function_main = defined 1 0 none
    (one (plain_variable pointer))
    248
    (three
    (declaration (one (with_value 0
    (library 1 pointer Malloc (one (convert (integer_kind UnsignedLong) (number 1 1)))))))
    statement_2
    statement_3)

program : Program
program = program_of none (one main_type) (two function_f function_main) 1

run : seen (meaning program (record default_sizes { keys = 2 }) [] 20) ≡ exited [] 8
unfolding program function_f function_main statement_1 statement_2 statement_3 computing
run = refl

valid : is_valid_program program ≡ true
unfolding program function_f function_main statement_1 statement_2 statement_3 computing
valid = refl
