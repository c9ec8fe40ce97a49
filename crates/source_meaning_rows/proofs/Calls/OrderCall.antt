-- The called pointer is evaluated first, then the arguments from left to right. The text is rows/order_call.c.
--     int s(int a,int b){return a-b;}
--     int(*g(void))(int,int){putchar(71);return s;}
--     int main(void){s(putchar(65),putchar(66));return g()(putchar(67)+3,putchar(68));}
use Rattle.c_tree.specs.Programs.{Program, Function}
use Rattle.c_tree.specs.Statements.{Statement, expression_statement, return}
use Rattle.c_tree.specs.ValidProgram.{is_valid_program}
use Rattle.c_tree.specs.declared.c_type.TypeWord.TheVariants.{Gives, Integer as IntegerWord, Pointer as PointerWord}
use Rattle.c_tree.specs.declared.c_type.TypeWord.TheVariants.{Takes}
use Rattle.c_tree.specs.declared.expression.Routine.TheVariants.{Putchar}
use Rattle.obj_memory.specs.declared.int_type.IntType.TheVariants.{Int}
use Rattle.obj_memory.specs.declared.operator.BinaryOperator.TheVariants.{Add, Subtract}
use Rattle.sb_base.specs.Budgets.{default_sizes}
use Rattle.source_meaning.specs.Meaning.{meaning}
use Rattle.source_meaning_rows.proofs.Samples.{binary, call, call_through, computing, defined, exited, function}
use Rattle.source_meaning_rows.proofs.Samples.{function_type, int, library, main_type, none, number, one, plain}
use Rattle.source_meaning_rows.proofs.Samples.{plain_variable, pointer, program_of, seen, three, two}
use Rattle.std.proofs.Common.{Some, [], refl, true, ◌∷◌, ◌≡◌}
use Rattle.std.specs.Prelude.{codes}

function_s : Function
function_s = defined 1 1
    (two (plain_variable int) (plain_variable int))
    none
    352
    (one (return (Some (binary 1 Subtract (plain 1 int 0) (plain 1 int 1)))))

function_g : Function
function_g = defined 2 2 none none 168
    (two (expression_statement (library 2 int Putchar (one (number 2 71)))) (return (Some (function 2 0))))

statement_1 : Statement
statement_1 = expression_statement
    (call 3 int 0 (two (library 3 int Putchar (one (number 3 65))) (library 3 int Putchar (one (number 3 66)))))

statement_2 : Statement
statement_2 = return (Some
    (call_through 3 int 1 (call 3 pointer 1 none)
    (two (binary 3 Add (library 3 int Putchar (one (number 3 67))) (number 3 3))
    (library 3 int Putchar (one (number 3 68))))))

function_main : Function
function_main = defined 3 0 none none 248 (two statement_1 statement_2)

program : Program
program = program_of none
    (three main_type
    (function_type (Takes ∷ (IntegerWord Int) ∷ Takes ∷ (IntegerWord Int) ∷ Gives ∷ (IntegerWord Int) ∷ [])
    (two int int) int)
    (function_type
    (Gives ∷ PointerWord ∷ Takes ∷ (IntegerWord Int) ∷ Takes ∷ (IntegerWord Int) ∷ Gives ∷ (IntegerWord Int) ∷ [])
    none
    pointer))
    (three function_s function_g function_main)
    2

run : seen (meaning program default_sizes [] 20) ≡ exited (codes "ABGCD") 2
unfolding program function_s function_g function_main statement_1 statement_2 computing
run = refl

valid : is_valid_program program ≡ true
unfolding program function_s function_g function_main statement_1 statement_2 computing
valid = refl
