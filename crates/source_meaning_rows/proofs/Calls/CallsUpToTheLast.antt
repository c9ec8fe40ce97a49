-- `int f(int n){putchar(46);if(n>1)return f(n-1);return 7;}int main(void){return f(13)+f(13);}`
-- The room of main is 208 and that of f 280, so 13 calls of f fit in 4096 bytes; the charge goes back at each return.
-- The text is rows/calls_up_to_the_last.c; gcc 12.2.0 gives the same output and status.
use Rattle.c_tree.specs.Programs.{Program, Function}
use Rattle.c_tree.specs.Statements.{Statement, expression_statement, if_then, return}
use Rattle.c_tree.specs.ValidProgram.{is_valid_program}
use Rattle.c_tree.specs.declared.c_type.TypeWord.TheVariants.{Gives, Integer as IntegerWord, Takes}
use Rattle.c_tree.specs.declared.expression.Routine.TheVariants.{Putchar}
use Rattle.obj_memory.specs.declared.int_type.IntType.TheVariants.{Int}
use Rattle.obj_memory.specs.declared.operator.BinaryOperator.TheVariants.{Add, Greater, Subtract}
use Rattle.sb_base.specs.Budgets.{default_sizes}
use Rattle.source_meaning.specs.Meaning.{meaning}
use Rattle.source_meaning_rows.proofs.Samples.{binary, call, compare, computing, defined, exited, function_type, int}
use Rattle.source_meaning_rows.proofs.Samples.{library, main_type, none, number, one, plain, plain_variable, program_of}
use Rattle.source_meaning_rows.proofs.Samples.{seen, three, two}
use Rattle.std.proofs.Common.{None, Some, [], refl, true, ◌∷◌, ◌≡◌}
use Rattle.std.specs.Prelude.{codes}

statement_1 : Statement
statement_1 = if_then
    (compare 1 Greater (plain 1 int 0) (number 1 1))
    ((return (Some (call 1 int 0 (one (binary 1 Subtract (plain 1 int 0) (number 1 1)))))))

function_f : Function
function_f = defined 1 1
    (one (plain_variable int))
    none
    280
    (three (expression_statement (library 1 int Putchar (one (number 1 46)))) statement_1 (return (Some (number 1 7))))

function_main : Function
function_main = defined 1 0 none none 208
    (one (return (Some (binary 1 Add (call 1 int 0 (one (number 1 13))) (call 1 int 0 (one (number 1 13)))))))

program : Program
program = program_of none
    (two main_type (function_type (Takes ∷ (IntegerWord Int) ∷ Gives ∷ (IntegerWord Int) ∷ []) (one int) int))
    (two function_f function_main)
    1

run : seen (meaning program (record default_sizes { calls = 4096 }) [] 40)
    ≡ exited (codes "..........................") 14
unfolding program function_f function_main statement_1 computing
run = refl

valid : is_valid_program program ≡ true
unfolding program function_f function_main statement_1 computing
valid = refl
