-- `void f(int n){if(n==0)exit(300);putchar(48+n);f(n-1);}int main(void){f(2);return 1;}`
-- The text is rows/exit_in_call.c; gcc 12.2.0 gives the same output and status.
use Rattle.c_tree.specs.Programs.{Program, Function}
use Rattle.c_tree.specs.Statements.{Statement, expression_statement, if_then, return}
use Rattle.c_tree.specs.ValidProgram.{is_valid_program}
use Rattle.c_tree.specs.declared.c_type.TypeWord.TheVariants.{Gives, Integer as IntegerWord, Takes, Void as VoidWord}
use Rattle.c_tree.specs.declared.expression.Kind.TheVariants.{Void}
use Rattle.c_tree.specs.declared.expression.Routine.TheVariants.{Exit, Putchar}
use Rattle.obj_memory.specs.declared.int_type.IntType.TheVariants.{Int}
use Rattle.obj_memory.specs.declared.operator.BinaryOperator.TheVariants.{Add, Equal, Subtract}
use Rattle.sb_base.specs.Budgets.{default_sizes}
use Rattle.source_meaning.specs.Meaning.{meaning}
use Rattle.source_meaning_rows.proofs.Samples.{binary, call, compare, computing, defined, exited, function_type, int}
use Rattle.source_meaning_rows.proofs.Samples.{library, main_type, none, number, one, plain, plain_variable, program_of}
use Rattle.source_meaning_rows.proofs.Samples.{seen, three, two}
use Rattle.std.proofs.Common.{None, Some, [], refl, true, ◌∷◌, ◌≡◌}
use Rattle.std.specs.Prelude.{codes}

statement_1 : Statement
statement_1 = if_then (compare 1 Equal (plain 1 int 0) (number 1 0))
    ((expression_statement (library 1 Void Exit (one (number 1 300)))))

function_f : Function
function_f = defined 1 1
    (one (plain_variable int))
    none
    280
    (three statement_1
    (expression_statement (library 1 int Putchar (one (binary 1 Add (number 1 48) (plain 1 int 0)))))
    (expression_statement (call 1 Void 0 (one (binary 1 Subtract (plain 1 int 0) (number 1 1))))))

function_main : Function
function_main = defined 1 0 none none 168
    (two (expression_statement (call 1 Void 0 (one (number 1 2)))) (return (Some (number 1 1))))

program : Program
program = program_of none
    (two main_type (function_type (Takes ∷ (IntegerWord Int) ∷ Gives ∷ VoidWord ∷ []) (one int) Void))
    (two function_f function_main)
    1

run : seen (meaning program default_sizes [] 20) ≡ exited (codes "21") 44
unfolding program function_f function_main statement_1 computing
run = refl

valid : is_valid_program program ≡ true
unfolding program function_f function_main statement_1 computing
valid = refl
