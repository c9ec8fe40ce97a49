-- `int f(void){putchar(65);return 3;}int main(void){int x;(void)f();x=(f(),f()+1);return x;}`
-- The text is rows/comma_and_void.c; gcc 12.2.0 gives the same output and status.
use Rattle.c_tree.specs.Programs.{Program, Function}
use Rattle.c_tree.specs.Statements.{Statement, expression_statement, return, declaration}
use Rattle.c_tree.specs.ValidProgram.{is_valid_program}
use Rattle.c_tree.specs.declared.expression.Kind.TheVariants.{Void}
use Rattle.c_tree.specs.declared.expression.Routine.TheVariants.{Putchar}
use Rattle.obj_memory.specs.declared.operator.BinaryOperator.TheVariants.{Add}
use Rattle.sb_base.specs.Budgets.{default_sizes}
use Rattle.source_meaning.specs.Meaning.{meaning}
use Rattle.source_meaning_rows.proofs.Samples.{binary, call, cast, comma, computing, defined, exited, int, library}
use Rattle.source_meaning_rows.proofs.Samples.{main_type, none, number, one, parenthesized, plain, plain_variable}
use Rattle.source_meaning_rows.proofs.Samples.{program_of, seen, set_plain, three, two, without_value}
use Rattle.std.proofs.Common.{Some, [], refl, true, ◌≡◌, ◌∷◌}
use Rattle.std.specs.Prelude.{codes}

function_f : Function
function_f = defined 1 0 none none 168
    (two (expression_statement (library 1 int Putchar (one (number 1 65)))) (return (Some (number 1 3))))

statement_1 : Statement
statement_1 = expression_statement
    (set_plain 1 0 (parenthesized (comma 1 (call 1 int 0 none) (binary 1 Add (call 1 int 0 none) (number 1 1)))))

function_main : Function
function_main = defined 1 0 none
    (one (plain_variable int))
    288
    ((declaration (without_value 0 ∷ []))
    ∷ (expression_statement (cast 1 Void (call 1 int 0 none)))
    ∷ statement_1
    ∷ (return (Some (plain 1 int 0)))
    ∷ [])

program : Program
program = program_of none (one main_type) (two function_f function_main) 1

run : seen (meaning program default_sizes [] 20) ≡ exited (codes "AAA") 4
unfolding program function_f function_main statement_1 computing
run = refl

valid : is_valid_program program ≡ true
unfolding program function_f function_main statement_1 computing
valid = refl
