-- Operands from left to right; what && and || do not need, and the other part of a conditional, is not evaluated. The
-- text is rows/order_operands.c; gcc 12.2.0 gives the same output and status.
--     int f(int c){putchar(c);return c-64;}
--     int main(void){int r=f(65)+f(66)*f(67);(f(68),f(69));if(f(70)&&!f(71)&&f(72))f(73);if(f(64)||f(74))f(75);return
-- r+(f(76)?f(77):f(78));}
use Rattle.c_tree.specs.Programs.{Program, Function}
use Rattle.c_tree.specs.Statements.{Statement, expression_statement, declaration, if_then, return}
use Rattle.c_tree.specs.ValidProgram.{is_valid_program}
use Rattle.c_tree.specs.declared.c_type.TypeWord.TheVariants.{Gives, Integer as IntegerWord, Takes}
use Rattle.c_tree.specs.declared.expression.Routine.TheVariants.{Putchar}
use Rattle.obj_memory.specs.declared.int_type.IntType.TheVariants.{Int}
use Rattle.obj_memory.specs.declared.operator.BinaryOperator.TheVariants.{Add, Multiply, Subtract}
use Rattle.sb_base.specs.Budgets.{default_sizes}
use Rattle.source_meaning.specs.Meaning.{meaning}
use Rattle.source_meaning_rows.proofs.Samples.{binary, call, comma, computing, conditional, defined, exited, five}
use Rattle.source_meaning_rows.proofs.Samples.{function_type, int, library, logical_and, logical_not, logical_or}
use Rattle.source_meaning_rows.proofs.Samples.{main_type, none, number, one, parenthesized, plain, plain_variable}
use Rattle.source_meaning_rows.proofs.Samples.{program_of, seen, two, with_value}
use Rattle.std.proofs.Common.{None, Some, [], refl, true, ◌∷◌, ◌≡◌}
use Rattle.std.specs.Prelude.{codes}

function_f : Function
function_f = defined 1 1
    (one (plain_variable int))
    none
    280
    (two
    (expression_statement (library 1 int Putchar (one (plain 1 int 0))))
    (return (Some (binary 1 Subtract (plain 1 int 0) (number 1 64)))))

statement_1 : Statement
statement_1 = declaration (one (with_value 0 (binary 2 Add
    (call 2 int 0 (one (number 2 65)))
    (binary 2 Multiply (call 2 int 0 (one (number 2 66))) (call 2 int 0 (one (number 2 67)))))))

statement_2 : Statement
statement_2 = if_then
    (logical_and 2
    (logical_and 2 (call 2 int 0 (one (number 2 70))) (logical_not 2 (call 2 int 0 (one (number 2 71)))))
    (call 2 int 0 (one (number 2 72))))
    ((expression_statement (call 2 int 0 (one (number 2 73)))))

statement_3 : Statement
statement_3 = if_then
    (logical_or 2 (call 2 int 0 (one (number 2 64))) (call 2 int 0 (one (number 2 74))))
    ((expression_statement (call 2 int 0 (one (number 2 75)))))

statement_4 : Statement
statement_4 = return (Some
    (binary 2 Add (plain 2 int 0)
    (parenthesized (conditional 2 (call 2 int 0 (one (number 2 76))) (call 2 int 0 (one (number 2 77)))
    (call 2 int 0 (one (number 2 78)))))))

function_main : Function
function_main = defined 2 0 none
    (one (plain_variable int))
    288
    (five statement_1
    (expression_statement
    (parenthesized (comma 2 (call 2 int 0 (one (number 2 68))) (call 2 int 0 (one (number 2 69))))))
    statement_2
    statement_3
    statement_4)

program : Program
program = program_of none
    (two main_type (function_type (Takes ∷ (IntegerWord Int) ∷ Gives ∷ (IntegerWord Int) ∷ []) (one int) int))
    (two function_f function_main)
    1

run : seen (meaning program default_sizes [] 40) ≡ exited (codes "ABCDEFG@JKLM") 20
unfolding program function_f function_main statement_1 statement_2 statement_3 statement_4 computing
run = refl

valid : is_valid_program program ≡ true
unfolding program function_f function_main statement_1 statement_2 statement_3 statement_4 computing
valid = refl
