-- The text is rows/mutual_calls.c; gcc 12.2.0 gives the same output and status.
--     int odd(int n);int even(int n){return n==0||odd(n-1);}int odd(int n){return n!=0&&even(n-1);}int
-- main(void){return even(10)*2+odd(7);}
use Rattle.c_tree.specs.Programs.{Program, Function}
use Rattle.c_tree.specs.Statements.{Statement, return}
use Rattle.c_tree.specs.ValidProgram.{is_valid_program}
use Rattle.c_tree.specs.declared.c_type.TypeWord.TheVariants.{Gives, Integer as IntegerWord, Takes}
use Rattle.obj_memory.specs.declared.int_type.IntType.TheVariants.{Int}
use Rattle.obj_memory.specs.declared.operator.BinaryOperator.TheVariants.{Add, Equal, Multiply, NotEqual, Subtract}
use Rattle.sb_base.specs.Budgets.{default_sizes}
use Rattle.source_meaning.specs.Meaning.{meaning}
use Rattle.source_meaning_rows.proofs.Samples.{binary, call, compare, computing, defined, exited, function_type, int}
use Rattle.source_meaning_rows.proofs.Samples.{logical_and, logical_or, main_type, none, number, one, plain}
use Rattle.source_meaning_rows.proofs.Samples.{plain_variable, program_of, seen, three, two}
use Rattle.std.proofs.Common.{Some, [], refl, true, ◌∷◌, ◌≡◌}

statement_1 : Statement
statement_1 = return (Some (logical_or 1
    (compare 1 Equal (plain 1 int 0) (number 1 0))
    (call 1 int 1 (one (binary 1 Subtract (plain 1 int 0) (number 1 1))))))

function_even : Function
function_even = defined 1 1 (one (plain_variable int)) none 280 (one statement_1)

statement_2 : Statement
statement_2 = return (Some (logical_and 1
    (compare 1 NotEqual (plain 1 int 0) (number 1 0))
    (call 1 int 0 (one (binary 1 Subtract (plain 1 int 0) (number 1 1))))))

function_odd : Function
function_odd = defined 1 1 (one (plain_variable int)) none 280 (one statement_2)

statement_3 : Statement
statement_3 = return (Some
    (binary 1 Add (binary 1 Multiply (call 1 int 0 (one (number 1 10))) (number 1 2))
    (call 1 int 1 (one (number 1 7)))))

function_main : Function
function_main = defined 1 0 none none 208 (one statement_3)

program : Program
program = program_of none
    (two main_type (function_type (Takes ∷ (IntegerWord Int) ∷ Gives ∷ (IntegerWord Int) ∷ []) (one int) int))
    (three function_even function_odd function_main)
    2

run : seen (meaning program default_sizes [] 40) ≡ exited [] 3
unfolding program function_even function_odd function_main statement_1 statement_2 statement_3 computing
run = refl

valid : is_valid_program program ≡ true
unfolding program function_even function_odd function_main statement_1 statement_2 statement_3 computing
valid = refl
