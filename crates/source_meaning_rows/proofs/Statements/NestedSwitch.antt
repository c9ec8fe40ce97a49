-- break leaves the inner switch alone, and what is behind it is reached. The text is rows/nested_switch.c; gcc 12.2.0
-- gives the same output and status.
--     int f(int m,int n){switch(m){case 0:switch(n){case 1:return 1;case 2:break;default:return 3;}case 5:return
-- 4;default:{switch(n){default:break;case 7:return 5;}}}return 6;}int
-- main(void){putchar(48+f(0,1));putchar(48+f(0,2));putchar(48+f(0,9));putchar(48+f(5,1));putchar(48+f(9,1));return
-- f(9,7);}
use Rattle.c_tree.specs.Programs.{Program, Function}
use Rattle.c_tree.specs.Statements.{Statement, expression_statement, break, return}
use Rattle.c_tree.specs.ValidProgram.{is_valid_program}
use Rattle.c_tree.specs.declared.c_type.TypeWord.TheVariants.{Gives, Integer as IntegerWord, Takes}
use Rattle.c_tree.specs.declared.expression.Routine.TheVariants.{Putchar}
use Rattle.c_tree.specs.declared.statement.CaseLabel.TheVariants.{Case, Default}
use Rattle.obj_memory.specs.declared.int_type.IntType.TheVariants.{Int}
use Rattle.obj_memory.specs.declared.operator.BinaryOperator.TheVariants.{Add}
use Rattle.sb_base.specs.Budgets.{default_sizes}
use Rattle.source_meaning.specs.Meaning.{meaning}
use Rattle.source_meaning_rows.proofs.Samples.{binary, block_of, call, computing, defined, exited, function_type, int}
use Rattle.source_meaning_rows.proofs.Samples.{item, library, main_type, none, number, one, plain, plain_variable}
use Rattle.source_meaning_rows.proofs.Samples.{program_of, seen, six, switch_of, three, two}
use Rattle.std.proofs.Common.{Some, [], refl, true, ◌∷◌, ◌≡◌}
use Rattle.std.specs.Prelude.{codes}

statement_1 : Statement
statement_1 = switch_of (plain 1 int 1) 1 (three
    (item (one (Case 1)) (return (Some (number 1 1))))
    (item (one (Case 2)) break)
    (item (one Default) (return (Some (number 1 3)))))

statement_2 : Statement
statement_2 = block_of 1
    (one (switch_of (plain 1 int 1) 1
    (two (item (one Default) break) (item (one (Case 7)) (return (Some (number 1 5)))))))

statement_3 : Statement
statement_3 = switch_of (plain 1 int 0) 1
    (three (item (one (Case 0)) statement_1) (item (one (Case 5)) (return (Some (number 1 4))))
    (item (one Default) statement_2))

function_f : Function
function_f = defined 1 1 (two (plain_variable int) (plain_variable int)) none 312
    (two statement_3 (return (Some (number 1 6))))

statement_4 : Statement
statement_4 = expression_statement
    (library 1 int Putchar (one (binary 1 Add (number 1 48) (call 1 int 0 (two (number 1 0) (number 1 1))))))

statement_5 : Statement
statement_5 = expression_statement
    (library 1 int Putchar (one (binary 1 Add (number 1 48) (call 1 int 0 (two (number 1 0) (number 1 2))))))

statement_6 : Statement
statement_6 = expression_statement
    (library 1 int Putchar (one (binary 1 Add (number 1 48) (call 1 int 0 (two (number 1 0) (number 1 9))))))

statement_7 : Statement
statement_7 = expression_statement
    (library 1 int Putchar (one (binary 1 Add (number 1 48) (call 1 int 0 (two (number 1 5) (number 1 1))))))

statement_8 : Statement
statement_8 = expression_statement
    (library 1 int Putchar (one (binary 1 Add (number 1 48) (call 1 int 0 (two (number 1 9) (number 1 1))))))

function_main : Function
function_main = defined 1 0 none none 248
    (six statement_4 statement_5 statement_6 statement_7 statement_8
    (return (Some (call 1 int 0 (two (number 1 9) (number 1 7))))))

program : Program
program = program_of none
    (two main_type (function_type
    (Takes ∷ (IntegerWord Int) ∷ Takes ∷ (IntegerWord Int) ∷ Gives ∷ (IntegerWord Int) ∷ []) (two int int) int))
    (two function_f function_main)
    1

run : seen (meaning program default_sizes [] 40) ≡ exited (codes "14346") 5
unfolding program function_f function_main statement_1 statement_2 statement_3 statement_4 statement_5 statement_6
    statement_7 statement_8 computing
run = refl

valid : is_valid_program program ≡ true
unfolding program function_f function_main statement_1 statement_2 statement_3 statement_4 statement_5 statement_6
    statement_7 statement_8 computing
valid = refl
