-- A value that no label has goes to the default label, wherever it stands, and falls through from there. The text is
-- rows/switch_default_in_the_middle.c; gcc 12.2.0 gives the same output and status.
--     int f(int n){int r=0;switch(n){case 1:r=r+1;break;default:r=r+2;case 3:r=r+4;break;case 4:case 5:r=r+8;}return
-- r;}
--     int main(void){int i;for(i=0;i<7;i++)putchar(48+f(i));return 0;}
use Rattle.c_tree.specs.Programs.{Program, Function}
use Rattle.c_tree.specs.Statements.{Statement, expression_statement, declaration, for, break, return, first_expression}
use Rattle.c_tree.specs.ValidProgram.{is_valid_program}
use Rattle.c_tree.specs.declared.c_type.TypeWord.TheVariants.{Gives, Integer as IntegerWord, Takes}
use Rattle.c_tree.specs.declared.expression.Fixity.TheVariants.{Postfix}
use Rattle.c_tree.specs.declared.expression.Routine.TheVariants.{Putchar}
use Rattle.c_tree.specs.declared.expression.Update.TheVariants.{Arithmetic}
use Rattle.c_tree.specs.declared.statement.CaseLabel.TheVariants.{Case, Default}
use Rattle.obj_memory.specs.declared.int_type.IntType.TheVariants.{Int}
use Rattle.obj_memory.specs.declared.operator.BinaryOperator.TheVariants.{Add, Less}
use Rattle.sb_base.specs.Budgets.{default_sizes}
use Rattle.source_meaning.specs.Meaning.{meaning}
use Rattle.source_meaning_rows.proofs.Samples.{binary, call, compare, computing, defined, exited, function_type, int}
use Rattle.source_meaning_rows.proofs.Samples.{item, library, main_type, none, number, one, plain, plain_variable}
use Rattle.source_meaning_rows.proofs.Samples.{program_of, seen, set_plain, six, step_plain, switch_of, three, two}
use Rattle.source_meaning_rows.proofs.Samples.{with_value, without_value}
use Rattle.std.proofs.Common.{Some, [], refl, true, ◌∷◌, ◌≡◌}
use Rattle.std.specs.Prelude.{codes}

statement_1 : Statement
statement_1 = switch_of (plain 1 int 0) 1 (six
    (item (one (Case 1)) (expression_statement (set_plain 1 1 (binary 1 Add (plain 1 int 1) (number 1 1)))))
    (item none break)
    (item (one Default) (expression_statement (set_plain 1 1 (binary 1 Add (plain 1 int 1) (number 1 2)))))
    (item (one (Case 3)) (expression_statement (set_plain 1 1 (binary 1 Add (plain 1 int 1) (number 1 4)))))
    (item none break)
    (item (two (Case 4) (Case 5)) (expression_statement (set_plain 1 1 (binary 1 Add (plain 1 int 1) (number 1 8))))))

function_f : Function
function_f = defined 1 1
    (one (plain_variable int))
    (one (plain_variable int))
    360
    (three (declaration (one (with_value 1 (number 1 0)))) statement_1 (return (Some (plain 1 int 1))))

statement_2 : Statement
statement_2 = for 2
    (first_expression (set_plain 2 0 (number 2 0)))
    (Some (compare 2 Less (plain 2 int 0) (number 2 7)))
    (Some (step_plain 2 int (Arithmetic Add Int) Postfix 0))
    ((expression_statement
    (library 2 int Putchar (one (binary 2 Add (number 2 48) (call 2 int 0 (one (plain 2 int 0))))))))

function_main : Function
function_main = defined 2 0 none (one (plain_variable int)) 248 ((declaration (without_value 0 ∷ []))
    ∷ statement_2
    ∷ (return (Some (number 2 0)))
    ∷ [])

program : Program
program = program_of none
    (two main_type (function_type (Takes ∷ (IntegerWord Int) ∷ Gives ∷ (IntegerWord Int) ∷ []) (one int) int))
    (two function_f function_main)
    1

run : seen (meaning program default_sizes [] 40) ≡ exited (codes "6164886") 0
unfolding program function_f function_main statement_1 statement_2 computing
run = refl

valid : is_valid_program program ≡ true
unfolding program function_f function_main statement_1 statement_2 computing
valid = refl
