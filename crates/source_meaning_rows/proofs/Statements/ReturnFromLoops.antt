-- The text is rows/return_from_loops.c; gcc 12.2.0 gives the same output and status.
--     int f(int n){for(int i=0;;i++){while(1){do{switch(i){case 3:return i*n;}}while(0);break;}}}int main(void){return
-- f(7);}
use Rattle.c_tree.specs.Programs.{Program, Function}
use Rattle.c_tree.specs.Statements.{Statement, while_do, do_while, for, break, return, first_declaration}
use Rattle.c_tree.specs.ValidProgram.{is_valid_program}
use Rattle.c_tree.specs.declared.c_type.TypeWord.TheVariants.{Gives, Integer as IntegerWord, Takes}
use Rattle.c_tree.specs.declared.expression.Fixity.TheVariants.{Postfix}
use Rattle.c_tree.specs.declared.expression.Update.TheVariants.{Arithmetic}
use Rattle.c_tree.specs.declared.statement.CaseLabel.TheVariants.{Case}
use Rattle.obj_memory.specs.declared.int_type.IntType.TheVariants.{Int}
use Rattle.obj_memory.specs.declared.operator.BinaryOperator.TheVariants.{Add, Multiply}
use Rattle.sb_base.specs.Budgets.{default_sizes}
use Rattle.source_meaning.specs.Meaning.{meaning}
use Rattle.source_meaning_rows.proofs.Samples.{binary, block_of, call, computing, defined, exited, function_type, int}
use Rattle.source_meaning_rows.proofs.Samples.{item, main_type, none, number, one, plain, plain_variable, program_of}
use Rattle.source_meaning_rows.proofs.Samples.{seen, step_plain, switch_of, two, with_value}
use Rattle.std.proofs.Common.{None, Some, [], refl, true, ◌∷◌, ◌≡◌}

statement_1 : Statement
statement_1 = switch_of (plain 1 int 1) 1
    (one (item (one (Case 3)) (return (Some (binary 1 Multiply (plain 1 int 1) (plain 1 int 0))))))

statement_2 : Statement
statement_2 = block_of 1
    (one (while_do (number 1 1) ((block_of 1 (two (do_while ((block_of 1 (one statement_1))) (number 1 0)) break)))))

statement_3 : Statement
statement_3 = for 1
    (first_declaration (one (with_value 1 (number 1 0))))
    None
    (Some (step_plain 1 int (Arithmetic Add Int) Postfix 1))
    (statement_2)

function_f : Function
function_f = defined 1 1 (one (plain_variable int)) (one (plain_variable int)) 320 (one statement_3)

function_main : Function
function_main = defined 1 0 none none 168 (one (return (Some (call 1 int 0 (one (number 1 7))))))

program : Program
program = program_of none
    (two main_type (function_type (Takes ∷ (IntegerWord Int) ∷ Gives ∷ (IntegerWord Int) ∷ []) (one int) int))
    (two function_f function_main)
    1

run : seen (meaning program default_sizes [] 60) ≡ exited [] 21
unfolding program function_f function_main statement_1 statement_2 statement_3 computing
run = refl

valid : is_valid_program program ≡ true
unfolding program function_f function_main statement_1 statement_2 statement_3 computing
valid = refl
