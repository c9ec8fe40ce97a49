-- `int main(void){int i;for(i=0;i<3;i++);while(i)i--;do;while(0);while(0);return i;}`
-- Turns: the call, 3 of for, 3 of while, 1 of do. Work: the call, the variable and the body 3; for 4 at its beginning,
-- 3
-- for each of 4 conditions, 2 for each of 3 steps, 1 for each of 3 bodies; while 1, 1 for each of 4 conditions, 3 for
-- each of 3 bodies; do 1, its body 1, its condition 1; the last while 2; the return 2. The text is rows/loop_counts.c;
-- gcc 12.2.0 gives the same output and status.
use Rattle.c_tree.specs.Programs.{Program}
use Rattle.c_tree.specs.Statements.{Statement, expression_statement, empty, while_do, do_while, for, return}
use Rattle.c_tree.specs.Statements.{first_expression, declaration}
use Rattle.c_tree.specs.ValidProgram.{is_valid_program}
use Rattle.c_tree.specs.declared.expression.Fixity.TheVariants.{Postfix}
use Rattle.c_tree.specs.declared.expression.Update.TheVariants.{Arithmetic}
use Rattle.obj_memory.specs.declared.int_type.IntType.TheVariants.{Int}
use Rattle.obj_memory.specs.declared.operator.BinaryOperator.TheVariants.{Add, Less, Subtract}
use Rattle.sb_base.specs.Budgets.{default_sizes}
use Rattle.source_meaning.specs.Meaning.{meaning}
use Rattle.source_meaning_rows.proofs.Samples.{compare, computing, counts, exited, five, int, main_alone, none, number}
use Rattle.source_meaning_rows.proofs.Samples.{one, plain, plain_variable, seen, set_plain, step_plain, without_value}
use Rattle.std.proofs.Common.{Some, [], refl, true, ◌≡◌, ◌∷◌}

statement_1 : Statement
statement_1 = for 1
    (first_expression (set_plain 1 0 (number 1 0)))
    (Some (compare 1 Less (plain 1 int 0) (number 1 3)))
    (Some (step_plain 1 int (Arithmetic Add Int) Postfix 0))
    (empty)

program : Program
program = main_alone none
    (one (plain_variable int))
    248
    ((declaration (without_value 0 ∷ []))
    ∷ statement_1
    ∷ (while_do (plain 1 int 0) ((expression_statement (step_plain 1 int (Arithmetic Subtract Int) Postfix 0))))
    ∷ (do_while (empty) (number 1 0))
    ∷ (while_do (number 1 0) (empty))
    ∷ (return (Some (plain 1 int 0)))
    ∷ [])

run : seen (meaning program default_sizes [] 20) ≡ exited [] 0
unfolding program statement_1 computing
run = refl

counted : counts (meaning program default_sizes [] 20) ≡ record { turns = 8; work = 49; accesses = [] }
unfolding program statement_1 computing
counted = refl

valid : is_valid_program program ≡ true
unfolding program statement_1 computing
valid = refl
