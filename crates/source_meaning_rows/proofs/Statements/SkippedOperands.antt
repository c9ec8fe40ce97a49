-- `int main(void){int x=0;x&&x;x||x;x?1:x+1;1&&0;return 0;}`
-- Work: the call, the variable and the body 3; the initializer 1; 3 for x&&x, of which the second x is not evaluated; 4
-- for x||x; 6 for the conditional; 4 for 1&&0; the return 2. The text is rows/skipped_operands.c; gcc 12.2.0 gives the
-- same output and status.
use Rattle.c_tree.specs.Programs.{Program}
use Rattle.c_tree.specs.Statements.{expression_statement, declaration, return}
use Rattle.c_tree.specs.ValidProgram.{is_valid_program}
use Rattle.obj_memory.specs.declared.operator.BinaryOperator.TheVariants.{Add}
use Rattle.sb_base.specs.Budgets.{default_sizes}
use Rattle.source_meaning.specs.Meaning.{meaning}
use Rattle.source_meaning_rows.proofs.Samples.{binary, computing, conditional, counts, exited, int, logical_and}
use Rattle.source_meaning_rows.proofs.Samples.{logical_or, main_alone, none, number, one, plain, plain_variable, seen}
use Rattle.source_meaning_rows.proofs.Samples.{six, with_value}
use Rattle.std.proofs.Common.{Some, [], refl, true, ◌≡◌}

program : Program
program = main_alone none
    (one (plain_variable int))
    248
    (six
    (declaration (one (with_value 0 (number 1 0))))
    (expression_statement (logical_and 1 (plain 1 int 0) (plain 1 int 0)))
    (expression_statement (logical_or 1 (plain 1 int 0) (plain 1 int 0)))
    (expression_statement (conditional 1 (plain 1 int 0) (number 1 1) (binary 1 Add (plain 1 int 0) (number 1 1))))
    (expression_statement (logical_and 1 (number 1 1) (number 1 0)))
    (return (Some (number 1 0))))

run : seen (meaning program default_sizes [] 20) ≡ exited [] 0
unfolding program computing
run = refl

counted : counts (meaning program default_sizes [] 20) ≡ record { turns = 1; work = 23; accesses = [] }
unfolding program computing
counted = refl

valid : is_valid_program program ≡ true
unfolding program computing
valid = refl
