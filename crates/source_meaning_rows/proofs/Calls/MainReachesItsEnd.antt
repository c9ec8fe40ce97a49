-- `int main(void){int x=3;putchar(48+x);}`
-- The text is rows/main_reaches_its_end.c; gcc 12.2.0 gives the same output and status.
use Rattle.c_tree.specs.Programs.{Program}
use Rattle.c_tree.specs.Statements.{expression_statement, declaration}
use Rattle.c_tree.specs.ValidProgram.{is_valid_program}
use Rattle.c_tree.specs.declared.expression.Routine.TheVariants.{Putchar}
use Rattle.obj_memory.specs.declared.operator.BinaryOperator.TheVariants.{Add}
use Rattle.sb_base.specs.Budgets.{default_sizes}
use Rattle.source_meaning.specs.Meaning.{meaning}
use Rattle.source_meaning_rows.proofs.Samples.{binary, computing, exited, int, library, main_alone, none, number, one}
use Rattle.source_meaning_rows.proofs.Samples.{plain, plain_variable, seen, two, with_value}
use Rattle.std.proofs.Common.{[], refl, true, ◌≡◌}
use Rattle.std.specs.Prelude.{codes}

program : Program
program = main_alone none
    (one (plain_variable int))
    248
    (two
    (declaration (one (with_value 0 (number 1 3))))
    (expression_statement (library 1 int Putchar (one (binary 1 Add (number 1 48) (plain 1 int 0))))))

run : seen (meaning program default_sizes [] 20) ≡ exited (codes "3") 0
unfolding program computing
run = refl

valid : is_valid_program program ≡ true
unfolding program computing
valid = refl
