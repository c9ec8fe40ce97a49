-- `int main(void){return putchar(321)==65;}`
-- The byte that was put out is given. The text is rows/putchar_gives.c; gcc 12.2.0 gives the same output and status.
use Rattle.c_tree.specs.Programs.{Program}
use Rattle.c_tree.specs.Statements.{return}
use Rattle.c_tree.specs.ValidProgram.{is_valid_program}
use Rattle.c_tree.specs.declared.expression.Routine.TheVariants.{Putchar}
use Rattle.obj_memory.specs.declared.operator.BinaryOperator.TheVariants.{Equal}
use Rattle.sb_base.specs.Budgets.{default_sizes}
use Rattle.source_meaning.specs.Meaning.{meaning}
use Rattle.source_meaning_rows.proofs.Samples.{compare, computing, exited, int, library, main_alone, none, number, one}
use Rattle.source_meaning_rows.proofs.Samples.{seen}
use Rattle.std.proofs.Common.{Some, [], refl, true, ◌≡◌}
use Rattle.std.specs.Prelude.{codes}

program : Program
program = main_alone none none 208
    (one (return (Some (compare 1 Equal (library 1 int Putchar (one (number 1 321))) (number 1 65)))))

run : seen (meaning program default_sizes [] 20) ≡ exited (codes "A") 1
unfolding program computing
run = refl

valid : is_valid_program program ≡ true
unfolding program computing
valid = refl
