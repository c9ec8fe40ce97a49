-- `int main(void){return putchar(-1)==255;}`
-- The byte is the value converted to unsigned char. The text is rows/putchar_negative.c; gcc 12.2.0 gives the same
-- output and status.
use Rattle.c_tree.specs.Programs.{Program}
use Rattle.c_tree.specs.Statements.{return}
use Rattle.c_tree.specs.ValidProgram.{is_valid_program}
use Rattle.c_tree.specs.declared.expression.Routine.TheVariants.{Putchar}
use Rattle.obj_memory.specs.declared.operator.BinaryOperator.TheVariants.{Equal}
use Rattle.obj_memory.specs.declared.operator.UnaryOperator.TheVariants.{Negate}
use Rattle.sb_base.specs.Budgets.{default_sizes}
use Rattle.source_meaning.specs.Meaning.{meaning}
use Rattle.source_meaning_rows.proofs.Samples.{compare, computing, exited, int, library, main_alone, none, number, one}
use Rattle.source_meaning_rows.proofs.Samples.{seen, unary}
use Rattle.std.proofs.Common.{Some, [], refl, true, ◌∷◌, ◌≡◌}

program : Program
program = main_alone none none 208
    (one (return (Some (compare 1 Equal (library 1 int Putchar (one (unary 1 Negate (number 1 1)))) (number 1 255)))))

run : seen (meaning program default_sizes [] 20) ≡ exited (255 ∷ []) 1
unfolding program computing
run = refl

valid : is_valid_program program ≡ true
unfolding program computing
valid = refl
