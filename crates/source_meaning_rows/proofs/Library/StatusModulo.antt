-- `int main(void){return -1;}`
-- The text is rows/status_modulo.c; gcc 12.2.0 gives the same output and status.
use Rattle.c_tree.specs.Programs.{Program}
use Rattle.c_tree.specs.Statements.{return}
use Rattle.c_tree.specs.ValidProgram.{is_valid_program}
use Rattle.obj_memory.specs.declared.operator.UnaryOperator.TheVariants.{Negate}
use Rattle.sb_base.specs.Budgets.{default_sizes}
use Rattle.source_meaning.specs.Meaning.{meaning}
use Rattle.source_meaning_rows.proofs.Samples.{computing, exited, main_alone, none, number, one, seen, unary}
use Rattle.std.proofs.Common.{Some, [], refl, true, ◌≡◌}

program : Program
program = main_alone none none 168 (one (return (Some (unary 1 Negate (number 1 1)))))

run : seen (meaning program default_sizes [] 20) ≡ exited [] 255
unfolding program computing
run = refl

valid : is_valid_program program ≡ true
unfolding program computing
valid = refl
