-- `int main(void){exit(-1);return 3;}`
-- Work: the call and the body 2; the statement, 3 nodes and the call of exit 5. The text is rows/exit_negative.c; gcc
-- 12.2.0 gives the same output and status.
use Rattle.c_tree.specs.Programs.{Program}
use Rattle.c_tree.specs.Statements.{expression_statement, return}
use Rattle.c_tree.specs.ValidProgram.{is_valid_program}
use Rattle.c_tree.specs.declared.expression.Kind.TheVariants.{Void}
use Rattle.c_tree.specs.declared.expression.Routine.TheVariants.{Exit}
use Rattle.obj_memory.specs.declared.operator.UnaryOperator.TheVariants.{Negate}
use Rattle.sb_base.specs.Budgets.{default_sizes}
use Rattle.source_meaning.specs.Meaning.{meaning}
use Rattle.source_meaning_rows.proofs.Samples.{computing, counts, exited, library, main_alone, none, number, one, seen}
use Rattle.source_meaning_rows.proofs.Samples.{two, unary}
use Rattle.std.proofs.Common.{Some, [], refl, true, ◌≡◌}

program : Program
program = main_alone none none 168
    (two (expression_statement (library 1 Void Exit (one (unary 1 Negate (number 1 1))))) (return (Some (number 1 3))))

run : seen (meaning program default_sizes [] 20) ≡ exited [] 255
unfolding program computing
run = refl

counted : counts (meaning program default_sizes [] 20) ≡ record { turns = 1; work = 7; accesses = [] }
unfolding program computing
counted = refl

valid : is_valid_program program ≡ true
unfolding program computing
valid = refl
