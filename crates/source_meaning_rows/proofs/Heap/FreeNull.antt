-- `int main(void){free(0);return 0;}`
-- Work: 2 for the call and the body; 4 for the statement, 2 nodes and the call of free; 2 for the return. The text is
-- rows/free_null.c; gcc 12.2.0 gives the same output and status.
use Rattle.c_tree.specs.Programs.{Program}
use Rattle.c_tree.specs.Statements.{expression_statement, return}
use Rattle.c_tree.specs.ValidProgram.{is_valid_program}
use Rattle.c_tree.specs.declared.expression.Kind.TheVariants.{Void}
use Rattle.c_tree.specs.declared.expression.Routine.TheVariants.{Free}
use Rattle.sb_base.specs.Budgets.{default_sizes}
use Rattle.source_meaning.specs.Meaning.{meaning}
use Rattle.source_meaning_rows.proofs.Samples.{computing, convert, counts, exited, library, main_alone, none, number}
use Rattle.source_meaning_rows.proofs.Samples.{one, pointer, seen, two}
use Rattle.std.proofs.Common.{Some, [], refl, true, ◌≡◌}

program : Program
program = main_alone none none 168
    (two (expression_statement (library 1 Void Free (one (convert pointer (number 1 0))))) (return (Some (number 1 0))))

run : seen (meaning program default_sizes [] 20) ≡ exited [] 0
unfolding program computing
run = refl

counted : counts (meaning program default_sizes [] 20) ≡ record { turns = 1; work = 8; accesses = [] }
unfolding program computing
counted = refl

valid : is_valid_program program ≡ true
unfolding program computing
valid = refl
