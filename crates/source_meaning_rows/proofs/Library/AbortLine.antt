-- The text is rows/abort_line.c.
--     int main(void){putchar(65);
--     abort();}
use Rattle.c_tree.specs.Programs.{Program}
use Rattle.c_tree.specs.Statements.{expression_statement}
use Rattle.c_tree.specs.ValidProgram.{is_valid_program}
use Rattle.c_tree.specs.declared.expression.Kind.TheVariants.{Void}
use Rattle.c_tree.specs.declared.expression.Routine.TheVariants.{Abort, Putchar}
use Rattle.sb_base.specs.Budgets.{default_sizes}
use Rattle.source_meaning.specs.Meaning.{meaning}
use Rattle.source_meaning_rows.proofs.Samples.{computing, int, library, main_alone, none, number, one, seen, stopped}
use Rattle.source_meaning_rows.proofs.Samples.{two}
use Rattle.std.proofs.Common.{[], refl, true, ◌≡◌}
use Rattle.std.specs.Prelude.{codes}

program : Program
program = main_alone none none 168
    (two (expression_statement (library 1 int Putchar (one (number 1 65))))
    (expression_statement (library 2 Void Abort none)))

run : seen (meaning program default_sizes [] 20) ≡ stopped (codes "A") (codes "sbcets: abort at line 2\n") 134
unfolding program computing
run = refl

valid : is_valid_program program ≡ true
unfolding program computing
valid = refl
