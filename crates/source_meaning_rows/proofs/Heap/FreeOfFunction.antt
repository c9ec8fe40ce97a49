-- `int main(void){free((void*)main);return 0;}`
-- The text is rows/free_of_function.c.
use Rattle.c_tree.specs.Programs.{Program}
use Rattle.c_tree.specs.Statements.{expression_statement, return}
use Rattle.c_tree.specs.ValidProgram.{is_valid_program}
use Rattle.c_tree.specs.declared.expression.Kind.TheVariants.{Void}
use Rattle.c_tree.specs.declared.expression.Routine.TheVariants.{Free}
use Rattle.sb_base.specs.Budgets.{default_sizes}
use Rattle.source_meaning.specs.Meaning.{meaning}
use Rattle.source_meaning_rows.proofs.Samples.{cast, computing, function, library, main_alone, none, number, one}
use Rattle.source_meaning_rows.proofs.Samples.{pointer, seen, stopped, two}
use Rattle.std.proofs.Common.{Some, [], refl, true, ◌≡◌}
use Rattle.std.specs.Prelude.{codes}

program : Program
program = main_alone none none 168
    (two (expression_statement (library 1 Void Free (one (cast 1 pointer (function 1 0)))))
    (return (Some (number 1 0))))

run : seen (meaning program default_sizes [] 20) ≡ stopped [] (codes "sbcets: bad free at line 1\n") 123
unfolding program computing
run = refl

valid : is_valid_program program ≡ true
unfolding program computing
valid = refl
