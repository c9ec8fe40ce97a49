-- The line is that of the operator. The text is rows/divide_by_zero.c.
--     int main(void){int z=0;
--     putchar(48);z=5
--     /z;return 0;}
use Rattle.c_tree.specs.Programs.{Program}
use Rattle.c_tree.specs.Statements.{expression_statement, declaration, return}
use Rattle.c_tree.specs.ValidProgram.{is_valid_program}
use Rattle.c_tree.specs.declared.expression.Routine.TheVariants.{Putchar}
use Rattle.obj_memory.specs.declared.operator.BinaryOperator.TheVariants.{Divide}
use Rattle.sb_base.specs.Budgets.{default_sizes}
use Rattle.source_meaning.specs.Meaning.{meaning}
use Rattle.source_meaning_rows.proofs.Samples.{binary, computing, four, int, library, main_alone, none, number, one}
use Rattle.source_meaning_rows.proofs.Samples.{plain, plain_variable, seen, set_plain, stopped, with_value}
use Rattle.std.proofs.Common.{Some, [], refl, true, ◌≡◌}
use Rattle.std.specs.Prelude.{codes}

program : Program
program = main_alone none
    (one (plain_variable int))
    288
    (four
    (declaration (one (with_value 0 (number 1 0))))
    (expression_statement (library 2 int Putchar (one (number 2 48))))
    (expression_statement (set_plain 2 0 (binary 3 Divide (number 2 5) (plain 3 int 0))))
    (return (Some (number 3 0))))

run : seen (meaning program default_sizes [] 20)
    ≡ stopped (codes "0") (codes "sbcets: division by zero at line 3\n") 124
unfolding program computing
run = refl

valid : is_valid_program program ≡ true
unfolding program computing
valid = refl
