-- `int main(void){switch(3L){case 1:case 2:putchar(65);case 4:putchar(66);}return 0;}`
-- Work: the call and the body 2; the switch, its value and its block 3; three labels compared; the return 2. The text
-- is
-- rows/switch_without_match.c; gcc 12.2.0 gives the same output and status.
use Rattle.c_tree.specs.Programs.{Program}
use Rattle.c_tree.specs.Statements.{Statement, expression_statement, return}
use Rattle.c_tree.specs.ValidProgram.{is_valid_program}
use Rattle.c_tree.specs.declared.expression.Routine.TheVariants.{Putchar}
use Rattle.c_tree.specs.declared.statement.CaseLabel.TheVariants.{Case}
use Rattle.obj_memory.specs.declared.int_type.IntType.TheVariants.{Long}
use Rattle.sb_base.specs.Budgets.{default_sizes}
use Rattle.source_meaning.specs.Meaning.{meaning}
use Rattle.source_meaning_rows.proofs.Samples.{computing, constant, counts, exited, int, item, library, main_alone}
use Rattle.source_meaning_rows.proofs.Samples.{none, number, one, seen, switch_of, two}
use Rattle.std.proofs.Common.{Some, [], refl, true, ◌≡◌}

statement_1 : Statement
statement_1 = switch_of (constant Long 1 3) 1 (two
    (item (two (Case 1) (Case 2)) (expression_statement (library 1 int Putchar (one (number 1 65)))))
    (item (one (Case 4)) (expression_statement (library 1 int Putchar (one (number 1 66))))))

program : Program
program = main_alone none none 168 (two statement_1 (return (Some (number 1 0))))

run : seen (meaning program default_sizes [] 20) ≡ exited [] 0
unfolding program statement_1 computing
run = refl

counted : counts (meaning program default_sizes [] 20) ≡ record { turns = 1; work = 10; accesses = [] }
unfolding program statement_1 computing
counted = refl

valid : is_valid_program program ≡ true
unfolding program statement_1 computing
valid = refl
