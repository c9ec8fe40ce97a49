-- `int main(void){switch(2){case 1:case 2:case 3:putchar(65);default:;}return 0;}`
-- Work: the call and the body 2; the switch, its value and its block 3; two labels compared; of the labels before the
-- first statement two are reached, and the statement is 5; the default label and the empty statement 2; the return 2.
-- The text is rows/switch_labels.c; gcc 12.2.0 gives the same output and status.
use Rattle.c_tree.specs.Programs.{Program}
use Rattle.c_tree.specs.Statements.{Statement, expression_statement, empty, return}
use Rattle.c_tree.specs.ValidProgram.{is_valid_program}
use Rattle.c_tree.specs.declared.expression.Routine.TheVariants.{Putchar}
use Rattle.c_tree.specs.declared.statement.CaseLabel.TheVariants.{Case, Default}
use Rattle.sb_base.specs.Budgets.{default_sizes}
use Rattle.source_meaning.specs.Meaning.{meaning}
use Rattle.source_meaning_rows.proofs.Samples.{computing, counts, exited, int, item, library, main_alone, none, number}
use Rattle.source_meaning_rows.proofs.Samples.{one, seen, switch_of, three, two}
use Rattle.std.proofs.Common.{Some, [], refl, true, ◌≡◌}
use Rattle.std.specs.Prelude.{codes}

statement_1 : Statement
statement_1 = switch_of (number 1 2) 1 (two
    (item (three (Case 1) (Case 2) (Case 3)) (expression_statement (library 1 int Putchar (one (number 1 65)))))
    (item (one Default) empty))

program : Program
program = main_alone none none 168 (two statement_1 (return (Some (number 1 0))))

run : seen (meaning program default_sizes [] 20) ≡ exited (codes "A") 0
unfolding program statement_1 computing
run = refl

counted : counts (meaning program default_sizes [] 20) ≡ record { turns = 1; work = 18; accesses = [] }
unfolding program statement_1 computing
counted = refl

valid : is_valid_program program ≡ true
unfolding program statement_1 computing
valid = refl
