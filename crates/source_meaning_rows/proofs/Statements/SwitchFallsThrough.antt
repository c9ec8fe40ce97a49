-- Work: 3 for the call, the variable and the body, 1 for the initializer; the switch, its value and its block 3; two
-- labels compared; labels reached 2, two times 5 to put a byte, and the break 1; 2 for the return. The text is
-- rows/switch_falls_through.c; gcc 12.2.0 gives the same output and status.
--     int main(void){int i=2;switch(i){case 1:putchar(65);case 2:putchar(66);case
-- 3:putchar(67);break;default:putchar(68);}return 0;}
use Rattle.c_tree.specs.Programs.{Program}
use Rattle.c_tree.specs.Statements.{Statement, expression_statement, declaration, break, return}
use Rattle.c_tree.specs.ValidProgram.{is_valid_program}
use Rattle.c_tree.specs.declared.expression.Routine.TheVariants.{Putchar}
use Rattle.c_tree.specs.declared.statement.CaseLabel.TheVariants.{Case, Default}
use Rattle.sb_base.specs.Budgets.{default_sizes}
use Rattle.source_meaning.specs.Meaning.{meaning}
use Rattle.source_meaning_rows.proofs.Samples.{computing, counts, exited, five, int, item, library, main_alone, none}
use Rattle.source_meaning_rows.proofs.Samples.{number, one, plain, plain_variable, seen, switch_of, three, with_value}
use Rattle.std.proofs.Common.{Some, [], refl, true, ◌≡◌}
use Rattle.std.specs.Prelude.{codes}

statement_1 : Statement
statement_1 = switch_of (plain 1 int 0) 1 (five
    (item (one (Case 1)) (expression_statement (library 1 int Putchar (one (number 1 65)))))
    (item (one (Case 2)) (expression_statement (library 1 int Putchar (one (number 1 66)))))
    (item (one (Case 3)) (expression_statement (library 1 int Putchar (one (number 1 67)))))
    (item none break)
    (item (one Default) (expression_statement (library 1 int Putchar (one (number 1 68))))))

program : Program
program = main_alone none
    (one (plain_variable int))
    208
    (three (declaration (one (with_value 0 (number 1 2)))) statement_1 (return (Some (number 1 0))))

run : seen (meaning program default_sizes [] 20) ≡ exited (codes "BC") 0
unfolding program statement_1 computing
run = refl

counted : counts (meaning program default_sizes [] 20) ≡ record { turns = 1; work = 24; accesses = [] }
unfolding program statement_1 computing
counted = refl

valid : is_valid_program program ≡ true
unfolding program statement_1 computing
valid = refl
