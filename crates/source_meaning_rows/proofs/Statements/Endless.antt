-- `int main(void){for(;;)putchar(65);}` in 11 turns: the call of `main` and 10 of the loop. Work: 3 for the body, the
-- loop
-- and the call, and 5 in each turn, for a statement, 2 nodes, a call and a byte.
-- The text is rows/endless.c.
use Rattle.c_tree.specs.Tree.{expressions_in}
use Rattle.c_tree.specs.Programs.{Program}
use Rattle.c_tree.specs.Statements.{expression_statement, for, nothing}
use Rattle.c_tree.specs.Tree as tree
use Rattle.c_tree.specs.ValidProgram.{is_valid_program}
use Rattle.c_tree.specs.declared.expression.Routine.TheVariants.{Putchar}
use Rattle.sb_base.specs.Budgets.{default_sizes}
use Rattle.source_meaning.specs.Meaning.{meaning}
use Rattle.source_meaning_rows.proofs.Samples.{at, computing, int, main_alone, none, number, one}
use Rattle.std.proofs.Common.{◌≡◌, [], length, refl, true, None}

program : Program
program = main_alone none none 168
    (one (for 1 nothing None None
    ((expression_statement (at 1 int (tree.library Putchar (expressions_in (one (number 1 65)))))))))

ending : (meaning program default_sizes [] 11).shown.ending ≡ None
unfolding program computing
ending = refl

turns : (meaning program default_sizes [] 11).turns ≡ 11
unfolding program computing
turns = refl

work : (meaning program default_sizes [] 11).work ≡ 53
unfolding program computing
work = refl

output : length (meaning program default_sizes [] 11).shown.output ≡ 10
unfolding program computing
output = refl

valid : is_valid_program program ≡ true
unfolding program computing
valid = refl
