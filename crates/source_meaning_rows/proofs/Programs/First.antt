-- `int main(void){putchar(72);putchar(105);return 7;}`: hi and status 7. Work: 4 statements (the body is one), 5 nodes,
-- 3
-- calls, 2 bytes.
-- The text is rows/first.c; gcc 12.2.0 gives the same output and status.
use Rattle.c_tree.specs.Tree.{expressions_in}
use Rattle.behaviours.specs.Shown.{Status}
use Rattle.c_tree.specs.Programs.{Program}
use Rattle.c_tree.specs.Statements.{Statement, expression_statement, return}
use Rattle.c_tree.specs.Tree as tree
use Rattle.c_tree.specs.ValidProgram.{is_valid_program}
use Rattle.c_tree.specs.declared.expression.Routine.TheVariants.{Putchar}
use Rattle.sb_base.specs.Budgets.{default_sizes}
use Rattle.source_meaning.specs.Meaning.{meaning}
use Rattle.source_meaning_rows.proofs.Samples.{at, computing, int, main_alone, none, number, one, three}
use Rattle.std.proofs.Common.{◌≡◌, ℕ, [], ◌∷◌, refl, true, Some, None}

put : ℕ → Statement
put n = expression_statement (at 1 int (tree.library Putchar (expressions_in (one (number 1 n)))))

program : Program
program = main_alone none none 168 (three (put 72) (put 105) (return (Some (number 1 7))))

output : (meaning program default_sizes [] 9).shown.output ≡ 72 ∷ 105 ∷ []
unfolding program put computing
output = refl

ending : (meaning program default_sizes [] 1).shown.ending ≡ Some (Status 7)
unfolding program put computing
ending = refl

work : (meaning program default_sizes [] 1).work ≡ 14
unfolding program put computing
work = refl

turns : (meaning program default_sizes [] 1).turns ≡ 1
unfolding program put computing
turns = refl

accesses : (meaning program default_sizes [] 1).shown.accesses ≡ []
unfolding program put computing
accesses = refl

no_turn : (meaning program default_sizes [] 0).shown.ending ≡ None
unfolding program put computing
no_turn = refl

valid : is_valid_program program ≡ true
unfolding program put computing
valid = refl
