-- `int a[2][2];int main(void){a[0][3]=7;return a[1][1];}`
-- The element of an array keeps the array's range, also where it is an array. The text is rows/array_of_arrays.c; gcc
-- 12.2.0 gives the same output and status.
use Rattle.c_tree.specs.Programs.{Program}
use Rattle.c_tree.specs.Statements.{Statement, expression_statement, return}
use Rattle.c_tree.specs.Tree as tree
use Rattle.c_tree.specs.ValidProgram.{is_valid_program}
use Rattle.c_tree.specs.declared.expression.Kind.TheVariants.{Array}
use Rattle.sb_base.specs.Budgets.{default_sizes}
use Rattle.source_meaning.specs.Meaning.{meaning}
use Rattle.source_meaning_rows.proofs.Samples.{assign, computing, decay, exited, index, int, lvalue, main_alone, none}
use Rattle.source_meaning_rows.proofs.Samples.{number, one, read, seen, static_object, two}
use Rattle.std.proofs.Common.{Some, [], refl, true, ◌≡◌}

statement_1 : Statement
statement_1 = expression_statement (assign 1
    (index 1 int (decay (index 1 (Array 8) (decay (lvalue 1 (Array 16) (tree.static 0))) (number 1 0))) (number 1 3))
    (number 1 7))

statement_2 : Statement
statement_2 = return (Some
    (read (index 1 int (decay (index 1 (Array 8) (decay (lvalue 1 (Array 16) (tree.static 0))) (number 1 1)))
    (number 1 1))))

program : Program
program = main_alone (one (static_object (Array 16) none)) none 208 (two statement_1 statement_2)

run : seen (meaning program default_sizes [] 20) ≡ exited [] 7
unfolding program statement_1 statement_2 computing
run = refl

valid : is_valid_program program ≡ true
unfolding program statement_1 statement_2 computing
valid = refl
