-- `int a[4];int b[4];int main(void){int*p=a;p[4]=1;return 0;}`
-- The text is rows/before_the_object.c.
use Rattle.c_tree.specs.Programs.{Program}
use Rattle.c_tree.specs.Statements.{expression_statement, declaration, return}
use Rattle.c_tree.specs.Tree as tree
use Rattle.c_tree.specs.ValidProgram.{is_valid_program}
use Rattle.c_tree.specs.declared.expression.Kind.TheVariants.{Array}
use Rattle.sb_base.specs.Budgets.{default_sizes}
use Rattle.source_meaning.specs.Meaning.{meaning}
use Rattle.source_meaning_rows.proofs.Samples.{assign, computing, decay, index, int, lvalue, main_alone, none, number}
use Rattle.source_meaning_rows.proofs.Samples.{one, plain, plain_variable, pointer, seen, static_object, stopped, three}
use Rattle.source_meaning_rows.proofs.Samples.{two, with_value}
use Rattle.std.proofs.Common.{Some, [], refl, true, ◌≡◌}
use Rattle.std.specs.Prelude.{codes}

program : Program
program = main_alone
    (two (static_object (Array 16) none) (static_object (Array 16) none))
    (one (plain_variable pointer))
    248
    (three
    (declaration (one (with_value 0 (decay (lvalue 1 (Array 16) (tree.static 0))))))
    (expression_statement (assign 1 (index 1 int (plain 1 pointer 0) (number 1 4)) (number 1 1)))
    (return (Some (number 1 0))))

run : seen (meaning program default_sizes [] 20) ≡ stopped [] (codes "sbcets: spatial violation at line 1\n") 120
unfolding program computing
run = refl

valid : is_valid_program program ≡ true
unfolding program computing
valid = refl
