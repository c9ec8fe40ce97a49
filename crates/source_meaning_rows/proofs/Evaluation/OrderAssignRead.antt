-- `int a[4];int main(void){int i=0;a[i]=(i=9);return a[i];}`
-- The text is rows/order_assign_read.c.
use Rattle.c_tree.specs.Programs.{Program}
use Rattle.c_tree.specs.Statements.{Statement, expression_statement, declaration, return}
use Rattle.c_tree.specs.Tree as tree
use Rattle.c_tree.specs.ValidProgram.{is_valid_program}
use Rattle.c_tree.specs.declared.expression.Kind.TheVariants.{Array}
use Rattle.sb_base.specs.Budgets.{default_sizes}
use Rattle.source_meaning.specs.Meaning.{meaning}
use Rattle.source_meaning_rows.proofs.Samples.{assign, computing, decay, index, int, lvalue, main_alone, none, number}
use Rattle.source_meaning_rows.proofs.Samples.{one, parenthesized, plain, plain_variable, read, seen, set_plain}
use Rattle.source_meaning_rows.proofs.Samples.{static_object, stopped, three, with_value, writes}
use Rattle.std.proofs.Common.{Some, [], refl, true, ◌∷◌, ◌≡◌}
use Rattle.std.specs.Prelude.{codes}

statement_1 : Statement
statement_1 = expression_statement
    (assign 1 (index 1 int (decay (lvalue 1 (Array 16) (tree.static 0))) (plain 1 int 0))
    (parenthesized (set_plain 1 0 (number 1 9))))

program : Program
program = main_alone
    (one (static_object (Array 16) none))
    (one (plain_variable int))
    288
    (three
    (declaration (one (with_value 0 (number 1 0))))
    statement_1
    (return (Some (read (index 1 int (decay (lvalue 1 (Array 16) (tree.static 0))) (plain 1 int 0))))))

run : seen (meaning program default_sizes [] 20) ≡ stopped [] (codes "sbcets: spatial violation at line 1\n") 120
unfolding program statement_1 computing
run = refl

accesses : (meaning program default_sizes [] 20).shown.accesses ≡ writes 0x10000000 4 ∷ []
unfolding program statement_1 computing
accesses = refl

valid : is_valid_program program ≡ true
unfolding program statement_1 computing
valid = refl
