-- `int a[10];int main(void){int i=0;a[i]=(i=9);return a[0]*10+a[9];}`
-- The place on the left is found before the right side is evaluated. The text is rows/order_assign.c.
use Rattle.c_tree.specs.Programs.{Program}
use Rattle.c_tree.specs.Statements.{Statement, expression_statement, declaration, return}
use Rattle.c_tree.specs.Tree as tree
use Rattle.c_tree.specs.ValidProgram.{is_valid_program}
use Rattle.c_tree.specs.declared.expression.Kind.TheVariants.{Array}
use Rattle.obj_memory.specs.declared.operator.BinaryOperator.TheVariants.{Add, Multiply}
use Rattle.sb_base.specs.Budgets.{default_sizes}
use Rattle.source_meaning.specs.Meaning.{meaning}
use Rattle.source_meaning_rows.proofs.Samples.{assign, binary, computing, decay, exited, index, int, lvalue, main_alone}
use Rattle.source_meaning_rows.proofs.Samples.{none, number, one, parenthesized, plain, plain_variable, read, seen}
use Rattle.source_meaning_rows.proofs.Samples.{set_plain, static_object, three, with_value}
use Rattle.std.proofs.Common.{Some, [], refl, true, ◌≡◌}

statement_1 : Statement
statement_1 = expression_statement
    (assign 1 (index 1 int (decay (lvalue 1 (Array 40) (tree.static 0))) (plain 1 int 0))
    (parenthesized (set_plain 1 0 (number 1 9))))

statement_2 : Statement
statement_2 = return (Some (binary 1 Add
    (binary 1 Multiply (read (index 1 int (decay (lvalue 1 (Array 40) (tree.static 0))) (number 1 0))) (number 1 10))
    (read (index 1 int (decay (lvalue 1 (Array 40) (tree.static 0))) (number 1 9)))))

program : Program
program = main_alone
    (one (static_object (Array 40) none))
    (one (plain_variable int))
    288
    (three (declaration (one (with_value 0 (number 1 0)))) statement_1 statement_2)

run : seen (meaning program default_sizes [] 20) ≡ exited [] 90
unfolding program statement_1 statement_2 computing
run = refl

valid : is_valid_program program ≡ true
unfolding program statement_1 statement_2 computing
valid = refl
