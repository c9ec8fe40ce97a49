-- `int a[3];int main(void){int*p=&a[3];int*q=&*p;putchar(48+(q-a));q=a-1;return q[1]+(&p[-1]==a+2);}`
-- No access is made by an address alone. The text is rows/past_the_end.c; gcc 12.2.0 gives the same output and status.
use Rattle.c_tree.specs.Programs.{Program}
use Rattle.c_tree.specs.Statements.{Statement, expression_statement, declaration, return}
use Rattle.c_tree.specs.Tree as tree
use Rattle.c_tree.specs.ValidProgram.{is_valid_program}
use Rattle.c_tree.specs.declared.expression.Kind.TheVariants.{Array}
use Rattle.c_tree.specs.declared.expression.OffsetForm.TheVariants.{PointerMinusIndex, PointerPlusIndex}
use Rattle.c_tree.specs.declared.expression.Routine.TheVariants.{Putchar}
use Rattle.obj_memory.specs.declared.int_type.IntType.TheVariants.{Long}
use Rattle.obj_memory.specs.declared.operator.BinaryOperator.TheVariants.{Add, Equal}
use Rattle.obj_memory.specs.declared.operator.UnaryOperator.TheVariants.{Negate}
use Rattle.sb_base.specs.Budgets.{default_sizes}
use Rattle.source_meaning.specs.Meaning.{meaning}
use Rattle.source_meaning_rows.proofs.Samples.{address, binary, compare, computing, convert, decay, deref, difference}
use Rattle.source_meaning_rows.proofs.Samples.{exited, five, index, int, integer_kind, library, lvalue, main_alone}
use Rattle.source_meaning_rows.proofs.Samples.{none, number, offset, one, parenthesized, plain, plain_variable, pointer}
use Rattle.source_meaning_rows.proofs.Samples.{read, seen, set_plain, static_object, two, unary, with_value}
use Rattle.std.proofs.Common.{Some, [], refl, true, ◌≡◌}
use Rattle.std.specs.Prelude.{codes}

statement_1 : Statement
statement_1 = expression_statement (library 1 int Putchar (one (convert int (binary 1 Add
    (convert (integer_kind Long) (number 1 48))
    (parenthesized (difference 1 4 (plain 1 pointer 1) (decay (lvalue 1 (Array 12) (tree.static 0)))))))))

statement_2 : Statement
statement_2 = return (Some (binary 1 Add
    (read (index 1 int (plain 1 pointer 1) (number 1 1)))
    (parenthesized (compare 1 Equal
    (address 1 (index 1 int (plain 1 pointer 0) (unary 1 Negate (number 1 1))))
    (offset 1 PointerPlusIndex 4 (decay (lvalue 1 (Array 12) (tree.static 0))) (number 1 2))))))

program : Program
program = main_alone
    (one (static_object (Array 12) none))
    (two (plain_variable pointer) (plain_variable pointer))
    368
    (five
    (declaration (one (with_value 0
    (address 1 (index 1 int (decay (lvalue 1 (Array 12) (tree.static 0))) (number 1 3))))))
    (declaration (one (with_value 1 (address 1 (deref 1 int (plain 1 pointer 0))))))
    statement_1
    (expression_statement
    (set_plain 1 1 (offset 1 PointerMinusIndex 4 (decay (lvalue 1 (Array 12) (tree.static 0))) (number 1 1))))
    statement_2)

run : seen (meaning program default_sizes [] 20) ≡ exited (codes "3") 1
unfolding program statement_1 statement_2 computing
run = refl

valid : is_valid_program program ≡ true
unfolding program statement_1 statement_2 computing
valid = refl
