-- `int main(void){int i;int s=0;for(i=0;i<3;i++){int a[2]={1};a[1]=a[1]+1;a[0]=a[0]+1;s=s*10+a[0]+a[1];}return s;}`
-- An initializer sets all bytes of its object to zero first. The text is rows/initializer_again.c; gcc 12.2.0 gives the
-- same output and status.
use Rattle.c_tree.specs.Programs.{Program}
use Rattle.c_tree.specs.Statements.{Statement, expression_statement, declaration, for, return, first_expression}
use Rattle.c_tree.specs.Tree as tree
use Rattle.c_tree.specs.ValidProgram.{is_valid_program}
use Rattle.c_tree.specs.declared.expression.Fixity.TheVariants.{Postfix}
use Rattle.c_tree.specs.declared.expression.Kind.TheVariants.{Array}
use Rattle.c_tree.specs.declared.expression.Update.TheVariants.{Arithmetic}
use Rattle.obj_memory.specs.declared.int_type.IntType.TheVariants.{Int}
use Rattle.obj_memory.specs.declared.operator.BinaryOperator.TheVariants.{Add, Less, Multiply}
use Rattle.sb_base.specs.Budgets.{default_sizes}
use Rattle.source_meaning.specs.Meaning.{meaning}
use Rattle.source_meaning_rows.proofs.Samples.{assign, binary, block_of, compare, computing, content, decay, exited}
use Rattle.source_meaning_rows.proofs.Samples.{four, index, int, lvalue, main_alone, none, number, object_variable, one}
use Rattle.source_meaning_rows.proofs.Samples.{part, plain, plain_variable, read, seen, set_plain, step_plain, three}
use Rattle.source_meaning_rows.proofs.Samples.{with_parts, with_value, without_value}
use Rattle.std.proofs.Common.{Some, [], refl, true, ◌≡◌, ◌∷◌}

statement_1 : Statement
statement_1 = expression_statement (assign 1
    (index 1 int (decay (lvalue 1 (Array 8) (tree.automatic 2))) (number 1 1))
    (binary 1 Add (read (index 1 int (decay (lvalue 1 (Array 8) (tree.automatic 2))) (number 1 1))) (number 1 1)))

statement_2 : Statement
statement_2 = expression_statement (assign 1
    (index 1 int (decay (lvalue 1 (Array 8) (tree.automatic 2))) (number 1 0))
    (binary 1 Add (read (index 1 int (decay (lvalue 1 (Array 8) (tree.automatic 2))) (number 1 0))) (number 1 1)))

statement_3 : Statement
statement_3 = expression_statement (set_plain 1 1 (binary 1 Add
    (binary 1 Add
    (binary 1 Multiply (plain 1 int 1) (number 1 10))
    (read (index 1 int (decay (lvalue 1 (Array 8) (tree.automatic 2))) (number 1 0))))
    (read (index 1 int (decay (lvalue 1 (Array 8) (tree.automatic 2))) (number 1 1)))))

statement_4 : Statement
statement_4 = block_of 2
    (four (declaration (one (with_parts 2 (one (part 0 (content (number 1 1))))))) statement_1 statement_2 statement_3)

statement_5 : Statement
statement_5 = for 1
    (first_expression (set_plain 1 0 (number 1 0)))
    (Some (compare 1 Less (plain 1 int 0) (number 1 3)))
    (Some (step_plain 1 int (Arithmetic Add Int) Postfix 0))
    (statement_4)

program : Program
program = main_alone none
    (three (plain_variable int) (plain_variable int) (object_variable (Array 8)))
    408
    ((declaration (without_value 0 ∷ []))
    ∷ (declaration (one (with_value 1 (number 1 0))))
    ∷ statement_5
    ∷ (return (Some (plain 1 int 1)))
    ∷ [])

run : seen (meaning program default_sizes [] 20) ≡ exited [] 77
unfolding program statement_1 statement_2 statement_3 statement_4 statement_5 computing
run = refl

valid : is_valid_program program ≡ true
unfolding program statement_1 statement_2 statement_3 statement_4 statement_5 computing
valid = refl
