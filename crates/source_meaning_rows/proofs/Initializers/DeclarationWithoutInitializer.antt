-- `int main(void){int i;int s=0;for(i=0;i<3;i++){int x;int a[1];x=x+1;a[0]=a[0]+1;s=s*10+x+a[0];}return s;}`
-- A declaration without an initializer changes nothing when it is reached: x goes on from turn to turn, while the array
-- is new, and clear, at each entry of its block. The text is rows/declaration_without_initializer.c.
use Rattle.c_tree.specs.Programs.{Program}
use Rattle.c_tree.specs.Statements.{Statement, expression_statement, declaration, for, return, first_expression}
use Rattle.c_tree.specs.Tree as tree
use Rattle.c_tree.specs.ValidProgram.{is_valid_program}
use Rattle.c_tree.specs.declared.expression.Fixity.TheVariants.{Postfix}
use Rattle.c_tree.specs.declared.expression.Kind.TheVariants.{Array}
use Rattle.c_tree.specs.declared.expression.Update.TheVariants.{Arithmetic}
use Rattle.obj_memory.specs.declared.int_type.IntType.TheVariants.{Int}
use Rattle.obj_memory.specs.declared.operator.BinaryOperator.TheVariants.{Add, Less, Multiply}
use Rattle.sb_base.specs.Budgets.{default_sizes}
use Rattle.source_meaning.specs.Meaning.{meaning}
use Rattle.source_meaning_rows.proofs.Samples.{assign, binary, block_of, compare, computing, decay, exited, five, four}
use Rattle.source_meaning_rows.proofs.Samples.{index, int, lvalue, main_alone, none, number, object_variable, one}
use Rattle.source_meaning_rows.proofs.Samples.{plain, plain_variable, read, seen, set_plain, step_plain, with_value}
use Rattle.source_meaning_rows.proofs.Samples.{without_value}
use Rattle.std.proofs.Common.{Some, [], refl, true, ◌≡◌, ◌∷◌}

statement_1 : Statement
statement_1 = expression_statement (assign 1
    (index 1 int (decay (lvalue 1 (Array 4) (tree.automatic 3))) (number 1 0))
    (binary 1 Add (read (index 1 int (decay (lvalue 1 (Array 4) (tree.automatic 3))) (number 1 0))) (number 1 1)))

statement_2 : Statement
statement_2 = expression_statement (set_plain 1 1 (binary 1 Add
    (binary 1 Add (binary 1 Multiply (plain 1 int 1) (number 1 10)) (plain 1 int 2))
    (read (index 1 int (decay (lvalue 1 (Array 4) (tree.automatic 3))) (number 1 0)))))

statement_3 : Statement
statement_3 = for 1
    (first_expression (set_plain 1 0 (number 1 0)))
    (Some (compare 1 Less (plain 1 int 0) (number 1 3)))
    (Some (step_plain 1 int (Arithmetic Add Int) Postfix 0))
    ((block_of 1 (five
    (declaration (without_value 2 ∷ []))
    (declaration (without_value 3 ∷ []))
    (expression_statement (set_plain 1 2 (binary 1 Add (plain 1 int 2) (number 1 1))))
    statement_1
    statement_2)))

program : Program
program = main_alone none
    (four (plain_variable int) (plain_variable int) (plain_variable int) (object_variable (Array 4)))
    448
    ((declaration (without_value 0 ∷ []))
    ∷ (declaration (one (with_value 1 (number 1 0))))
    ∷ statement_3
    ∷ (return (Some (plain 1 int 1)))
    ∷ [])

run : seen (meaning program default_sizes [] 20) ≡ exited [] 234
unfolding program statement_1 statement_2 statement_3 computing
run = refl

valid : is_valid_program program ≡ true
unfolding program statement_1 statement_2 statement_3 computing
valid = refl
