-- `int x=7;int main(void){int i;int r=0;for(i=0;i<2;i++){int*a[2]={i?0:&x};if(i==0)r=*a[0];else r=r+*a[0];}return r;}`
-- A null pointer that is stored has no tag. The text is rows/initializer_tags.c.
use Rattle.c_tree.specs.Programs.{Program}
use Rattle.c_tree.specs.Statements.{Statement, expression_statement, declaration, if_else, for, return}
use Rattle.c_tree.specs.Statements.{first_expression}
use Rattle.c_tree.specs.Tree as tree
use Rattle.c_tree.specs.ValidProgram.{is_valid_program}
use Rattle.c_tree.specs.declared.expression.Fixity.TheVariants.{Postfix}
use Rattle.c_tree.specs.declared.expression.Kind.TheVariants.{Array}
use Rattle.c_tree.specs.declared.expression.Update.TheVariants.{Arithmetic}
use Rattle.obj_memory.specs.declared.int_type.IntType.TheVariants.{Int}
use Rattle.obj_memory.specs.declared.operator.BinaryOperator.TheVariants.{Add, Equal, Less}
use Rattle.sb_base.specs.Budgets.{default_sizes}
use Rattle.source_meaning.specs.Meaning.{meaning}
use Rattle.source_meaning_rows.proofs.Samples.{address, binary, block_of, compare, computing, conditional, content}
use Rattle.source_meaning_rows.proofs.Samples.{convert, decay, deref, index, int, lvalue, main_alone, number}
use Rattle.source_meaning_rows.proofs.Samples.{object_variable, one, part, plain, plain_variable, pointer, read, seen}
use Rattle.source_meaning_rows.proofs.Samples.{set_plain, static_object, step_plain, stopped, three, two, with_parts}
use Rattle.source_meaning_rows.proofs.Samples.{with_value, without_value}
use Rattle.std.proofs.Common.{Some, [], refl, true, ◌≡◌, ◌∷◌}
use Rattle.std.specs.Prelude.{codes}

statement_1 : Statement
statement_1 = declaration
    (one (with_parts 2 (one
    (part 0 (content (conditional 1 (plain 1 int 0) (convert pointer (number 1 0))
    (address 1 (lvalue 1 int (tree.static 0)))))))))

statement_2 : Statement
statement_2 = expression_statement
    (set_plain 1 1 (read (deref 1 int
    (read (index 1 pointer (decay (lvalue 1 (Array 16) (tree.automatic 2))) (number 1 0))))))

statement_3 : Statement
statement_3 = expression_statement
    (set_plain 1 1 (binary 1 Add (plain 1 int 1)
    (read (deref 1 int (read (index 1 pointer (decay (lvalue 1 (Array 16) (tree.automatic 2))) (number 1 0)))))))

statement_4 : Statement
statement_4 = block_of 1
    (two statement_1 (if_else (compare 1 Equal (plain 1 int 0) (number 1 0)) (statement_2) (statement_3)))

statement_5 : Statement
statement_5 = for 1
    (first_expression (set_plain 1 0 (number 1 0)))
    (Some (compare 1 Less (plain 1 int 0) (number 1 2)))
    (Some (step_plain 1 int (Arithmetic Add Int) Postfix 0))
    (statement_4)

program : Program
program = main_alone
    (one (static_object int (one (part 0 (content (number 1 7))))))
    (three (plain_variable int) (plain_variable int) (object_variable (Array 16)))
    408
    ((declaration (without_value 0 ∷ []))
    ∷ (declaration (one (with_value 1 (number 1 0))))
    ∷ statement_5
    ∷ (return (Some (plain 1 int 1)))
    ∷ [])

run : seen (meaning program default_sizes [] 20) ≡ stopped [] (codes "sbcets: spatial violation at line 1\n") 120
unfolding program statement_1 statement_2 statement_3 statement_4 statement_5 computing
run = refl

valid : is_valid_program program ≡ true
unfolding program statement_1 statement_2 statement_3 statement_4 statement_5 computing
valid = refl
