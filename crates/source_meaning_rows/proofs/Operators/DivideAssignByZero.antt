-- The old value has been read, and no new one is written. The text is rows/divide_assign_by_zero.c.
--     int main(void){int a[1];int z=0;a[0]=7;
--     a[0]
--     %=z;return 0;}
use Rattle.c_tree.specs.Programs.{Program}
use Rattle.c_tree.specs.Statements.{Statement, expression_statement, declaration, return}
use Rattle.c_tree.specs.Tree as tree
use Rattle.c_tree.specs.ValidProgram.{is_valid_program}
use Rattle.c_tree.specs.declared.expression.Kind.TheVariants.{Array}
use Rattle.c_tree.specs.declared.expression.Update.TheVariants.{Arithmetic}
use Rattle.obj_memory.specs.declared.int_type.IntType.TheVariants.{Int}
use Rattle.obj_memory.specs.declared.operator.BinaryOperator.TheVariants.{Remainder}
use Rattle.sb_base.specs.Budgets.{default_sizes}
use Rattle.source_meaning.specs.Meaning.{meaning}
use Rattle.source_meaning_rows.proofs.Samples.{assign, compound, computing, decay, four, index, int, lvalue, main_alone}
use Rattle.source_meaning_rows.proofs.Samples.{none, number, object_variable, one, plain, plain_variable, reads, seen}
use Rattle.source_meaning_rows.proofs.Samples.{stopped, two, with_value, writes, without_value}
use Rattle.std.proofs.Common.{Some, [], refl, true, ◌∷◌, ◌≡◌}
use Rattle.std.specs.Prelude.{codes}

statement_1 : Statement
statement_1 = expression_statement
    (compound 3 (Arithmetic Remainder Int) (index 2 int (decay (lvalue 2 (Array 4) (tree.automatic 0))) (number 2 0))
    (plain 3 int 1))

program : Program
program = main_alone none
    (two (object_variable (Array 4)) (plain_variable int))
    288
    ((declaration (without_value 0 ∷ []))
    ∷ (declaration (one (with_value 1 (number 1 0))))
    ∷ (expression_statement
    (assign 1 (index 1 int (decay (lvalue 1 (Array 4) (tree.automatic 0))) (number 1 0)) (number 1 7)))
    ∷ statement_1
    ∷ (return (Some (number 3 0)))
    ∷ [])

run : seen (meaning program default_sizes [] 20) ≡ stopped [] (codes "sbcets: division by zero at line 3\n") 124
unfolding program statement_1 computing
run = refl

accesses : (meaning program default_sizes [] 20).shown.accesses ≡ writes 0x10000000 4 ∷ reads 0x10000000 4 ∷ []
unfolding program statement_1 computing
accesses = refl

valid : is_valid_program program ≡ true
unfolding program statement_1 computing
valid = refl
