-- `int main(void){int i=1;int a[1];a[0]=2;i++;--(i);a[0]++;return i+a[0];}`
-- One judgement, a read and a write. Work: the call, the variable, the object 5 and the body 8; the initializer 1; the
-- assignment 6; i++; 3, --(i); 4, a[0]++; 5, with the name of the plain variable and its parentheses; the return 6. The
-- text is rows/step_counts.c; gcc 12.2.0 gives the same output and status.
use Rattle.c_tree.specs.Programs.{Program}
use Rattle.c_tree.specs.Statements.{Statement, expression_statement, declaration, return}
use Rattle.c_tree.specs.Tree as tree
use Rattle.c_tree.specs.ValidProgram.{is_valid_program}
use Rattle.c_tree.specs.declared.expression.Fixity.TheVariants.{Postfix, Prefix}
use Rattle.c_tree.specs.declared.expression.Kind.TheVariants.{Array}
use Rattle.c_tree.specs.declared.expression.Update.TheVariants.{Arithmetic}
use Rattle.obj_memory.specs.declared.int_type.IntType.TheVariants.{Int}
use Rattle.obj_memory.specs.declared.operator.BinaryOperator.TheVariants.{Add, Subtract}
use Rattle.sb_base.specs.Budgets.{default_sizes}
use Rattle.source_meaning.specs.Meaning.{meaning}
use Rattle.source_meaning_rows.proofs.Samples.{assign, binary, computing, counts, decay, exited, index, int, lvalue}
use Rattle.source_meaning_rows.proofs.Samples.{main_alone, none, number, object_variable, one, plain, plain_variable}
use Rattle.source_meaning_rows.proofs.Samples.{read, reads, seen, six, step, step_plain, step_plain_in, two, with_value}
use Rattle.source_meaning_rows.proofs.Samples.{writes, without_value}
use Rattle.std.proofs.Common.{Some, [], refl, true, ◌∷◌, ◌≡◌}

statement_1 : Statement
statement_1 = expression_statement
    (step 1 (Arithmetic Add Int) Postfix (index 1 int (decay (lvalue 1 (Array 4) (tree.automatic 1))) (number 1 0)))

statement_2 : Statement
statement_2 = return (Some
    (binary 1 Add (plain 1 int 0) (read (index 1 int (decay (lvalue 1 (Array 4) (tree.automatic 1))) (number 1 0)))))

program : Program
program = main_alone none
    (two (plain_variable int) (object_variable (Array 4)))
    328
    ((declaration (one (with_value 0 (number 1 1))))
    ∷ (declaration (without_value 1 ∷ []))
    ∷ (expression_statement
    (assign 1 (index 1 int (decay (lvalue 1 (Array 4) (tree.automatic 1))) (number 1 0)) (number 1 2)))
    ∷ (expression_statement (step_plain 1 int (Arithmetic Add Int) Postfix 0))
    ∷ (expression_statement
    (step_plain_in 1 int (Arithmetic Subtract Int) Prefix (record { variable = 0; parentheses = 1 })))
    ∷ statement_1
    ∷ statement_2
    ∷ [])

run : seen (meaning program default_sizes [] 20) ≡ exited [] 4
unfolding program statement_1 statement_2 computing
run = refl

counted : counts (meaning program default_sizes [] 20) ≡
    record {
      turns = 1;
      work = 33;
      accesses = writes 0x10000000 4 ∷ reads 0x10000000 4 ∷ writes 0x10000000 4
          ∷ reads 0x10000000 4 ∷ [];
    }
unfolding program statement_1 statement_2 computing
counted = refl

valid : is_valid_program program ≡ true
unfolding program statement_1 statement_2 computing
valid = refl
