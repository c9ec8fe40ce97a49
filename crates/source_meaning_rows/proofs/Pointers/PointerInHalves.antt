-- `int x=5;int main(void){int*p=&x;int**q=&p;int*h=(int*)q;h[0]=h[0]+4;putchar(48+(p==&x+1));h[0]=h[0]-4;return *p;}`
-- Integers written over parts of a pointer leave its tag. The text is rows/pointer_in_halves.c; gcc 12.2.0 gives the
-- same output and status.
use Rattle.c_tree.specs.Programs.{Program}
use Rattle.c_tree.specs.Statements.{Statement, expression_statement, declaration, return}
use Rattle.c_tree.specs.Tree as tree
use Rattle.c_tree.specs.ValidProgram.{is_valid_program}
use Rattle.c_tree.specs.declared.expression.OffsetForm.TheVariants.{PointerPlusIndex}
use Rattle.c_tree.specs.declared.expression.Routine.TheVariants.{Putchar}
use Rattle.obj_memory.specs.declared.operator.BinaryOperator.TheVariants.{Add, Equal, Subtract}
use Rattle.sb_base.specs.Budgets.{default_sizes}
use Rattle.source_meaning.specs.Meaning.{meaning}
use Rattle.source_meaning_rows.proofs.Samples.{address, assign, binary, cast, compare, computing, content, deref}
use Rattle.source_meaning_rows.proofs.Samples.{exited, index, int, library, lvalue, main_alone, number, object_variable}
use Rattle.source_meaning_rows.proofs.Samples.{offset, one, parenthesized, part, plain, plain_variable, pointer, read}
use Rattle.source_meaning_rows.proofs.Samples.{seen, static_object, three, with_parts, with_value}
use Rattle.std.proofs.Common.{Some, [], refl, true, ◌∷◌, ◌≡◌}
use Rattle.std.specs.Prelude.{codes}

statement_1 : Statement
statement_1 = expression_statement (assign 1
    (index 1 int (plain 1 pointer 2) (number 1 0))
    (binary 1 Add (read (index 1 int (plain 1 pointer 2) (number 1 0))) (number 1 4)))

statement_2 : Statement
statement_2 = expression_statement
    (library 1 int Putchar (one (binary 1 Add (number 1 48) (parenthesized (compare 1 Equal
    (read (lvalue 1 pointer (tree.automatic 0)))
    (offset 1 PointerPlusIndex 4 (address 1 (lvalue 1 int (tree.static 0))) (number 1 1)))))))

statement_3 : Statement
statement_3 = expression_statement (assign 1
    (index 1 int (plain 1 pointer 2) (number 1 0))
    (binary 1 Subtract (read (index 1 int (plain 1 pointer 2) (number 1 0))) (number 1 4)))

program : Program
program = main_alone
    (one (static_object int (one (part 0 (content (number 1 5))))))
    (three (object_variable pointer) (plain_variable pointer) (plain_variable pointer))
    408
    (declaration (one (with_parts 0 (one (part 0 (content (address 1 (lvalue 1 int (tree.static 0)))))))) ∷
    declaration (one (with_value 1 (address 1 (lvalue 1 pointer (tree.automatic 0))))) ∷
    declaration (one (with_value 2 (cast 1 pointer (plain 1 pointer 1)))) ∷
    statement_1 ∷
    statement_2 ∷
    statement_3 ∷
    return (Some (read (deref 1 int (read (lvalue 1 pointer (tree.automatic 0)))))) ∷ [])

run : seen (meaning program default_sizes [] 20) ≡ exited (codes "1") 5
unfolding program statement_1 statement_2 statement_3 computing
run = refl

valid : is_valid_program program ≡ true
unfolding program statement_1 statement_2 statement_3 computing
valid = refl
