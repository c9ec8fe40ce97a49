-- `struct p{int*a;int b;};int z=7;int main(void){struct p u;struct p v;u.a=&z;u.b=1;v=u;return *v.a+v.b;}`
-- A structure is moved with its tags. Work: 2 for the call and the body, 17 for each object placed, 6 for u.a=&z, 5 for
-- u.b=1, 20 for v=u, of which 16 bytes moved, 7 for the return. The text is rows/structure_copy.c; gcc 12.2.0 gives the
-- same output and status.
use Rattle.c_tree.specs.Programs.{Program}
use Rattle.c_tree.specs.Statements.{Statement, expression_statement, return, declaration}
use Rattle.c_tree.specs.Tree as tree
use Rattle.c_tree.specs.ValidProgram.{is_valid_program}
use Rattle.c_tree.specs.declared.expression.Kind.TheVariants.{Structure}
use Rattle.obj_memory.specs.declared.operator.BinaryOperator.TheVariants.{Add}
use Rattle.sb_base.specs.Budgets.{default_sizes}
use Rattle.source_meaning.specs.Meaning.{meaning}
use Rattle.source_meaning_rows.proofs.Samples.{address, assign, binary, computing, content, counts, deref, exited, four}
use Rattle.source_meaning_rows.proofs.Samples.{int, lvalue, main_alone, member, number, object_variable, one, part}
use Rattle.source_meaning_rows.proofs.Samples.{pointer, read, reads, seen, static_object, two, writes, without_value}
use Rattle.std.proofs.Common.{Some, [], refl, true, ◌∷◌, ◌≡◌}

statement_1 : Statement
statement_1 = expression_statement
    (assign 1 (member 1 pointer 0 (lvalue 1 (Structure 16) (tree.automatic 0)))
    (address 1 (lvalue 1 int (tree.static 0))))

statement_2 : Statement
statement_2 = return (Some (binary 1 Add
    (read (deref 1 int (read (member 1 pointer 0 (lvalue 1 (Structure 16) (tree.automatic 1))))))
    (read (member 1 int 8 (lvalue 1 (Structure 16) (tree.automatic 1))))))

program : Program
program = main_alone
    (one (static_object int (one (part 0 (content (number 1 7))))))
    (two (object_variable (Structure 16)) (object_variable (Structure 16)))
    288
    ((declaration (without_value 0 ∷ without_value 1 ∷ []))
    ∷ statement_1
    ∷ (expression_statement (assign 1 (member 1 int 8 (lvalue 1 (Structure 16) (tree.automatic 0))) (number 1 1)))
    ∷ (expression_statement
    (assign 1 (lvalue 1 (Structure 16) (tree.automatic 1)) (read (lvalue 1 (Structure 16) (tree.automatic 0)))))
    ∷ statement_2
    ∷ [])

run : seen (meaning program default_sizes [] 20) ≡ exited [] 8
unfolding program statement_1 statement_2 computing
run = refl

counted : counts (meaning program default_sizes [] 20) ≡
    record {
      turns = 1;
      work = 74;
      accesses = writes 0x10001000 8 ∷ writes 0x10001008 4 ∷ reads 0x10001010 8
          ∷ reads 0x10000000 4 ∷ reads 0x10001018 4 ∷ [];
    }
unfolding program statement_1 statement_2 computing
counted = refl

valid : is_valid_program program ≡ true
unfolding program statement_1 statement_2 computing
valid = refl
