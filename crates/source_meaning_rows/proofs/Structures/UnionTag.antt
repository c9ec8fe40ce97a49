-- The tag belongs to the word of the object, and stays when an integer is written over it. The text is
-- rows/union_tag.c.
--     union u{int*p;long i;};int a[2]={10,20};int main(void){union u
-- v;v.p=a;v.i=v.i+4;putchar(*v.p+45);v.i=v.i+4;return *v.p;}
use Rattle.c_tree.specs.Programs.{Program}
use Rattle.c_tree.specs.Statements.{Statement, expression_statement, return, declaration}
use Rattle.c_tree.specs.Tree as tree
use Rattle.c_tree.specs.ValidProgram.{is_valid_program}
use Rattle.c_tree.specs.declared.expression.Kind.TheVariants.{Array, Structure}
use Rattle.c_tree.specs.declared.expression.Routine.TheVariants.{Putchar}
use Rattle.obj_memory.specs.declared.int_type.IntType.TheVariants.{Long}
use Rattle.obj_memory.specs.declared.operator.BinaryOperator.TheVariants.{Add}
use Rattle.sb_base.specs.Budgets.{default_sizes}
use Rattle.source_meaning.specs.Meaning.{meaning}
use Rattle.source_meaning_rows.proofs.Samples.{assign, binary, computing, content, convert, decay, deref, five, int}
use Rattle.source_meaning_rows.proofs.Samples.{integer_kind, library, lvalue, main_alone, member, number}
use Rattle.source_meaning_rows.proofs.Samples.{object_variable, one, part, pointer, read, seen, static_object, stopped}
use Rattle.source_meaning_rows.proofs.Samples.{two, without_value}
use Rattle.std.proofs.Common.{Some, [], refl, true, ◌≡◌, ◌∷◌}
use Rattle.std.specs.Prelude.{codes}

statement_1 : Statement
statement_1 = expression_statement
    (assign 1 (member 1 pointer 0 (lvalue 1 (Structure 8) (tree.automatic 0)))
    (decay (lvalue 1 (Array 8) (tree.static 0))))

statement_2 : Statement
statement_2 = expression_statement (assign 1
    (member 1 (integer_kind Long) 0 (lvalue 1 (Structure 8) (tree.automatic 0)))
    (binary 1 Add
    (read (member 1 (integer_kind Long) 0 (lvalue 1 (Structure 8) (tree.automatic 0))))
    (convert (integer_kind Long) (number 1 4))))

statement_3 : Statement
statement_3 = expression_statement
    (library 1 int Putchar
    (one (binary 1 Add (read (deref 1 int (read (member 1 pointer 0 (lvalue 1 (Structure 8) (tree.automatic 0))))))
    (number 1 45))))

statement_4 : Statement
statement_4 = expression_statement (assign 1
    (member 1 (integer_kind Long) 0 (lvalue 1 (Structure 8) (tree.automatic 0)))
    (binary 1 Add
    (read (member 1 (integer_kind Long) 0 (lvalue 1 (Structure 8) (tree.automatic 0))))
    (convert (integer_kind Long) (number 1 4))))

program : Program
program = main_alone
    (one (static_object (Array 8) (two (part 0 (content (number 1 10))) (part 4 (content (number 1 20))))))
    (one (object_variable (Structure 8)))
    288
    ((declaration (without_value 0 ∷ []))
    ∷ statement_1
    ∷ statement_2
    ∷ statement_3
    ∷ statement_4
    ∷ (return (Some (read (deref 1 int (read (member 1 pointer 0 (lvalue 1 (Structure 8) (tree.automatic 0))))))))
    ∷ [])

run : seen (meaning program default_sizes [] 20)
    ≡ stopped (codes "A") (codes "sbcets: spatial violation at line 1\n") 120
unfolding program statement_1 statement_2 statement_3 statement_4 computing
run = refl

valid : is_valid_program program ≡ true
unfolding program statement_1 statement_2 statement_3 statement_4 computing
valid = refl
