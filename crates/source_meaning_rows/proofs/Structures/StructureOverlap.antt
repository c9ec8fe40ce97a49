-- A structure is moved as a whole, also where its places overlap. The text is rows/structure_overlap.c.
--     struct s{int a[3];}x[2]={{{1,2,3}},{{4,5,6}}};int main(void){struct s*p=x;struct s*q=(struct
-- s*)((int*)x+1);*q=*p;putchar(48+x[0].a[0]);putchar(48+x[0].a[1]);putchar(48+x[0].a[2]);putchar(48+x[1].a[0]);return
-- x[1].a[1];}
use Rattle.c_tree.specs.Programs.{Program}
use Rattle.c_tree.specs.Statements.{Statement, expression_statement, declaration, return}
use Rattle.c_tree.specs.Tree as tree
use Rattle.c_tree.specs.ValidProgram.{is_valid_program}
use Rattle.c_tree.specs.declared.expression.Kind.TheVariants.{Array, Structure}
use Rattle.c_tree.specs.declared.expression.OffsetForm.TheVariants.{PointerPlusIndex}
use Rattle.c_tree.specs.declared.expression.Routine.TheVariants.{Putchar}
use Rattle.obj_memory.specs.declared.operator.BinaryOperator.TheVariants.{Add}
use Rattle.sb_base.specs.Budgets.{default_sizes}
use Rattle.source_meaning.specs.Meaning.{meaning}
use Rattle.source_meaning_rows.proofs.Samples.{assign, binary, cast, computing, content, decay, deref, exited, index}
use Rattle.source_meaning_rows.proofs.Samples.{int, library, lvalue, main_alone, member, number, offset, one}
use Rattle.source_meaning_rows.proofs.Samples.{parenthesized, part, plain, plain_variable, pointer, read, seen, six}
use Rattle.source_meaning_rows.proofs.Samples.{static_object, two, with_value}
use Rattle.std.proofs.Common.{Some, [], refl, true, ◌∷◌, ◌≡◌}
use Rattle.std.specs.Prelude.{codes}

statement_1 : Statement
statement_1 = declaration
    (one (with_value 1 (cast 1 pointer
    (parenthesized (offset 1 PointerPlusIndex 4 (cast 1 pointer (decay (lvalue 1 (Array 24) (tree.static 0))))
    (number 1 1))))))

statement_2 : Statement
statement_2 = expression_statement
    (assign 1 (deref 1 (Structure 12) (plain 1 pointer 1)) (read (deref 1 (Structure 12) (plain 1 pointer 0))))

statement_3 : Statement
statement_3 = expression_statement (library 1 int Putchar (one (binary 1 Add (number 1 48) (read (index 1 int
    (decay (member 1 (Array 12) 0 (index 1 (Structure 12) (decay (lvalue 1 (Array 24) (tree.static 0))) (number 1 0))))
    (number 1 0))))))

statement_4 : Statement
statement_4 = expression_statement (library 1 int Putchar (one (binary 1 Add (number 1 48) (read (index 1 int
    (decay (member 1 (Array 12) 0 (index 1 (Structure 12) (decay (lvalue 1 (Array 24) (tree.static 0))) (number 1 0))))
    (number 1 1))))))

statement_5 : Statement
statement_5 = expression_statement (library 1 int Putchar (one (binary 1 Add (number 1 48) (read (index 1 int
    (decay (member 1 (Array 12) 0 (index 1 (Structure 12) (decay (lvalue 1 (Array 24) (tree.static 0))) (number 1 0))))
    (number 1 2))))))

statement_6 : Statement
statement_6 = expression_statement (library 1 int Putchar (one (binary 1 Add (number 1 48) (read (index 1 int
    (decay (member 1 (Array 12) 0 (index 1 (Structure 12) (decay (lvalue 1 (Array 24) (tree.static 0))) (number 1 1))))
    (number 1 0))))))

statement_7 : Statement
statement_7 = return (Some (read (index 1 int
    (decay (member 1 (Array 12) 0 (index 1 (Structure 12) (decay (lvalue 1 (Array 24) (tree.static 0))) (number 1 1))))
    (number 1 1))))

program : Program
program = main_alone
    (one (static_object (Array 24) (six
    (part 0 (content (number 1 1)))
    (part 4 (content (number 1 2)))
    (part 8 (content (number 1 3)))
    (part 12 (content (number 1 4)))
    (part 16 (content (number 1 5)))
    (part 20 (content (number 1 6))))))
    (two (plain_variable pointer) (plain_variable pointer))
    328
    (declaration (one (with_value 0 (decay (lvalue 1 (Array 24) (tree.static 0))))) ∷
    statement_1 ∷
    statement_2 ∷
    statement_3 ∷
    statement_4 ∷
    statement_5 ∷
    statement_6 ∷
    statement_7 ∷ [])

run : seen (meaning program default_sizes [] 20) ≡ exited (codes "1123") 5
unfolding program statement_1 statement_2 statement_3 statement_4 statement_5 statement_6 statement_7 computing
run = refl

valid : is_valid_program program ≡ true
unfolding program statement_1 statement_2 statement_3 statement_4 statement_5 statement_6 statement_7 computing
valid = refl
