-- Tags move with a structure where both places are equal modulo 8, and else do not. The text is
-- rows/misaligned_structure.c.
--     struct s{int*p;};int x=66;int main(void){struct s a;char b[24];struct s*q=(struct s*)(b+8);struct s*r=(struct
-- s*)(b+4);a.p=&x;
--     *q=a;putchar(*q->p);*r=*q;a.p=0;a=*r;putchar(48+(a.p==&x));
--     return *a.p;}
use Rattle.c_tree.specs.Programs.{Program}
use Rattle.c_tree.specs.Statements.{Statement, expression_statement, declaration, return}
use Rattle.c_tree.specs.Tree as tree
use Rattle.c_tree.specs.ValidProgram.{is_valid_program}
use Rattle.c_tree.specs.declared.expression.Kind.TheVariants.{Array, Structure}
use Rattle.c_tree.specs.declared.expression.OffsetForm.TheVariants.{PointerPlusIndex}
use Rattle.c_tree.specs.declared.expression.Routine.TheVariants.{Putchar}
use Rattle.obj_memory.specs.declared.operator.BinaryOperator.TheVariants.{Add, Equal}
use Rattle.sb_base.specs.Budgets.{default_sizes}
use Rattle.source_meaning.specs.Meaning.{meaning}
use Rattle.source_meaning_rows.proofs.Samples.{address, arrow, assign, binary, cast, compare, computing, content}
use Rattle.source_meaning_rows.proofs.Samples.{convert, decay, deref, four, int, library, lvalue, main_alone, member}
use Rattle.source_meaning_rows.proofs.Samples.{number, object_variable, offset, one, parenthesized, part, plain}
use Rattle.source_meaning_rows.proofs.Samples.{plain_variable, pointer, read, seen, static_object, stopped, with_value}
use Rattle.source_meaning_rows.proofs.Samples.{without_value}
use Rattle.std.proofs.Common.{Some, [], refl, true, ◌∷◌, ◌≡◌}
use Rattle.std.specs.Prelude.{codes}

statement_1 : Statement
statement_1 = declaration
    (one (with_value 2 (cast 1 pointer
    (parenthesized (offset 1 PointerPlusIndex 1 (decay (lvalue 1 (Array 24) (tree.automatic 1))) (number 1 8))))))

statement_2 : Statement
statement_2 = declaration
    (one (with_value 3 (cast 1 pointer
    (parenthesized (offset 1 PointerPlusIndex 1 (decay (lvalue 1 (Array 24) (tree.automatic 1))) (number 1 4))))))

statement_3 : Statement
statement_3 = expression_statement
    (assign 1 (member 1 pointer 0 (lvalue 1 (Structure 8) (tree.automatic 0)))
    (address 1 (lvalue 1 int (tree.static 0))))

statement_4 : Statement
statement_4 = expression_statement
    (assign 2 (deref 2 (Structure 8) (plain 2 pointer 3)) (read (deref 2 (Structure 8) (plain 2 pointer 2))))

statement_5 : Statement
statement_5 = expression_statement
    (library 2 int Putchar
    (one (binary 2 Add (number 2 48)
    (parenthesized (compare 2 Equal (read (member 2 pointer 0 (lvalue 2 (Structure 8) (tree.automatic 0))))
    (address 2 (lvalue 2 int (tree.static 0))))))))

program : Program
program = main_alone
    (one (static_object int (one (part 0 (content (number 1 66))))))
    (four (object_variable (Structure 8)) (object_variable (Array 24)) (plain_variable pointer)
    (plain_variable pointer))
    408
    ((declaration (without_value 0 ∷ without_value 1 ∷ []))
    ∷ statement_1
    ∷ statement_2
    ∷ statement_3
    ∷ (expression_statement
    (assign 2 (deref 2 (Structure 8) (plain 2 pointer 2)) (read (lvalue 2 (Structure 8) (tree.automatic 0)))))
    ∷ (expression_statement
    (library 2 int Putchar (one (read (deref 2 int (read (arrow 2 pointer 0 (plain 2 pointer 2))))))))
    ∷ statement_4
    ∷ (expression_statement
    (assign 2 (member 2 pointer 0 (lvalue 2 (Structure 8) (tree.automatic 0))) (convert pointer (number 2 0))))
    ∷ (expression_statement
    (assign 2 (lvalue 2 (Structure 8) (tree.automatic 0)) (read (deref 2 (Structure 8) (plain 2 pointer 3)))))
    ∷ statement_5
    ∷ (return (Some (read (deref 3 int (read (member 3 pointer 0 (lvalue 3 (Structure 8) (tree.automatic 0))))))))
    ∷ [])

run : seen (meaning program default_sizes [] 20)
    ≡ stopped (codes "B1") (codes "sbcets: spatial violation at line 3\n") 120
unfolding program statement_1 statement_2 statement_3 statement_4 statement_5 computing
run = refl

valid : is_valid_program program ≡ true
unfolding program statement_1 statement_2 statement_3 statement_4 statement_5 computing
valid = refl
