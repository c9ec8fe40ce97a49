-- A copy byte by byte carries no tag to a new place. The text is rows/bytewise_copy.c.
--     struct s{int*p;};int x=66;int main(void){struct s a;struct s c;a.p=&x;char*d=(char*)&c;char*e=(char*)&a;int i;
--     for(i=0;i<8;i=i+1)d[i]=e[i];putchar(48+(a.p==c.p));return *c.p;}
use Rattle.c_tree.specs.Programs.{Program}
use Rattle.c_tree.specs.Statements.{Statement, expression_statement, declaration, for, return, first_expression}
use Rattle.c_tree.specs.Tree as tree
use Rattle.c_tree.specs.ValidProgram.{is_valid_program}
use Rattle.c_tree.specs.declared.expression.Kind.TheVariants.{Structure}
use Rattle.c_tree.specs.declared.expression.Routine.TheVariants.{Putchar}
use Rattle.obj_memory.specs.declared.int_type.IntType.TheVariants.{Char}
use Rattle.obj_memory.specs.declared.operator.BinaryOperator.TheVariants.{Add, Equal, Less}
use Rattle.sb_base.specs.Budgets.{default_sizes}
use Rattle.source_meaning.specs.Meaning.{meaning}
use Rattle.source_meaning_rows.proofs.Samples.{address, assign, binary, cast, compare, computing, content, deref, five}
use Rattle.source_meaning_rows.proofs.Samples.{index, int, integer_kind, library, lvalue, main_alone, member, number}
use Rattle.source_meaning_rows.proofs.Samples.{object_variable, one, parenthesized, part, plain, plain_variable}
use Rattle.source_meaning_rows.proofs.Samples.{pointer, read, seen, set_plain, six, static_object, stopped, with_value}
use Rattle.source_meaning_rows.proofs.Samples.{without_value}
use Rattle.std.proofs.Common.{Some, [], refl, true, ◌≡◌, ◌∷◌}
use Rattle.std.specs.Prelude.{codes}

statement_1 : Statement
statement_1 = expression_statement
    (assign 1 (member 1 pointer 0 (lvalue 1 (Structure 8) (tree.automatic 0)))
    (address 1 (lvalue 1 int (tree.static 0))))

statement_2 : Statement
statement_2 = expression_statement (assign 2
    (index 2 (integer_kind Char) (plain 2 pointer 2) (plain 2 int 4))
    (read (index 2 (integer_kind Char) (plain 2 pointer 3) (plain 2 int 4))))

statement_3 : Statement
statement_3 = for 2
    (first_expression (set_plain 2 4 (number 2 0)))
    (Some (compare 2 Less (plain 2 int 4) (number 2 8)))
    (Some (set_plain 2 4 (binary 2 Add (plain 2 int 4) (number 2 1))))
    (statement_2)

statement_4 : Statement
statement_4 = expression_statement
    (library 2 int Putchar (one (binary 2 Add (number 2 48) (parenthesized (compare 2 Equal
    (read (member 2 pointer 0 (lvalue 2 (Structure 8) (tree.automatic 0))))
    (read (member 2 pointer 0 (lvalue 2 (Structure 8) (tree.automatic 1)))))))))

program : Program
program = main_alone
    (one (static_object int (one (part 0 (content (number 1 66))))))
    (five
    (object_variable (Structure 8))
    (object_variable (Structure 8))
    (plain_variable pointer)
    (plain_variable pointer)
    (plain_variable int))
    448
    ((declaration (without_value 0 ∷ without_value 1 ∷ []))
    ∷ statement_1
    ∷ (declaration (one (with_value 2 (cast 1 pointer (address 1 (lvalue 1 (Structure 8) (tree.automatic 1)))))))
    ∷ (declaration (one (with_value 3 (cast 1 pointer (address 1 (lvalue 1 (Structure 8) (tree.automatic 0)))))))
    ∷ (declaration (without_value 4 ∷ []))
    ∷ statement_3
    ∷ statement_4
    ∷ (return (Some (read (deref 2 int (read (member 2 pointer 0 (lvalue 2 (Structure 8) (tree.automatic 1))))))))
    ∷ [])

run : seen (meaning program default_sizes [] 20)
    ≡ stopped (codes "1") (codes "sbcets: spatial violation at line 2\n") 120
unfolding program statement_1 statement_2 statement_3 statement_4 computing
run = refl

valid : is_valid_program program ≡ true
unfolding program statement_1 statement_2 statement_3 statement_4 computing
valid = refl
