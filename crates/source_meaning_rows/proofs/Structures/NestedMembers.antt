-- The address of a member that is a structure has the range of that structure. The text is rows/nested_members.c.
--     struct t{int x;int y;};struct s{struct t a;struct t b;}v;int main(void){struct
-- t*p=&v.b;int*q;p->y=4;q=&p->x;*q=3;putchar(48+v.b.x);q=(int*)p;q[1]=5;putchar(48+v.b.y);return q[-1];}
use Rattle.c_tree.specs.Programs.{Program}
use Rattle.c_tree.specs.Statements.{Statement, expression_statement, declaration, return}
use Rattle.c_tree.specs.Tree as tree
use Rattle.c_tree.specs.ValidProgram.{is_valid_program}
use Rattle.c_tree.specs.declared.expression.Kind.TheVariants.{Structure}
use Rattle.c_tree.specs.declared.expression.Routine.TheVariants.{Putchar}
use Rattle.obj_memory.specs.declared.operator.BinaryOperator.TheVariants.{Add}
use Rattle.obj_memory.specs.declared.operator.UnaryOperator.TheVariants.{Negate}
use Rattle.sb_base.specs.Budgets.{default_sizes}
use Rattle.source_meaning.specs.Meaning.{meaning}
use Rattle.source_meaning_rows.proofs.Samples.{address, arrow, assign, binary, cast, computing, deref, index, int}
use Rattle.source_meaning_rows.proofs.Samples.{library, lvalue, main_alone, member, none, number, one, plain}
use Rattle.source_meaning_rows.proofs.Samples.{plain_variable, pointer, read, seen, set_plain, static_object, stopped}
use Rattle.source_meaning_rows.proofs.Samples.{two, unary, with_value, without_value}
use Rattle.std.proofs.Common.{Some, [], refl, true, ◌∷◌, ◌≡◌}
use Rattle.std.specs.Prelude.{codes}

statement_1 : Statement
statement_1 = expression_statement
    (library 1 int Putchar
    (one (binary 1 Add (number 1 48)
    (read (member 1 int 0 (member 1 (Structure 8) 8 (lvalue 1 (Structure 16) (tree.static 0))))))))

statement_2 : Statement
statement_2 = expression_statement
    (library 1 int Putchar
    (one (binary 1 Add (number 1 48)
    (read (member 1 int 4 (member 1 (Structure 8) 8 (lvalue 1 (Structure 16) (tree.static 0))))))))

program : Program
program = main_alone
    (one (static_object (Structure 16) none))
    (two (plain_variable pointer) (plain_variable pointer))
    288
    ((declaration (one (with_value 0 (address 1 (member 1 (Structure 8) 8 (lvalue 1 (Structure 16) (tree.static 0)))))))
    ∷ (declaration (without_value 1 ∷ []))
    ∷ (expression_statement (assign 1 (arrow 1 int 4 (plain 1 pointer 0)) (number 1 4)))
    ∷ (expression_statement (set_plain 1 1 (address 1 (arrow 1 int 0 (plain 1 pointer 0)))))
    ∷ (expression_statement (assign 1 (deref 1 int (plain 1 pointer 1)) (number 1 3)))
    ∷ statement_1
    ∷ (expression_statement (set_plain 1 1 (cast 1 pointer (plain 1 pointer 0))))
    ∷ (expression_statement (assign 1 (index 1 int (plain 1 pointer 1) (number 1 1)) (number 1 5)))
    ∷ statement_2
    ∷ (return (Some (read (index 1 int (plain 1 pointer 1) (unary 1 Negate (number 1 1))))))
    ∷ [])

run : seen (meaning program default_sizes [] 20)
    ≡ stopped (codes "35") (codes "sbcets: spatial violation at line 1\n") 120
unfolding program statement_1 statement_2 computing
run = refl

valid : is_valid_program program ≡ true
unfolding program statement_1 statement_2 computing
valid = refl
