-- The address of an element of a member has the range of the member, and that of a member its own. The text is
-- rows/member_address.c.
--     struct s{int a;int b[2];int c;}v;int
-- main(void){int*p=&v.b[1];p[-1]=3;putchar(48+v.b[0]);p=&v.a;*p=1;p[1]=2;return 0;}
use Rattle.c_tree.specs.Programs.{Program}
use Rattle.c_tree.specs.Statements.{Statement, expression_statement, declaration, return}
use Rattle.c_tree.specs.Tree as tree
use Rattle.c_tree.specs.ValidProgram.{is_valid_program}
use Rattle.c_tree.specs.declared.expression.Kind.TheVariants.{Array, Structure}
use Rattle.c_tree.specs.declared.expression.Routine.TheVariants.{Putchar}
use Rattle.obj_memory.specs.declared.operator.BinaryOperator.TheVariants.{Add}
use Rattle.obj_memory.specs.declared.operator.UnaryOperator.TheVariants.{Negate}
use Rattle.sb_base.specs.Budgets.{default_sizes}
use Rattle.source_meaning.specs.Meaning.{meaning}
use Rattle.source_meaning_rows.proofs.Samples.{address, assign, binary, computing, decay, deref, index, int, library}
use Rattle.source_meaning_rows.proofs.Samples.{lvalue, main_alone, member, none, number, one, plain, plain_variable}
use Rattle.source_meaning_rows.proofs.Samples.{pointer, read, seen, set_plain, static_object, stopped, unary}
use Rattle.source_meaning_rows.proofs.Samples.{with_value}
use Rattle.std.proofs.Common.{Some, [], refl, true, ◌∷◌, ◌≡◌}
use Rattle.std.specs.Prelude.{codes}

statement_1 : Statement
statement_1 = declaration
    (one (with_value 0 (address 1
    (index 1 int (decay (member 1 (Array 8) 4 (lvalue 1 (Structure 16) (tree.static 0)))) (number 1 1)))))

statement_2 : Statement
statement_2 = expression_statement
    (library 1 int Putchar
    (one (binary 1 Add (number 1 48)
    (read (index 1 int (decay (member 1 (Array 8) 4 (lvalue 1 (Structure 16) (tree.static 0)))) (number 1 0))))))

program : Program
program = main_alone
    (one (static_object (Structure 16) none))
    (one (plain_variable pointer))
    288
    (statement_1 ∷
    expression_statement (assign 1 (index 1 int (plain 1 pointer 0) (unary 1 Negate (number 1 1))) (number 1 3)) ∷
    statement_2 ∷
    expression_statement (set_plain 1 0 (address 1 (member 1 int 0 (lvalue 1 (Structure 16) (tree.static 0))))) ∷
    expression_statement (assign 1 (deref 1 int (plain 1 pointer 0)) (number 1 1)) ∷
    expression_statement (assign 1 (index 1 int (plain 1 pointer 0) (number 1 1)) (number 1 2)) ∷
    return (Some (number 1 0)) ∷ [])

run : seen (meaning program default_sizes [] 20)
    ≡ stopped (codes "3") (codes "sbcets: spatial violation at line 1\n") 120
unfolding program statement_1 statement_2 computing
run = refl

valid : is_valid_program program ≡ true
unfolding program statement_1 statement_2 computing
valid = refl
