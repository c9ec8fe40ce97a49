-- A range is narrowed to where the old one meets the member. The text is rows/narrowed_twice.c.
--     struct t{int x;int y;};int a[4];int main(void){struct t*p=(struct t*)a;int*q=&p->y;struct t*r=(struct
-- t*)q;r->x=1;putchar(48+a[1]);r->y=2;return 0;}
use Rattle.c_tree.specs.Programs.{Program}
use Rattle.c_tree.specs.Statements.{Statement, expression_statement, declaration, return}
use Rattle.c_tree.specs.Tree as tree
use Rattle.c_tree.specs.ValidProgram.{is_valid_program}
use Rattle.c_tree.specs.declared.expression.Kind.TheVariants.{Array}
use Rattle.c_tree.specs.declared.expression.Routine.TheVariants.{Putchar}
use Rattle.obj_memory.specs.declared.operator.BinaryOperator.TheVariants.{Add}
use Rattle.sb_base.specs.Budgets.{default_sizes}
use Rattle.source_meaning.specs.Meaning.{meaning}
use Rattle.source_meaning_rows.proofs.Samples.{address, arrow, assign, binary, cast, computing, decay, index, int}
use Rattle.source_meaning_rows.proofs.Samples.{library, lvalue, main_alone, none, number, one, plain, plain_variable}
use Rattle.source_meaning_rows.proofs.Samples.{pointer, read, seen, static_object, stopped, three, with_value}
use Rattle.std.proofs.Common.{Some, [], refl, true, ◌∷◌, ◌≡◌}
use Rattle.std.specs.Prelude.{codes}

statement_1 : Statement
statement_1 = expression_statement
    (library 1 int Putchar
    (one (binary 1 Add (number 1 48) (read (index 1 int (decay (lvalue 1 (Array 16) (tree.static 0))) (number 1 1))))))

program : Program
program = main_alone
    (one (static_object (Array 16) none))
    (three (plain_variable pointer) (plain_variable pointer) (plain_variable pointer))
    368
    (declaration (one (with_value 0 (cast 1 pointer (decay (lvalue 1 (Array 16) (tree.static 0)))))) ∷
    declaration (one (with_value 1 (address 1 (arrow 1 int 4 (plain 1 pointer 0))))) ∷
    declaration (one (with_value 2 (cast 1 pointer (plain 1 pointer 1)))) ∷
    expression_statement (assign 1 (arrow 1 int 0 (plain 1 pointer 2)) (number 1 1)) ∷
    statement_1 ∷
    expression_statement (assign 1 (arrow 1 int 4 (plain 1 pointer 2)) (number 1 2)) ∷
    return (Some (number 1 0)) ∷ [])

run : seen (meaning program default_sizes [] 20)
    ≡ stopped (codes "1") (codes "sbcets: spatial violation at line 1\n") 120
unfolding program statement_1 computing
run = refl

valid : is_valid_program program ≡ true
unfolding program statement_1 computing
valid = refl
