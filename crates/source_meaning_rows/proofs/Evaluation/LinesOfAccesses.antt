-- The line is that of the outermost operator on the left, parentheses aside. The text is rows/lines_of_accesses.c.
--     struct s{int n[2];}v;int main(void){struct s*p=&v;int i=2;
--     (p->n
--     [i]
--     )=putchar(65)
--     ;return 0;}
use Rattle.c_tree.specs.Programs.{Program}
use Rattle.c_tree.specs.Statements.{Statement, expression_statement, declaration, return}
use Rattle.c_tree.specs.Tree as tree
use Rattle.c_tree.specs.ValidProgram.{is_valid_program}
use Rattle.c_tree.specs.declared.expression.Kind.TheVariants.{Array, Structure}
use Rattle.c_tree.specs.declared.expression.Routine.TheVariants.{Putchar}
use Rattle.sb_base.specs.Budgets.{default_sizes}
use Rattle.source_meaning.specs.Meaning.{meaning}
use Rattle.source_meaning_rows.proofs.Samples.{address, arrow, assign, computing, decay, four, index, int, library}
use Rattle.source_meaning_rows.proofs.Samples.{lvalue, main_alone, none, number, one, parenthesized_lvalue, plain}
use Rattle.source_meaning_rows.proofs.Samples.{plain_variable, pointer, seen, static_object, stopped, two, with_value}
use Rattle.std.proofs.Common.{Some, [], refl, true, ◌≡◌}
use Rattle.std.specs.Prelude.{codes}

statement_1 : Statement
statement_1 = expression_statement (assign 4
    (parenthesized_lvalue (index 3 int (decay (arrow 2 (Array 8) 0 (plain 2 pointer 0))) (plain 3 int 1)))
    (library 4 int Putchar (one (number 4 65))))

program : Program
program = main_alone
    (one (static_object (Structure 8) none))
    (two (plain_variable pointer) (plain_variable int))
    288
    (four
    (declaration (one (with_value 0 (address 1 (lvalue 1 (Structure 8) (tree.static 0))))))
    (declaration (one (with_value 1 (number 1 2))))
    statement_1
    (return (Some (number 5 0))))

run : seen (meaning program default_sizes [] 20)
    ≡ stopped (codes "A") (codes "sbcets: spatial violation at line 3\n") 120
unfolding program statement_1 computing
run = refl

valid : is_valid_program program ≡ true
unfolding program statement_1 computing
valid = refl
