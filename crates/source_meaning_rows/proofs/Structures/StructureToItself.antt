-- `struct s{int*p;int n;}a;int x=66;int main(void){a.p=&x;a.n=1;a=a;putchar(*a.p);return a.n;}`
-- The text is rows/structure_to_itself.c; gcc 12.2.0 gives the same output and status.
use Rattle.c_tree.specs.Programs.{Program}
use Rattle.c_tree.specs.Statements.{Statement, expression_statement, return}
use Rattle.c_tree.specs.Tree as tree
use Rattle.c_tree.specs.ValidProgram.{is_valid_program}
use Rattle.c_tree.specs.declared.expression.Kind.TheVariants.{Structure}
use Rattle.c_tree.specs.declared.expression.Routine.TheVariants.{Putchar}
use Rattle.sb_base.specs.Budgets.{default_sizes}
use Rattle.source_meaning.specs.Meaning.{meaning}
use Rattle.source_meaning_rows.proofs.Samples.{address, assign, computing, content, deref, exited, five, int, library}
use Rattle.source_meaning_rows.proofs.Samples.{lvalue, main_alone, member, none, number, one, part, pointer, read, seen}
use Rattle.source_meaning_rows.proofs.Samples.{static_object, two}
use Rattle.std.proofs.Common.{Some, [], refl, true, ◌≡◌}
use Rattle.std.specs.Prelude.{codes}

statement_1 : Statement
statement_1 = expression_statement
    (assign 1 (member 1 pointer 0 (lvalue 1 (Structure 16) (tree.static 0))) (address 1 (lvalue 1 int (tree.static 1))))

statement_2 : Statement
statement_2 = expression_statement
    (library 1 int Putchar
    (one (read (deref 1 int (read (member 1 pointer 0 (lvalue 1 (Structure 16) (tree.static 0))))))))

program : Program
program = main_alone
    (two (static_object (Structure 16) none) (static_object int (one (part 0 (content (number 1 66))))))
    none
    208
    (five statement_1
    (expression_statement (assign 1 (member 1 int 8 (lvalue 1 (Structure 16) (tree.static 0))) (number 1 1)))
    (expression_statement
    (assign 1 (lvalue 1 (Structure 16) (tree.static 0)) (read (lvalue 1 (Structure 16) (tree.static 0)))))
    statement_2
    (return (Some (read (member 1 int 8 (lvalue 1 (Structure 16) (tree.static 0)))))))

run : seen (meaning program default_sizes [] 20) ≡ exited (codes "B") 1
unfolding program statement_1 statement_2 computing
run = refl

valid : is_valid_program program ≡ true
unfolding program statement_1 statement_2 computing
valid = refl
