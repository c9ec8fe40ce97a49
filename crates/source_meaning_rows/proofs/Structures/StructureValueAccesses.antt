-- `struct s{int a;int b;}x;int main(void){struct s z;z=x;return (z=x).b;}`
-- Of a structure that is moved only the read of its member is an access. Work: the call and the body 2, the object 9;
-- the first assignment 1 + 3 + 8; the return 1, 5 nodes with the parentheses, and 8 bytes moved. The text is
-- rows/structure_value_accesses.c; gcc 12.2.0 gives the same output and status.
use Rattle.c_tree.specs.Programs.{Program}
use Rattle.c_tree.specs.Statements.{Statement, expression_statement, return, declaration}
use Rattle.c_tree.specs.Tree as tree
use Rattle.c_tree.specs.ValidProgram.{is_valid_program}
use Rattle.c_tree.specs.declared.expression.Kind.TheVariants.{Structure}
use Rattle.sb_base.specs.Budgets.{default_sizes}
use Rattle.source_meaning.specs.Meaning.{meaning}
use Rattle.source_meaning_rows.proofs.Samples.{assign, computing, counts, exited, int, lvalue, main_alone}
use Rattle.source_meaning_rows.proofs.Samples.{member_of_value, none, object_variable, one, parenthesized, read, reads}
use Rattle.source_meaning_rows.proofs.Samples.{seen, static_object, two, without_value}
use Rattle.std.proofs.Common.{Some, [], refl, true, ◌∷◌, ◌≡◌}

statement_1 : Statement
statement_1 = return (Some
    (read (member_of_value 1 int 4
    (parenthesized (assign 1 (lvalue 1 (Structure 8) (tree.automatic 0))
    (read (lvalue 1 (Structure 8) (tree.static 0))))))))

program : Program
program = main_alone
    (one (static_object (Structure 8) none))
    (one (object_variable (Structure 8)))
    248
    ((declaration (without_value 0 ∷ []))
    ∷ (expression_statement
    (assign 1 (lvalue 1 (Structure 8) (tree.automatic 0)) (read (lvalue 1 (Structure 8) (tree.static 0)))))
    ∷ statement_1
    ∷ [])

run : seen (meaning program default_sizes [] 20) ≡ exited [] 0
unfolding program statement_1 computing
run = refl

counted : counts (meaning program default_sizes [] 20)
    ≡ record { turns = 1; work = 37; accesses = reads 0x10001004 4 ∷ [] }
unfolding program statement_1 computing
counted = refl

valid : is_valid_program program ≡ true
unfolding program statement_1 computing
valid = refl
