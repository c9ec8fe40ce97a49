-- The place on the left of an assignment is judged for the whole structure. The text is rows/structure_judged.c.
--     struct s{int a;int b;}x;int main(void){struct s*p=(struct s*)&x.b;
--     *p=x;return 0;}
use Rattle.c_tree.specs.Programs.{Program}
use Rattle.c_tree.specs.Statements.{expression_statement, declaration, return}
use Rattle.c_tree.specs.Tree as tree
use Rattle.c_tree.specs.ValidProgram.{is_valid_program}
use Rattle.c_tree.specs.declared.expression.Kind.TheVariants.{Structure}
use Rattle.sb_base.specs.Budgets.{default_sizes}
use Rattle.source_meaning.specs.Meaning.{meaning}
use Rattle.source_meaning_rows.proofs.Samples.{address, assign, cast, computing, deref, int, lvalue, main_alone, member}
use Rattle.source_meaning_rows.proofs.Samples.{none, number, one, plain, plain_variable, pointer, read, seen}
use Rattle.source_meaning_rows.proofs.Samples.{static_object, stopped, three, with_value}
use Rattle.std.proofs.Common.{Some, [], refl, true, ◌≡◌}
use Rattle.std.specs.Prelude.{codes}

program : Program
program = main_alone
    (one (static_object (Structure 8) none))
    (one (plain_variable pointer))
    248
    (three
    (declaration (one (with_value 0
    (cast 1 pointer (address 1 (member 1 int 4 (lvalue 1 (Structure 8) (tree.static 0))))))))
    (expression_statement
    (assign 2 (deref 2 (Structure 8) (plain 2 pointer 0)) (read (lvalue 2 (Structure 8) (tree.static 0)))))
    (return (Some (number 2 0))))

run : seen (meaning program default_sizes [] 20) ≡ stopped [] (codes "sbcets: spatial violation at line 2\n") 120
unfolding program computing
run = refl

valid : is_valid_program program ≡ true
unfolding program computing
valid = refl
