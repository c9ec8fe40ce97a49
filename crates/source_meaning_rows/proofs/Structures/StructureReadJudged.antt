-- A structure is judged as a whole where it is read. The text is rows/structure_read_judged.c.
--     struct s{int a;int b;}x;int main(void){struct s*p=(struct s*)&x.b;struct s y;
--     y=
--     *p;return 0;}
use Rattle.c_tree.specs.Programs.{Program}
use Rattle.c_tree.specs.Statements.{expression_statement, declaration, return}
use Rattle.c_tree.specs.Tree as tree
use Rattle.c_tree.specs.ValidProgram.{is_valid_program}
use Rattle.c_tree.specs.declared.expression.Kind.TheVariants.{Structure}
use Rattle.sb_base.specs.Budgets.{default_sizes}
use Rattle.source_meaning.specs.Meaning.{meaning}
use Rattle.source_meaning_rows.proofs.Samples.{address, assign, cast, computing, deref, int, lvalue, main_alone, member}
use Rattle.source_meaning_rows.proofs.Samples.{none, number, object_variable, one, plain, plain_variable, pointer, read}
use Rattle.source_meaning_rows.proofs.Samples.{seen, static_object, stopped, three, two, with_value, without_value}
use Rattle.std.proofs.Common.{Some, [], refl, true, ◌≡◌, ◌∷◌}
use Rattle.std.specs.Prelude.{codes}

program : Program
program = main_alone
    (one (static_object (Structure 8) none))
    (two (plain_variable pointer) (object_variable (Structure 8)))
    288
    ((declaration (one (with_value 0
    (cast 1 pointer (address 1 (member 1 int 4 (lvalue 1 (Structure 8) (tree.static 0))))))))
    ∷ (declaration (without_value 1 ∷ []))
    ∷ (expression_statement
    (assign 2 (lvalue 2 (Structure 8) (tree.automatic 1)) (read (deref 3 (Structure 8) (plain 3 pointer 0)))))
    ∷ (return (Some (number 3 0)))
    ∷ [])

run : seen (meaning program default_sizes [] 20) ≡ stopped [] (codes "sbcets: spatial violation at line 3\n") 120
unfolding program computing
run = refl

valid : is_valid_program program ≡ true
unfolding program computing
valid = refl
