-- `int x;int main(void){int(*h)(void)=(int(*)(void))&x;return h();}`
-- The text is rows/call_through_object.c.
use Rattle.c_tree.specs.Programs.{Program}
use Rattle.c_tree.specs.Statements.{declaration, return}
use Rattle.c_tree.specs.Tree as tree
use Rattle.c_tree.specs.ValidProgram.{is_valid_program}
use Rattle.sb_base.specs.Budgets.{default_sizes}
use Rattle.source_meaning.specs.Meaning.{meaning}
use Rattle.source_meaning_rows.proofs.Samples.{address, call_through, cast, computing, int, lvalue, main_alone, none}
use Rattle.source_meaning_rows.proofs.Samples.{one, plain, plain_variable, pointer, seen, static_object, stopped, two}
use Rattle.source_meaning_rows.proofs.Samples.{with_value}
use Rattle.std.proofs.Common.{Some, [], refl, true, ◌≡◌}
use Rattle.std.specs.Prelude.{codes}

program : Program
program = main_alone (one (static_object int none))
    (one (plain_variable pointer))
    208
    (two
    (declaration (one (with_value 0 (cast 1 pointer (address 1 (lvalue 1 int (tree.static 0)))))))
    (return (Some (call_through 1 int 0 (plain 1 pointer 0) none))))

run : seen (meaning program default_sizes [] 20) ≡ stopped [] (codes "sbcets: bad call at line 1\n") 122
unfolding program computing
run = refl

valid : is_valid_program program ≡ true
unfolding program computing
valid = refl
