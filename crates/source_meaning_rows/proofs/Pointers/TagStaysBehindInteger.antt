-- `int x=5;int main(void){int*a[1];long*l=(long*)a;a[0]=&x;*l=*l;return *a[0];}`
-- An integer written over a pointer leaves the tag of the word. The text is rows/tag_stays_behind_integer.c; gcc 12.2.0
-- gives the same output and status.
use Rattle.c_tree.specs.Programs.{Program}
use Rattle.c_tree.specs.Statements.{Statement, expression_statement, declaration, return}
use Rattle.c_tree.specs.Tree as tree
use Rattle.c_tree.specs.ValidProgram.{is_valid_program}
use Rattle.c_tree.specs.declared.expression.Kind.TheVariants.{Array}
use Rattle.obj_memory.specs.declared.int_type.IntType.TheVariants.{Long}
use Rattle.sb_base.specs.Budgets.{default_sizes}
use Rattle.source_meaning.specs.Meaning.{meaning}
use Rattle.source_meaning_rows.proofs.Samples.{address, assign, cast, computing, content, decay, deref, exited, four}
use Rattle.source_meaning_rows.proofs.Samples.{index, int, integer_kind, lvalue, main_alone, number, object_variable}
use Rattle.source_meaning_rows.proofs.Samples.{one, part, plain, plain_variable, pointer, read, seen, static_object}
use Rattle.source_meaning_rows.proofs.Samples.{two, with_value, without_value}
use Rattle.std.proofs.Common.{Some, [], refl, true, ◌≡◌, ◌∷◌}

statement_1 : Statement
statement_1 = expression_statement
    (assign 1 (index 1 pointer (decay (lvalue 1 (Array 8) (tree.automatic 0))) (number 1 0))
    (address 1 (lvalue 1 int (tree.static 0))))

statement_2 : Statement
statement_2 = expression_statement
    (assign 1 (deref 1 (integer_kind Long) (plain 1 pointer 1))
    (read (deref 1 (integer_kind Long) (plain 1 pointer 1))))

statement_3 : Statement
statement_3 = return (Some
    (read (deref 1 int (read (index 1 pointer (decay (lvalue 1 (Array 8) (tree.automatic 0))) (number 1 0))))))

program : Program
program = main_alone
    (one (static_object int (one (part 0 (content (number 1 5))))))
    (two (object_variable (Array 8)) (plain_variable pointer))
    288
    ((declaration (without_value 0 ∷ []))
    ∷ (declaration (one (with_value 1 (cast 1 pointer (decay (lvalue 1 (Array 8) (tree.automatic 0)))))))
    ∷ statement_1
    ∷ statement_2
    ∷ statement_3
    ∷ [])

run : seen (meaning program default_sizes [] 20) ≡ exited [] 5
unfolding program statement_1 statement_2 statement_3 computing
run = refl

valid : is_valid_program program ≡ true
unfolding program statement_1 statement_2 statement_3 computing
valid = refl
