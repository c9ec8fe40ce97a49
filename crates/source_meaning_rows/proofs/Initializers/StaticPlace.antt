-- `int x;int main(void){long a=(long)&x;return a>>28;}`
-- The first object has the address 0x10000000. Work: 3 for the call, the variable and the body; 3 for the initializer;
-- 4
-- for the return. The text is rows/static_place.c.
use Rattle.c_tree.specs.Programs.{Program}
use Rattle.c_tree.specs.Statements.{declaration, return}
use Rattle.c_tree.specs.Tree as tree
use Rattle.c_tree.specs.ValidProgram.{is_valid_program}
use Rattle.obj_memory.specs.declared.int_type.IntType.TheVariants.{Long}
use Rattle.obj_memory.specs.declared.operator.BinaryOperator.TheVariants.{ShiftRight}
use Rattle.sb_base.specs.Budgets.{default_sizes}
use Rattle.source_meaning.specs.Meaning.{meaning}
use Rattle.source_meaning_rows.proofs.Samples.{address, binary, cast, computing, convert, counts, exited, int}
use Rattle.source_meaning_rows.proofs.Samples.{integer_kind, lvalue, main_alone, none, number, one, plain}
use Rattle.source_meaning_rows.proofs.Samples.{plain_variable, seen, static_object, two, with_value}
use Rattle.std.proofs.Common.{Some, [], refl, true, ◌≡◌}

program : Program
program = main_alone (one (static_object int none))
    (one (plain_variable (integer_kind Long)))
    248
    (two
    (declaration (one (with_value 0 (cast 1 (integer_kind Long) (address 1 (lvalue 1 int (tree.static 0)))))))
    (return (Some (convert int (binary 1 ShiftRight (plain 1 (integer_kind Long) 0) (number 1 28))))))

run : seen (meaning program default_sizes [] 20) ≡ exited [] 1
unfolding program computing
run = refl

counted : counts (meaning program default_sizes [] 20) ≡ record { turns = 1; work = 10; accesses = [] }
unfolding program computing
counted = refl

valid : is_valid_program program ≡ true
unfolding program computing
valid = refl
