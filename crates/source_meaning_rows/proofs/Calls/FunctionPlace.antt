-- `int main(void){return (long)main>>16;}`
-- The first function has the address 0x10000. Work: 3, and 4 nodes. The text is rows/function_place.c.
use Rattle.c_tree.specs.Programs.{Program}
use Rattle.c_tree.specs.Statements.{return}
use Rattle.c_tree.specs.ValidProgram.{is_valid_program}
use Rattle.obj_memory.specs.declared.int_type.IntType.TheVariants.{Long}
use Rattle.obj_memory.specs.declared.operator.BinaryOperator.TheVariants.{ShiftRight}
use Rattle.sb_base.specs.Budgets.{default_sizes}
use Rattle.source_meaning.specs.Meaning.{meaning}
use Rattle.source_meaning_rows.proofs.Samples.{binary, cast, computing, convert, counts, exited, function, int}
use Rattle.source_meaning_rows.proofs.Samples.{integer_kind, main_alone, none, number, one, seen}
use Rattle.std.proofs.Common.{Some, [], refl, true, ◌≡◌}

program : Program
program = main_alone none none 208
    (one (return (Some (convert int (binary 1 ShiftRight (cast 1 (integer_kind Long) (function 1 0)) (number 1 16))))))

run : seen (meaning program default_sizes [] 20) ≡ exited [] 1
unfolding program computing
run = refl

counted : counts (meaning program default_sizes [] 20) ≡ record { turns = 1; work = 7; accesses = [] }
unfolding program computing
counted = refl

valid : is_valid_program program ≡ true
unfolding program computing
valid = refl
