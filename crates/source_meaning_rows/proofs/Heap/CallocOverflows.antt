-- `int main(void){return calloc(1UL<<63,2)==0;}`
-- A size of 2^64 bytes has no place. The text is rows/calloc_overflows.c; gcc 12.2.0 gives the same output and status.
use Rattle.c_tree.specs.Programs.{Program}
use Rattle.c_tree.specs.Statements.{Statement, return}
use Rattle.c_tree.specs.ValidProgram.{is_valid_program}
use Rattle.c_tree.specs.declared.expression.Routine.TheVariants.{Calloc}
use Rattle.obj_memory.specs.declared.int_type.IntType.TheVariants.{UnsignedLong}
use Rattle.obj_memory.specs.declared.operator.BinaryOperator.TheVariants.{Equal, ShiftLeft}
use Rattle.sb_base.specs.Budgets.{default_sizes}
use Rattle.source_meaning.specs.Meaning.{meaning}
use Rattle.source_meaning_rows.proofs.Samples.{binary, compare, computing, constant, convert, exited, integer_kind}
use Rattle.source_meaning_rows.proofs.Samples.{library, main_alone, none, number, one, pointer, seen, two}
use Rattle.std.proofs.Common.{Some, [], refl, true, ◌≡◌}

statement_1 : Statement
statement_1 = return (Some (compare 1 Equal
    (library 1 pointer Calloc
    (two (binary 1 ShiftLeft (constant UnsignedLong 1 1) (number 1 63))
    (convert (integer_kind UnsignedLong) (number 1 2))))
    (convert pointer (number 1 0))))

program : Program
program = main_alone none none 208 (one statement_1)

run : seen (meaning program default_sizes [] 20) ≡ exited [] 1
unfolding program statement_1 computing
run = refl

valid : is_valid_program program ≡ true
unfolding program statement_1 computing
valid = refl
