-- The text is rows/keys_spent.c.
--     int main(void){malloc(1);
--     malloc(1);
--     malloc(1);return 0;}
use Rattle.c_tree.specs.Programs.{Program}
use Rattle.c_tree.specs.Statements.{expression_statement, return}
use Rattle.c_tree.specs.ValidProgram.{is_valid_program}
use Rattle.c_tree.specs.declared.expression.Routine.TheVariants.{Malloc}
use Rattle.obj_memory.specs.declared.int_type.IntType.TheVariants.{UnsignedLong}
use Rattle.sb_base.specs.Budgets.{default_sizes}
use Rattle.source_meaning.specs.Meaning.{meaning}
use Rattle.source_meaning_rows.proofs.Samples.{computing, convert, four, integer_kind, library, main_alone, none}
use Rattle.source_meaning_rows.proofs.Samples.{number, one, pointer, seen, stopped}
use Rattle.std.proofs.Common.{Some, [], refl, true, ◌≡◌}
use Rattle.std.specs.Prelude.{codes}

program : Program
program = main_alone none none 168 (four
    (expression_statement (library 1 pointer Malloc (one (convert (integer_kind UnsignedLong) (number 1 1)))))
    (expression_statement (library 2 pointer Malloc (one (convert (integer_kind UnsignedLong) (number 2 1)))))
    (expression_statement (library 3 pointer Malloc (one (convert (integer_kind UnsignedLong) (number 3 1)))))
    (return (Some (number 3 0))))

run : seen (meaning program (record default_sizes { keys = 2 }) [] 20) ≡
    stopped [] (codes "sbcets: keys exhausted at line 3\n") 126
unfolding program computing
run = refl

valid : is_valid_program program ≡ true
unfolding program computing
valid = refl
