-- `int main(void){char*p=malloc(8);free((void*)(long)p);return 0;}`
-- A pointer made from an integer names no block. The text is rows/free_of_integer.c.
use Rattle.c_tree.specs.Programs.{Program}
use Rattle.c_tree.specs.Statements.{expression_statement, declaration, return}
use Rattle.c_tree.specs.ValidProgram.{is_valid_program}
use Rattle.c_tree.specs.declared.expression.Kind.TheVariants.{Void}
use Rattle.c_tree.specs.declared.expression.Routine.TheVariants.{Free, Malloc}
use Rattle.obj_memory.specs.declared.int_type.IntType.TheVariants.{Long, UnsignedLong}
use Rattle.sb_base.specs.Budgets.{default_sizes}
use Rattle.source_meaning.specs.Meaning.{meaning}
use Rattle.source_meaning_rows.proofs.Samples.{cast, computing, convert, integer_kind, library, main_alone, none}
use Rattle.source_meaning_rows.proofs.Samples.{number, one, plain, plain_variable, pointer, seen, stopped, three}
use Rattle.source_meaning_rows.proofs.Samples.{with_value}
use Rattle.std.proofs.Common.{Some, [], refl, true, ◌≡◌}
use Rattle.std.specs.Prelude.{codes}

program : Program
program = main_alone none
    (one (plain_variable pointer))
    208
    (three
    (declaration (one (with_value 0
    (library 1 pointer Malloc (one (convert (integer_kind UnsignedLong) (number 1 8)))))))
    (expression_statement (library 1 Void Free (one (cast 1 pointer (cast 1 (integer_kind Long) (plain 1 pointer 0))))))
    (return (Some (number 1 0))))

run : seen (meaning program default_sizes [] 20) ≡ stopped [] (codes "sbcets: bad free at line 1\n") 123
unfolding program computing
run = refl

valid : is_valid_program program ≡ true
unfolding program computing
valid = refl
