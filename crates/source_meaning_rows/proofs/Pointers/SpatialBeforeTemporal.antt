-- `int main(void){char*p=malloc(2);free(p);return p[2];}`
-- An access outside a dead object is a spatial violation. The text is rows/spatial_before_temporal.c.
use Rattle.c_tree.specs.Programs.{Program}
use Rattle.c_tree.specs.Statements.{expression_statement, declaration, return}
use Rattle.c_tree.specs.ValidProgram.{is_valid_program}
use Rattle.c_tree.specs.declared.expression.Kind.TheVariants.{Void}
use Rattle.c_tree.specs.declared.expression.Routine.TheVariants.{Free, Malloc}
use Rattle.obj_memory.specs.declared.int_type.IntType.TheVariants.{Char, UnsignedLong}
use Rattle.sb_base.specs.Budgets.{default_sizes}
use Rattle.source_meaning.specs.Meaning.{meaning}
use Rattle.source_meaning_rows.proofs.Samples.{computing, convert, index, int, integer_kind, library, main_alone, none}
use Rattle.source_meaning_rows.proofs.Samples.{number, one, plain, plain_variable, pointer, read, seen, stopped, three}
use Rattle.source_meaning_rows.proofs.Samples.{with_value}
use Rattle.std.proofs.Common.{Some, [], refl, true, ◌≡◌}
use Rattle.std.specs.Prelude.{codes}

program : Program
program = main_alone none
    (one (plain_variable pointer))
    248
    (three
    (declaration (one (with_value 0
    (library 1 pointer Malloc (one (convert (integer_kind UnsignedLong) (number 1 2)))))))
    (expression_statement (library 1 Void Free (one (plain 1 pointer 0))))
    (return (Some (convert int (read (index 1 (integer_kind Char) (plain 1 pointer 0) (number 1 2)))))))

run : seen (meaning program default_sizes [] 20) ≡ stopped [] (codes "sbcets: spatial violation at line 1\n") 120
unfolding program computing
run = refl

valid : is_valid_program program ≡ true
unfolding program computing
valid = refl
