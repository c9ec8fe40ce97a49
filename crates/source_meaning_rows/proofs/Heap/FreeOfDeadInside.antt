-- A dead block is found before a pointer that is not the start of one. The text is rows/free_of_dead_inside.c.
--     int main(void){char*p=malloc(8);free(p);
--     free(p+1);return 0;}
use Rattle.c_tree.specs.Programs.{Program}
use Rattle.c_tree.specs.Statements.{expression_statement, declaration, return}
use Rattle.c_tree.specs.ValidProgram.{is_valid_program}
use Rattle.c_tree.specs.declared.expression.Kind.TheVariants.{Void}
use Rattle.c_tree.specs.declared.expression.OffsetForm.TheVariants.{PointerPlusIndex}
use Rattle.c_tree.specs.declared.expression.Routine.TheVariants.{Free, Malloc}
use Rattle.obj_memory.specs.declared.int_type.IntType.TheVariants.{UnsignedLong}
use Rattle.sb_base.specs.Budgets.{default_sizes}
use Rattle.source_meaning.specs.Meaning.{meaning}
use Rattle.source_meaning_rows.proofs.Samples.{computing, convert, four, integer_kind, library, main_alone, none}
use Rattle.source_meaning_rows.proofs.Samples.{number, offset, one, plain, plain_variable, pointer, seen, stopped}
use Rattle.source_meaning_rows.proofs.Samples.{with_value}
use Rattle.std.proofs.Common.{Some, [], refl, true, ◌≡◌}
use Rattle.std.specs.Prelude.{codes}

program : Program
program = main_alone none
    (one (plain_variable pointer))
    248
    (four
    (declaration (one (with_value 0
    (library 1 pointer Malloc (one (convert (integer_kind UnsignedLong) (number 1 8)))))))
    (expression_statement (library 1 Void Free (one (plain 1 pointer 0))))
    (expression_statement (library 2 Void Free (one (offset 2 PointerPlusIndex 1 (plain 2 pointer 0) (number 2 1)))))
    (return (Some (number 2 0))))

run : seen (meaning program default_sizes [] 20) ≡ stopped [] (codes "sbcets: temporal violation at line 2\n") 121
unfolding program computing
run = refl

valid : is_valid_program program ≡ true
unfolding program computing
valid = refl
