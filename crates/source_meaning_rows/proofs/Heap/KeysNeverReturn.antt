-- A key that was made is never made again, also where its block is freed. The text is rows/keys_never_return.c.
--     int main(void){free(malloc(1));
--     malloc(1);return 0;}
use Rattle.c_tree.specs.Programs.{Program}
use Rattle.c_tree.specs.Statements.{Statement, expression_statement, return}
use Rattle.c_tree.specs.ValidProgram.{is_valid_program}
use Rattle.c_tree.specs.declared.expression.Kind.TheVariants.{Void}
use Rattle.c_tree.specs.declared.expression.Routine.TheVariants.{Free, Malloc}
use Rattle.obj_memory.specs.declared.int_type.IntType.TheVariants.{UnsignedLong}
use Rattle.sb_base.specs.Budgets.{default_sizes}
use Rattle.source_meaning.specs.Meaning.{meaning}
use Rattle.source_meaning_rows.proofs.Samples.{computing, convert, integer_kind, library, main_alone, none, number, one}
use Rattle.source_meaning_rows.proofs.Samples.{pointer, seen, stopped, three}
use Rattle.std.proofs.Common.{Some, [], refl, true, ◌≡◌}
use Rattle.std.specs.Prelude.{codes}

statement_1 : Statement
statement_1 = expression_statement
    (library 1 Void Free (one (library 1 pointer Malloc (one (convert (integer_kind UnsignedLong) (number 1 1))))))

program : Program
program = main_alone none none 168 (three statement_1
    (expression_statement (library 2 pointer Malloc (one (convert (integer_kind UnsignedLong) (number 2 1)))))
    (return (Some (number 2 0))))

run : seen (meaning program (record default_sizes { keys = 1 }) [] 20) ≡
    stopped [] (codes "sbcets: keys exhausted at line 2\n") 126
unfolding program statement_1 computing
run = refl

valid : is_valid_program program ≡ true
unfolding program statement_1 computing
valid = refl
