-- `int main(void){char d[3];memset(d,65,3);return strlen(d);}`
-- The text is rows/unterminated_string.c.
use Rattle.c_tree.specs.Programs.{Program}
use Rattle.c_tree.specs.Statements.{Statement, expression_statement, return, declaration}
use Rattle.c_tree.specs.Tree as tree
use Rattle.c_tree.specs.ValidProgram.{is_valid_program}
use Rattle.c_tree.specs.declared.expression.Kind.TheVariants.{Array}
use Rattle.c_tree.specs.declared.expression.Routine.TheVariants.{Memset, Strlen}
use Rattle.obj_memory.specs.declared.int_type.IntType.TheVariants.{UnsignedLong}
use Rattle.sb_base.specs.Budgets.{default_sizes}
use Rattle.source_meaning.specs.Meaning.{meaning}
use Rattle.source_meaning_rows.proofs.Samples.{computing, convert, decay, int, integer_kind, library, lvalue}
use Rattle.source_meaning_rows.proofs.Samples.{main_alone, none, number, object_variable, one, pointer, seen, stopped}
use Rattle.source_meaning_rows.proofs.Samples.{three, two, without_value}
use Rattle.std.proofs.Common.{Some, [], refl, true, ◌≡◌, ◌∷◌}
use Rattle.std.specs.Prelude.{codes}

statement_1 : Statement
statement_1 = expression_statement
    (library 1 pointer Memset
    (three (decay (lvalue 1 (Array 3) (tree.automatic 0))) (number 1 65)
    (convert (integer_kind UnsignedLong) (number 1 3))))

statement_2 : Statement
statement_2 = return (Some
    (convert int (library 1 (integer_kind UnsignedLong) Strlen (one (decay (lvalue 1 (Array 3) (tree.automatic 0)))))))

program : Program
program = main_alone none (one (object_variable (Array 3))) 288 ((declaration (without_value 0 ∷ []))
    ∷ statement_1
    ∷ statement_2
    ∷ [])

run : seen (meaning program default_sizes [] 20) ≡ stopped [] (codes "sbcets: spatial violation at line 1\n") 120
unfolding program statement_1 statement_2 computing
run = refl

valid : is_valid_program program ≡ true
unfolding program statement_1 statement_2 computing
valid = refl
