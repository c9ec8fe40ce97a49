-- A compound assignment is judged once, after its right operand is evaluated, and then reads. The text is
-- rows/judged_after_operand.c.
--     int main(void){int*p=malloc(4);*p=1;
--     *p+=(free(p),1);return 0;}
use Rattle.c_tree.specs.Programs.{Program}
use Rattle.c_tree.specs.Statements.{Statement, expression_statement, declaration, return}
use Rattle.c_tree.specs.ValidProgram.{is_valid_program}
use Rattle.c_tree.specs.declared.expression.Kind.TheVariants.{Void}
use Rattle.c_tree.specs.declared.expression.Routine.TheVariants.{Free, Malloc}
use Rattle.c_tree.specs.declared.expression.Update.TheVariants.{Arithmetic}
use Rattle.obj_memory.specs.declared.int_type.IntType.TheVariants.{Int, UnsignedLong}
use Rattle.obj_memory.specs.declared.operator.BinaryOperator.TheVariants.{Add}
use Rattle.sb_base.specs.Budgets.{default_sizes}
use Rattle.source_meaning.specs.Meaning.{meaning}
use Rattle.source_meaning_rows.proofs.Samples.{assign, comma, compound, computing, convert, deref, four, int}
use Rattle.source_meaning_rows.proofs.Samples.{integer_kind, library, main_alone, none, number, one, parenthesized}
use Rattle.source_meaning_rows.proofs.Samples.{plain, plain_variable, pointer, seen, stopped, with_value, writes}
use Rattle.std.proofs.Common.{Some, [], refl, true, ◌∷◌, ◌≡◌}
use Rattle.std.specs.Prelude.{codes}

statement_1 : Statement
statement_1 = expression_statement (compound 2 (Arithmetic Add Int)
    (deref 2 int (plain 2 pointer 0))
    (parenthesized (comma 2 (library 2 Void Free (one (plain 2 pointer 0))) (number 2 1))))

program : Program
program = main_alone none
    (one (plain_variable pointer))
    248
    (four
    (declaration (one (with_value 0
    (library 1 pointer Malloc (one (convert (integer_kind UnsignedLong) (number 1 4)))))))
    (expression_statement (assign 1 (deref 1 int (plain 1 pointer 0)) (number 1 1)))
    statement_1
    (return (Some (number 2 0))))

run : seen (meaning program default_sizes [] 20) ≡ stopped [] (codes "sbcets: temporal violation at line 2\n") 121
unfolding program statement_1 computing
run = refl

accesses : (meaning program default_sizes [] 20).shown.accesses ≡ writes 0x10100000 4 ∷ []
unfolding program statement_1 computing
accesses = refl

valid : is_valid_program program ≡ true
unfolding program statement_1 computing
valid = refl
