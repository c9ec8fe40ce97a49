-- A read is judged when it is made, and an assignment after its right side is evaluated. The text is
-- rows/judged_after_right_side.c.
--     int main(void){int*p=malloc(4);int v=*p+(free(p),65);putchar(v);p=malloc(4);
--     *p=(free(p),1);return 0;}
use Rattle.c_tree.specs.Programs.{Program}
use Rattle.c_tree.specs.Statements.{Statement, expression_statement, declaration, return}
use Rattle.c_tree.specs.ValidProgram.{is_valid_program}
use Rattle.c_tree.specs.declared.expression.Kind.TheVariants.{Void}
use Rattle.c_tree.specs.declared.expression.Routine.TheVariants.{Free, Malloc, Putchar}
use Rattle.obj_memory.specs.declared.int_type.IntType.TheVariants.{UnsignedLong}
use Rattle.obj_memory.specs.declared.operator.BinaryOperator.TheVariants.{Add}
use Rattle.sb_base.specs.Budgets.{default_sizes}
use Rattle.source_meaning.specs.Meaning.{meaning}
use Rattle.source_meaning_rows.proofs.Samples.{assign, binary, comma, computing, convert, deref, int, integer_kind}
use Rattle.source_meaning_rows.proofs.Samples.{library, main_alone, none, number, one, parenthesized, plain}
use Rattle.source_meaning_rows.proofs.Samples.{plain_variable, pointer, read, seen, set_plain, six, stopped, two}
use Rattle.source_meaning_rows.proofs.Samples.{with_value}
use Rattle.std.proofs.Common.{Some, [], refl, true, ◌≡◌}
use Rattle.std.specs.Prelude.{codes}

statement_1 : Statement
statement_1 = declaration (one (with_value 1 (binary 1 Add
    (read (deref 1 int (plain 1 pointer 0)))
    (parenthesized (comma 1 (library 1 Void Free (one (plain 1 pointer 0))) (number 1 65))))))

statement_2 : Statement
statement_2 = expression_statement (assign 2
    (deref 2 int (plain 2 pointer 0))
    (parenthesized (comma 2 (library 2 Void Free (one (plain 2 pointer 0))) (number 2 1))))

program : Program
program = main_alone none
    (two (plain_variable pointer) (plain_variable int))
    288
    (six
    (declaration (one (with_value 0
    (library 1 pointer Malloc (one (convert (integer_kind UnsignedLong) (number 1 4)))))))
    statement_1
    (expression_statement (library 1 int Putchar (one (plain 1 int 1))))
    (expression_statement
    (set_plain 1 0 (library 1 pointer Malloc (one (convert (integer_kind UnsignedLong) (number 1 4))))))
    statement_2
    (return (Some (number 2 0))))

run : seen (meaning program default_sizes [] 20)
    ≡ stopped (codes "A") (codes "sbcets: temporal violation at line 2\n") 121
unfolding program statement_1 statement_2 computing
run = refl

valid : is_valid_program program ≡ true
unfolding program statement_1 statement_2 computing
valid = refl
