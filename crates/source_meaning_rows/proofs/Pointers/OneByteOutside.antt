-- The text is rows/one_byte_outside.c.
--     char a[3];int main(void){char*p=a;p[2]=1;putchar(48+p[2]);
--     p[-1]=1;return 0;}
use Rattle.c_tree.specs.Programs.{Program}
use Rattle.c_tree.specs.Statements.{Statement, expression_statement, declaration, return}
use Rattle.c_tree.specs.Tree as tree
use Rattle.c_tree.specs.ValidProgram.{is_valid_program}
use Rattle.c_tree.specs.declared.expression.Kind.TheVariants.{Array}
use Rattle.c_tree.specs.declared.expression.Routine.TheVariants.{Putchar}
use Rattle.obj_memory.specs.declared.int_type.IntType.TheVariants.{Char}
use Rattle.obj_memory.specs.declared.operator.BinaryOperator.TheVariants.{Add}
use Rattle.obj_memory.specs.declared.operator.UnaryOperator.TheVariants.{Negate}
use Rattle.sb_base.specs.Budgets.{default_sizes}
use Rattle.source_meaning.specs.Meaning.{meaning}
use Rattle.source_meaning_rows.proofs.Samples.{assign, binary, computing, convert, decay, five, index, int}
use Rattle.source_meaning_rows.proofs.Samples.{integer_kind, library, lvalue, main_alone, none, number, one, plain}
use Rattle.source_meaning_rows.proofs.Samples.{plain_variable, pointer, read, seen, static_object, stopped, unary}
use Rattle.source_meaning_rows.proofs.Samples.{with_value}
use Rattle.std.proofs.Common.{Some, [], refl, true, ◌≡◌}
use Rattle.std.specs.Prelude.{codes}

statement_1 : Statement
statement_1 = expression_statement
    (assign 1 (index 1 (integer_kind Char) (plain 1 pointer 0) (number 1 2)) (convert (integer_kind Char) (number 1 1)))

statement_2 : Statement
statement_2 = expression_statement
    (library 1 int Putchar
    (one (binary 1 Add (number 1 48)
    (convert int (read (index 1 (integer_kind Char) (plain 1 pointer 0) (number 1 2)))))))

statement_3 : Statement
statement_3 = expression_statement (assign 2
    (index 2 (integer_kind Char) (plain 2 pointer 0) (unary 2 Negate (number 2 1)))
    (convert (integer_kind Char) (number 2 1)))

program : Program
program = main_alone
    (one (static_object (Array 3) none))
    (one (plain_variable pointer))
    288
    (five
    (declaration (one (with_value 0 (decay (lvalue 1 (Array 3) (tree.static 0))))))
    statement_1
    statement_2
    statement_3
    (return (Some (number 2 0))))

run : seen (meaning program default_sizes [] 20)
    ≡ stopped (codes "1") (codes "sbcets: spatial violation at line 2\n") 120
unfolding program statement_1 statement_2 statement_3 computing
run = refl

valid : is_valid_program program ≡ true
unfolding program statement_1 statement_2 statement_3 computing
valid = refl
