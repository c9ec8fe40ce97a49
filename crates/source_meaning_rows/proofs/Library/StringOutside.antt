-- The text is rows/string_outside.c.
--     int main(void){char*s="abc";putchar(s[0]);putchar(48+s[3]);
--     putchar(s[4]);return 0;}
use Rattle.c_tree.specs.Programs.{Program}
use Rattle.c_tree.specs.Statements.{Statement, expression_statement, declaration, return, literal_content}
use Rattle.c_tree.specs.Tree as tree
use Rattle.c_tree.specs.ValidProgram.{is_valid_program}
use Rattle.c_tree.specs.declared.expression.Kind.TheVariants.{Array}
use Rattle.c_tree.specs.declared.expression.Routine.TheVariants.{Putchar}
use Rattle.obj_memory.specs.declared.int_type.IntType.TheVariants.{Char}
use Rattle.obj_memory.specs.declared.operator.BinaryOperator.TheVariants.{Add}
use Rattle.sb_base.specs.Budgets.{default_sizes}
use Rattle.source_meaning.specs.Meaning.{meaning}
use Rattle.source_meaning_rows.proofs.Samples.{binary, computing, convert, decay, five, index, int, integer_kind}
use Rattle.source_meaning_rows.proofs.Samples.{library, lvalue, main_alone, number, one, part, plain, plain_variable}
use Rattle.source_meaning_rows.proofs.Samples.{pointer, read, seen, stopped, string_literal, with_value}
use Rattle.std.proofs.Common.{Some, [], refl, true, ◌++◌, ◌∷◌, ◌≡◌}
use Rattle.std.specs.Prelude.{codes}

statement_1 : Statement
statement_1 = expression_statement
    (library 1 int Putchar (one (convert int (read (index 1 (integer_kind Char) (plain 1 pointer 0) (number 1 0))))))

statement_2 : Statement
statement_2 = expression_statement
    (library 1 int Putchar
    (one (binary 1 Add (number 1 48)
    (convert int (read (index 1 (integer_kind Char) (plain 1 pointer 0) (number 1 3)))))))

statement_3 : Statement
statement_3 = expression_statement
    (library 2 int Putchar (one (convert int (read (index 2 (integer_kind Char) (plain 2 pointer 0) (number 2 4))))))

program : Program
program = main_alone
    (one (string_literal (Array 4) (one (part 0 (literal_content (codes "abc" ++ 0 ∷ []))))))
    (one (plain_variable pointer))
    288
    (five
    (declaration (one (with_value 0 (decay (lvalue 1 (Array 4) (tree.static 0))))))
    statement_1
    statement_2
    statement_3
    (return (Some (number 2 0))))

run : seen (meaning program default_sizes [] 20)
    ≡ stopped (codes "a0") (codes "sbcets: spatial violation at line 2\n") 120
unfolding program statement_1 statement_2 statement_3 computing
run = refl

valid : is_valid_program program ≡ true
unfolding program statement_1 statement_2 statement_3 computing
valid = refl
