-- `int main(void){char*s="ab";char*t="ab";s[0]=99;putchar(s[0]);putchar(t[0]);putchar(48+(s==t));return s[3];}`
-- Each string literal is an object of its own, and writable. The text is rows/strings_are_objects.c.
use Rattle.c_tree.specs.Programs.{Program}
use Rattle.c_tree.specs.Statements.{Statement, expression_statement, declaration, return, literal_content}
use Rattle.c_tree.specs.Tree as tree
use Rattle.c_tree.specs.ValidProgram.{is_valid_program}
use Rattle.c_tree.specs.declared.expression.Kind.TheVariants.{Array}
use Rattle.c_tree.specs.declared.expression.Routine.TheVariants.{Putchar}
use Rattle.obj_memory.specs.declared.int_type.IntType.TheVariants.{Char}
use Rattle.obj_memory.specs.declared.operator.BinaryOperator.TheVariants.{Add, Equal}
use Rattle.sb_base.specs.Budgets.{default_sizes}
use Rattle.source_meaning.specs.Meaning.{meaning}
use Rattle.source_meaning_rows.proofs.Samples.{assign, binary, compare, computing, convert, decay, index, int}
use Rattle.source_meaning_rows.proofs.Samples.{integer_kind, library, lvalue, main_alone, number, one, parenthesized}
use Rattle.source_meaning_rows.proofs.Samples.{part, plain, plain_variable, pointer, read, seen, stopped}
use Rattle.source_meaning_rows.proofs.Samples.{string_literal, two, with_value}
use Rattle.std.proofs.Common.{Some, [], refl, true, ◌++◌, ◌∷◌, ◌≡◌}
use Rattle.std.specs.Prelude.{codes}

statement_1 : Statement
statement_1 = expression_statement
    (assign 1 (index 1 (integer_kind Char) (plain 1 pointer 0) (number 1 0))
    (convert (integer_kind Char) (number 1 99)))

statement_2 : Statement
statement_2 = expression_statement
    (library 1 int Putchar (one (convert int (read (index 1 (integer_kind Char) (plain 1 pointer 0) (number 1 0))))))

statement_3 : Statement
statement_3 = expression_statement
    (library 1 int Putchar (one (convert int (read (index 1 (integer_kind Char) (plain 1 pointer 1) (number 1 0))))))

statement_4 : Statement
statement_4 = expression_statement
    (library 1 int Putchar
    (one (binary 1 Add (number 1 48) (parenthesized (compare 1 Equal (plain 1 pointer 0) (plain 1 pointer 1))))))

program : Program
program = main_alone
    (two
    (string_literal (Array 3) (one (part 0 (literal_content (codes "ab" ++ 0 ∷ [])))))
    (string_literal (Array 3) (one (part 0 (literal_content (codes "ab" ++ 0 ∷ []))))))
    (two (plain_variable pointer) (plain_variable pointer))
    328
    (declaration (one (with_value 0 (decay (lvalue 1 (Array 3) (tree.static 0))))) ∷
    declaration (one (with_value 1 (decay (lvalue 1 (Array 3) (tree.static 1))))) ∷
    statement_1 ∷
    statement_2 ∷
    statement_3 ∷
    statement_4 ∷
    return (Some (convert int (read (index 1 (integer_kind Char) (plain 1 pointer 0) (number 1 3))))) ∷ [])

run : seen (meaning program default_sizes [] 20)
    ≡ stopped (codes "ca0") (codes "sbcets: spatial violation at line 1\n") 120
unfolding program statement_1 statement_2 statement_3 statement_4 computing
run = refl

valid : is_valid_program program ≡ true
unfolding program statement_1 statement_2 statement_3 statement_4 computing
valid = refl
