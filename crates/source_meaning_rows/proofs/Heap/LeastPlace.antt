-- A block takes the least place where it has room; a block of no bytes takes 16. The text is rows/least_place.c.
--     int
-- main(void){char*a=malloc(0);char*b=malloc(17);char*c=malloc(16);char*d;free(b);d=malloc(33);putchar(48+(b-a)/16);
-- putchar(48+(c-b)/16);putchar(48+(d-c)/16);d=malloc(32);putchar(48+(d==b));return
-- 0;}
use Rattle.c_tree.specs.Programs.{Program}
use Rattle.c_tree.specs.Statements.{Statement, expression_statement, declaration, return}
use Rattle.c_tree.specs.ValidProgram.{is_valid_program}
use Rattle.c_tree.specs.declared.expression.Kind.TheVariants.{Void}
use Rattle.c_tree.specs.declared.expression.Routine.TheVariants.{Free, Malloc, Putchar}
use Rattle.obj_memory.specs.declared.int_type.IntType.TheVariants.{Long, UnsignedLong}
use Rattle.obj_memory.specs.declared.operator.BinaryOperator.TheVariants.{Add, Divide, Equal}
use Rattle.sb_base.specs.Budgets.{default_sizes}
use Rattle.source_meaning.specs.Meaning.{meaning}
use Rattle.source_meaning_rows.proofs.Samples.{binary, compare, computing, convert, difference, exited, four, int}
use Rattle.source_meaning_rows.proofs.Samples.{integer_kind, library, main_alone, none, number, one, parenthesized}
use Rattle.source_meaning_rows.proofs.Samples.{plain, plain_variable, pointer, seen, set_plain, with_value}
use Rattle.source_meaning_rows.proofs.Samples.{without_value}
use Rattle.std.proofs.Common.{Some, [], refl, true, ◌∷◌, ◌≡◌}
use Rattle.std.specs.Prelude.{codes}

statement_1 : Statement
statement_1 = expression_statement (library 1 int Putchar (one (convert int (binary 1 Add
    (convert (integer_kind Long) (number 1 48))
    (binary 1 Divide
    (parenthesized (difference 1 1 (plain 1 pointer 1) (plain 1 pointer 0)))
    (convert (integer_kind Long) (number 1 16)))))))

statement_2 : Statement
statement_2 = expression_statement (library 1 int Putchar (one (convert int (binary 1 Add
    (convert (integer_kind Long) (number 1 48))
    (binary 1 Divide
    (parenthesized (difference 1 1 (plain 1 pointer 2) (plain 1 pointer 1)))
    (convert (integer_kind Long) (number 1 16)))))))

statement_3 : Statement
statement_3 = expression_statement (library 1 int Putchar (one (convert int (binary 1 Add
    (convert (integer_kind Long) (number 1 48))
    (binary 1 Divide
    (parenthesized (difference 1 1 (plain 1 pointer 3) (plain 1 pointer 2)))
    (convert (integer_kind Long) (number 1 16)))))))

statement_4 : Statement
statement_4 = expression_statement
    (library 1 int Putchar
    (one (binary 1 Add (number 1 48) (parenthesized (compare 1 Equal (plain 1 pointer 3) (plain 1 pointer 1))))))

program : Program
program = main_alone none
    (four (plain_variable pointer) (plain_variable pointer) (plain_variable pointer) (plain_variable pointer))
    408
    ((declaration (one (with_value 0
    (library 1 pointer Malloc (one (convert (integer_kind UnsignedLong) (number 1 0)))))))
    ∷ (declaration (one (with_value 1
    (library 1 pointer Malloc (one (convert (integer_kind UnsignedLong) (number 1 17)))))))
    ∷ (declaration (one (with_value 2
    (library 1 pointer Malloc (one (convert (integer_kind UnsignedLong) (number 1 16)))))))
    ∷ (declaration (without_value 3 ∷ []))
    ∷ (expression_statement (library 1 Void Free (one (plain 1 pointer 1))))
    ∷ (expression_statement
    (set_plain 1 3 (library 1 pointer Malloc (one (convert (integer_kind UnsignedLong) (number 1 33))))))
    ∷ statement_1
    ∷ statement_2
    ∷ statement_3
    ∷ (expression_statement
    (set_plain 1 3 (library 1 pointer Malloc (one (convert (integer_kind UnsignedLong) (number 1 32))))))
    ∷ statement_4
    ∷ (return (Some (number 1 0)))
    ∷ [])

run : seen (meaning program default_sizes [] 20) ≡ exited (codes "1211") 0
unfolding program statement_1 statement_2 statement_3 statement_4 computing
run = refl

valid : is_valid_program program ≡ true
unfolding program statement_1 statement_2 statement_3 statement_4 computing
valid = refl
