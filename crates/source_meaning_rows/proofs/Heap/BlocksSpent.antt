-- `int main(void){char*p=malloc(1);char*q=malloc(1);putchar(48+(q==0));free(p);q=malloc(1);*q=3;return *q;}`
-- No block where as many live as the budget allows; a null pointer takes no key. The text is rows/blocks_spent.c.
use Rattle.c_tree.specs.Programs.{Program}
use Rattle.c_tree.specs.Statements.{Statement, expression_statement, declaration, return}
use Rattle.c_tree.specs.ValidProgram.{is_valid_program}
use Rattle.c_tree.specs.declared.expression.Kind.TheVariants.{Void}
use Rattle.c_tree.specs.declared.expression.Routine.TheVariants.{Free, Malloc, Putchar}
use Rattle.obj_memory.specs.declared.int_type.IntType.TheVariants.{Char, UnsignedLong}
use Rattle.obj_memory.specs.declared.operator.BinaryOperator.TheVariants.{Add, Equal}
use Rattle.sb_base.specs.Budgets.{default_sizes}
use Rattle.source_meaning.specs.Meaning.{meaning}
use Rattle.source_meaning_rows.proofs.Samples.{assign, binary, compare, computing, convert, deref, exited, int}
use Rattle.source_meaning_rows.proofs.Samples.{integer_kind, library, main_alone, none, number, one, parenthesized}
use Rattle.source_meaning_rows.proofs.Samples.{plain, plain_variable, pointer, read, seen, set_plain, two, with_value}
use Rattle.std.proofs.Common.{Some, [], refl, true, ◌∷◌, ◌≡◌}
use Rattle.std.specs.Prelude.{codes}

statement_1 : Statement
statement_1 = expression_statement
    (library 1 int Putchar
    (one (binary 1 Add (number 1 48)
    (parenthesized (compare 1 Equal (plain 1 pointer 1) (convert pointer (number 1 0)))))))

statement_2 : Statement
statement_2 = expression_statement
    (assign 1 (deref 1 (integer_kind Char) (plain 1 pointer 1)) (convert (integer_kind Char) (number 1 3)))

program : Program
program = main_alone none
    (two (plain_variable pointer) (plain_variable pointer))
    328
    (declaration (one (with_value 0
    (library 1 pointer Malloc (one (convert (integer_kind UnsignedLong) (number 1 1)))))) ∷
    declaration (one (with_value 1
    (library 1 pointer Malloc (one (convert (integer_kind UnsignedLong) (number 1 1)))))) ∷
    statement_1 ∷
    expression_statement (library 1 Void Free (one (plain 1 pointer 0))) ∷
    expression_statement (set_plain 1 1
    (library 1 pointer Malloc (one (convert (integer_kind UnsignedLong) (number 1 1))))) ∷
    statement_2 ∷
    return (Some (convert int (read (deref 1 (integer_kind Char) (plain 1 pointer 1))))) ∷ [])

run : seen (meaning program (record default_sizes { blocks = 1; keys = 2 }) [] 20) ≡ exited (codes "1") 3
unfolding program statement_1 statement_2 computing
run = refl

valid : is_valid_program program ≡ true
unfolding program statement_1 statement_2 computing
valid = refl
