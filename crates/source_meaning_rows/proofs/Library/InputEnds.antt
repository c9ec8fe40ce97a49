-- `int main(void){int a=getchar();int b=getchar();int c=getchar();return (a==7)+(b==-1)*2+(c==-1)*4;}`
-- At the end of the input nothing more is taken. The text is rows/input_ends.c; gcc 12.2.0 gives the same output and
-- status.
use Rattle.c_tree.specs.Programs.{Program}
use Rattle.c_tree.specs.Statements.{Statement, declaration, return}
use Rattle.c_tree.specs.ValidProgram.{is_valid_program}
use Rattle.c_tree.specs.declared.expression.Routine.TheVariants.{Getchar}
use Rattle.obj_memory.specs.declared.operator.BinaryOperator.TheVariants.{Add, Equal, Multiply}
use Rattle.obj_memory.specs.declared.operator.UnaryOperator.TheVariants.{Negate}
use Rattle.sb_base.specs.Budgets.{default_sizes}
use Rattle.source_meaning.specs.Meaning.{meaning}
use Rattle.source_meaning_rows.proofs.Samples.{binary, compare, computing, exited, four, int, library, main_alone, none}
use Rattle.source_meaning_rows.proofs.Samples.{number, one, parenthesized, plain, plain_variable, seen, three, unary}
use Rattle.source_meaning_rows.proofs.Samples.{with_value}
use Rattle.std.proofs.Common.{Some, [], refl, true, ◌∷◌, ◌≡◌}

statement_1 : Statement
statement_1 = return (Some (binary 1 Add
    (binary 1 Add
    (parenthesized (compare 1 Equal (plain 1 int 0) (number 1 7)))
    (binary 1 Multiply (parenthesized (compare 1 Equal (plain 1 int 1) (unary 1 Negate (number 1 1)))) (number 1 2)))
    (binary 1 Multiply (parenthesized (compare 1 Equal (plain 1 int 2) (unary 1 Negate (number 1 1)))) (number 1 4))))

program : Program
program = main_alone none
    (three (plain_variable int) (plain_variable int) (plain_variable int))
    368
    (four
    (declaration (one (with_value 0 (library 1 int Getchar none))))
    (declaration (one (with_value 1 (library 1 int Getchar none))))
    (declaration (one (with_value 2 (library 1 int Getchar none))))
    statement_1)

run : seen (meaning program default_sizes (7 ∷ []) 20) ≡ exited [] 7
unfolding program statement_1 computing
run = refl

taken : (meaning program default_sizes (7 ∷ []) 20).shown.taken ≡ 1
unfolding program statement_1 computing
taken = refl

valid : is_valid_program program ≡ true
unfolding program statement_1 computing
valid = refl
