-- `enum e{A,B=5,C};int main(void){enum e x=C;return x*10+A+B;}`
-- The text is rows/enumeration.c; gcc 12.2.0 gives the same output and status.
use Rattle.c_tree.specs.Programs.{Program}
use Rattle.c_tree.specs.Statements.{Statement, declaration, return}
use Rattle.c_tree.specs.ValidProgram.{is_valid_program}
use Rattle.obj_memory.specs.declared.operator.BinaryOperator.TheVariants.{Add, Multiply}
use Rattle.sb_base.specs.Budgets.{default_sizes}
use Rattle.source_meaning.specs.Meaning.{meaning}
use Rattle.source_meaning_rows.proofs.Samples.{binary, computing, exited, int, main_alone, none, number, one, plain}
use Rattle.source_meaning_rows.proofs.Samples.{plain_variable, seen, two, with_value}
use Rattle.std.proofs.Common.{Some, [], refl, true, ◌≡◌}

statement_1 : Statement
statement_1 = return (Some
    (binary 1 Add (binary 1 Add (binary 1 Multiply (plain 1 int 0) (number 1 10)) (number 1 0)) (number 1 5)))

program : Program
program = main_alone none (one (plain_variable int)) 248
    (two (declaration (one (with_value 0 (number 1 6)))) statement_1)

run : seen (meaning program default_sizes [] 20) ≡ exited [] 65
unfolding program statement_1 computing
run = refl

valid : is_valid_program program ≡ true
unfolding program statement_1 computing
valid = refl
