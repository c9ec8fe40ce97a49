-- `int main(void){int m=-2147483647-1;int d=-1;putchar(m/d==m?'W':'X');d=0;return m%d;}`
-- The text is rows/least_by_minus_one.c.
use Rattle.c_tree.specs.Programs.{Program}
use Rattle.c_tree.specs.Statements.{Statement, expression_statement, declaration, return}
use Rattle.c_tree.specs.ValidProgram.{is_valid_program}
use Rattle.c_tree.specs.declared.expression.Routine.TheVariants.{Putchar}
use Rattle.obj_memory.specs.declared.operator.BinaryOperator.TheVariants.{Divide, Equal, Remainder, Subtract}
use Rattle.obj_memory.specs.declared.operator.UnaryOperator.TheVariants.{Negate}
use Rattle.sb_base.specs.Budgets.{default_sizes}
use Rattle.source_meaning.specs.Meaning.{meaning}
use Rattle.source_meaning_rows.proofs.Samples.{binary, compare, computing, conditional, five, int, library, main_alone}
use Rattle.source_meaning_rows.proofs.Samples.{none, number, one, plain, plain_variable, seen, set_plain, stopped, two}
use Rattle.source_meaning_rows.proofs.Samples.{unary, with_value}
use Rattle.std.proofs.Common.{Some, [], refl, true, ◌≡◌}
use Rattle.std.specs.Prelude.{codes}

statement_1 : Statement
statement_1 = expression_statement
    (library 1 int Putchar
    (one (conditional 1 (compare 1 Equal (binary 1 Divide (plain 1 int 0) (plain 1 int 1)) (plain 1 int 0))
    (number 1 87) (number 1 88))))

program : Program
program = main_alone none
    (two (plain_variable int) (plain_variable int))
    288
    (five
    (declaration (one (with_value 0 (binary 1 Subtract (unary 1 Negate (number 1 2147483647)) (number 1 1)))))
    (declaration (one (with_value 1 (unary 1 Negate (number 1 1)))))
    statement_1
    (expression_statement (set_plain 1 1 (number 1 0)))
    (return (Some (binary 1 Remainder (plain 1 int 0) (plain 1 int 1)))))

run : seen (meaning program default_sizes [] 20)
    ≡ stopped (codes "W") (codes "sbcets: division by zero at line 1\n") 124
unfolding program statement_1 computing
run = refl

valid : is_valid_program program ≡ true
unfolding program statement_1 computing
valid = refl
