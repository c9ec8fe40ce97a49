-- `int main(void){int x;(x)=(2);(x)+=1;return (x)+x;}`
-- Parentheses are nodes, and so is the name of a variable that is assigned. Work: the call, the variable and the body
-- 3;
-- the first statement 1 + 3 + 3; the second 1 + 4 + 1; the return 5. The text is rows/parentheses.c; gcc 12.2.0 gives
-- the same output and status.
use Rattle.c_tree.specs.Programs.{Program}
use Rattle.c_tree.specs.Statements.{Statement, expression_statement, return, declaration}
use Rattle.c_tree.specs.ValidProgram.{is_valid_program}
use Rattle.c_tree.specs.declared.expression.Update.TheVariants.{Arithmetic}
use Rattle.obj_memory.specs.declared.int_type.IntType.TheVariants.{Int}
use Rattle.obj_memory.specs.declared.operator.BinaryOperator.TheVariants.{Add}
use Rattle.sb_base.specs.Budgets.{default_sizes}
use Rattle.source_meaning.specs.Meaning.{meaning}
use Rattle.source_meaning_rows.proofs.Samples.{binary, change_plain_in, computing, counts, exited, int, main_alone}
use Rattle.source_meaning_rows.proofs.Samples.{none, number, one, parenthesized, plain, plain_variable, seen}
use Rattle.source_meaning_rows.proofs.Samples.{set_plain_in, three, without_value}
use Rattle.std.proofs.Common.{Some, [], refl, true, ◌≡◌, ◌∷◌}

statement_1 : Statement
statement_1 = expression_statement
    (set_plain_in 1 (record { variable = 0; parentheses = 1 }) (parenthesized (parenthesized (number 1 2))))

program : Program
program = main_alone none
    (one (plain_variable int))
    248
    ((declaration (without_value 0 ∷ []))
    ∷ statement_1
    ∷ (expression_statement
    (change_plain_in 1 int (Arithmetic Add Int) (record { variable = 0; parentheses = 2 }) (number 1 1)))
    ∷ (return (Some (binary 1 Add (parenthesized (plain 1 int 0)) (plain 1 int 0))))
    ∷ [])

run : seen (meaning program default_sizes [] 20) ≡ exited [] 6
unfolding program statement_1 computing
run = refl

counted : counts (meaning program default_sizes [] 20) ≡ record { turns = 1; work = 21; accesses = [] }
unfolding program statement_1 computing
counted = refl

valid : is_valid_program program ≡ true
unfolding program statement_1 computing
valid = refl
