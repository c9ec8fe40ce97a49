-- `int main(void){int x=2;if(x)x=x+1;else{x=9;}if(0);else x=5;if(!x);return x;}`
-- Work: the call, the variable and the body 3; the initializer 1; the first if 2, and its statement 6; the second 2,
-- and
-- 4; the third 3; the return 2. The text is rows/if_counts.c; gcc 12.2.0 gives the same output and status.
use Rattle.c_tree.specs.Programs.{Program}
use Rattle.c_tree.specs.Statements.{Statement, expression_statement, empty, declaration, if_then, if_else, return}
use Rattle.c_tree.specs.ValidProgram.{is_valid_program}
use Rattle.obj_memory.specs.declared.operator.BinaryOperator.TheVariants.{Add}
use Rattle.sb_base.specs.Budgets.{default_sizes}
use Rattle.source_meaning.specs.Meaning.{meaning}
use Rattle.source_meaning_rows.proofs.Samples.{binary, block_of, computing, counts, exited, five, int, logical_not}
use Rattle.source_meaning_rows.proofs.Samples.{main_alone, none, number, one, plain, plain_variable, seen, set_plain}
use Rattle.source_meaning_rows.proofs.Samples.{with_value}
use Rattle.std.proofs.Common.{None, Some, [], refl, true, ◌≡◌}

statement_1 : Statement
statement_1 = if_else (plain 1 int 0)
    ((expression_statement (set_plain 1 0 (binary 1 Add (plain 1 int 0) (number 1 1)))))
    ((block_of 1 (one (expression_statement (set_plain 1 0 (number 1 9))))))

program : Program
program = main_alone none
    (one (plain_variable int))
    288
    (five
    (declaration (one (with_value 0 (number 1 2))))
    statement_1
    (if_else (number 1 0) (empty) ((expression_statement (set_plain 1 0 (number 1 5)))))
    (if_then (logical_not 1 (plain 1 int 0)) (empty))
    (return (Some (plain 1 int 0))))

run : seen (meaning program default_sizes [] 20) ≡ exited [] 5
unfolding program statement_1 computing
run = refl

counted : counts (meaning program default_sizes [] 20) ≡ record { turns = 1; work = 23; accesses = [] }
unfolding program statement_1 computing
counted = refl

valid : is_valid_program program ≡ true
unfolding program statement_1 computing
valid = refl
