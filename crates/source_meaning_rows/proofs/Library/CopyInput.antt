-- `int main(void){int c;while((c=getchar())!=-1)putchar(c);return 0;}`
-- Work on one byte of input: 4 for the call, the variable, the body and the loop; 8 for each of the two times of the
-- condition, 7 nodes (the name of the variable is one, and the negative constant two) and a call; 5 to put the byte; 2
-- for the return. The text is rows/copy_input.c; gcc 12.2.0 gives the same output and status.
use Rattle.c_tree.specs.Programs.{Program}
use Rattle.c_tree.specs.Statements.{Statement, expression_statement, while_do, return, declaration}
use Rattle.c_tree.specs.ValidProgram.{is_valid_program}
use Rattle.c_tree.specs.declared.expression.Routine.TheVariants.{Getchar, Putchar}
use Rattle.obj_memory.specs.declared.operator.BinaryOperator.TheVariants.{NotEqual}
use Rattle.obj_memory.specs.declared.operator.UnaryOperator.TheVariants.{Negate}
use Rattle.sb_base.specs.Budgets.{default_sizes}
use Rattle.source_meaning.specs.Meaning.{meaning}
use Rattle.source_meaning_rows.proofs.Samples.{compare, computing, counts, exited, int, library, main_alone, none}
use Rattle.source_meaning_rows.proofs.Samples.{number, one, parenthesized, plain, plain_variable, running, seen}
use Rattle.source_meaning_rows.proofs.Samples.{set_plain, two, unary, without_value}
use Rattle.std.proofs.Common.{◌^◌, ◌-◌, Some, [], refl, true, ◌∷◌, ◌≡◌}

statement_1 : Statement
statement_1 = while_do
    (compare 1 NotEqual (parenthesized (set_plain 1 0 (library 1 int Getchar none))) (unary 1 Negate (number 1 1)))
    ((expression_statement (library 1 int Putchar (one (plain 1 int 0)))))

program : Program
program = main_alone none (one (plain_variable int)) 248 ((declaration (without_value 0 ∷ []))
    ∷ statement_1
    ∷ (return (Some (number 1 0)))
    ∷ [])

empty : seen (meaning program default_sizes [] 20) ≡ exited [] 0
unfolding program statement_1 computing
empty = refl

three_bytes : seen (meaning program default_sizes (0x41 ∷ 0x00 ∷ 0xff ∷ []) 20) ≡ exited (0x41 ∷ 0x00 ∷ 0xff ∷ []) 0
unfolding program statement_1 computing
three_bytes = refl

three_taken : (meaning program default_sizes (0x41 ∷ 0x00 ∷ 0xff ∷ []) 20).shown.taken ≡ 3
unfolding program statement_1 computing
three_taken = refl

-- a number of the input is taken as an unsigned char (7.19.7.1), so none is the end
an_unsigned_char : seen (meaning program default_sizes ((2 ^ 64 - 1) ∷ []) 20) ≡ exited (0xff ∷ []) 0
unfolding program statement_1 computing
an_unsigned_char = refl

one_turn_of_three : seen (meaning program default_sizes (0x41 ∷ 0x00 ∷ 0xff ∷ []) 2) ≡ running (0x41 ∷ [])
unfolding program statement_1 computing
one_turn_of_three = refl

taken_in_one_turn : (meaning program default_sizes (0x41 ∷ 0x00 ∷ 0xff ∷ []) 2).shown.taken ≡ 2
unfolding program statement_1 computing
taken_in_one_turn = refl

counted : counts (meaning program default_sizes (0x41 ∷ []) 20) ≡ record { turns = 2; work = 27; accesses = [] }
unfolding program statement_1 computing
counted = refl

valid : is_valid_program program ≡ true
unfolding program statement_1 computing
valid = refl
