-- `int main(void){unsigned char c=250;long l=-1;unsigned u=4000000000U;return (c+10==260)+(l<0)*2+(-1<u)*4;}`
-- The text is rows/mixed_signs.c; gcc 12.2.0 gives the same output and status.
use Rattle.c_tree.specs.Programs.{Program}
use Rattle.c_tree.specs.Statements.{Statement, declaration, return}
use Rattle.c_tree.specs.ValidProgram.{is_valid_program}
use Rattle.obj_memory.specs.declared.int_type.IntType.TheVariants.{Long, UnsignedChar, UnsignedInt}
use Rattle.obj_memory.specs.declared.operator.BinaryOperator.TheVariants.{Add, Equal, Less, Multiply}
use Rattle.obj_memory.specs.declared.operator.UnaryOperator.TheVariants.{Negate}
use Rattle.sb_base.specs.Budgets.{default_sizes}
use Rattle.source_meaning.specs.Meaning.{meaning}
use Rattle.source_meaning_rows.proofs.Samples.{binary, compare, computing, constant, convert, exited, four, int}
use Rattle.source_meaning_rows.proofs.Samples.{integer_kind, main_alone, none, number, one, parenthesized, plain}
use Rattle.source_meaning_rows.proofs.Samples.{plain_variable, seen, three, unary, with_value}
use Rattle.std.proofs.Common.{Some, [], refl, true, ◌≡◌}

statement_1 : Statement
statement_1 = return (Some (binary 1 Add
    (binary 1 Add
    (parenthesized (compare 1 Equal (binary 1 Add (convert int (plain 1 (integer_kind UnsignedChar) 0)) (number 1 10))
    (number 1 260)))
    (binary 1 Multiply
    (parenthesized (compare 1 Less (plain 1 (integer_kind Long) 1) (convert (integer_kind Long) (number 1 0))))
    (number 1 2)))
    (binary 1 Multiply
    (parenthesized (compare 1 Less
    (convert (integer_kind UnsignedInt) (unary 1 Negate (number 1 1)))
    (plain 1 (integer_kind UnsignedInt) 2)))
    (number 1 4))))

program : Program
program = main_alone none
    (three
    (plain_variable (integer_kind UnsignedChar))
    (plain_variable (integer_kind Long))
    (plain_variable (integer_kind UnsignedInt)))
    368
    (four
    (declaration (one (with_value 0 (convert (integer_kind UnsignedChar) (number 1 250)))))
    (declaration (one (with_value 1 (convert (integer_kind Long) (unary 1 Negate (number 1 1))))))
    (declaration (one (with_value 2 (constant UnsignedInt 1 4000000000))))
    statement_1)

run : seen (meaning program default_sizes [] 20) ≡ exited [] 3
unfolding program statement_1 computing
run = refl

valid : is_valid_program program ≡ true
unfolding program statement_1 computing
valid = refl
