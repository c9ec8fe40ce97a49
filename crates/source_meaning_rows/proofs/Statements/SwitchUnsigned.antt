-- Labels are converted to the promoted type of the value. The text is rows/switch_unsigned.c; gcc 12.2.0 gives the same
-- output and status.
--     int main(void){unsigned u=4294967295U;long l=-1;int r=0;switch(u){case -1:r=1;}switch(l){case
-- 4294967295U:r=r+2;break;case -1:r=r+4;}switch((signed char)200){case 200:r=r+8;break;case -56:r=r+16;}return r;}
use Rattle.c_tree.specs.Programs.{Program}
use Rattle.c_tree.specs.Statements.{Statement, expression_statement, declaration, break, return}
use Rattle.c_tree.specs.ValidProgram.{is_valid_program}
use Rattle.c_tree.specs.declared.statement.CaseLabel.TheVariants.{Case}
use Rattle.obj_memory.specs.declared.int_type.IntType.TheVariants.{Long, SignedChar, UnsignedInt}
use Rattle.obj_memory.specs.declared.operator.BinaryOperator.TheVariants.{Add}
use Rattle.obj_memory.specs.declared.operator.UnaryOperator.TheVariants.{Negate}
use Rattle.sb_base.specs.Budgets.{default_sizes}
use Rattle.source_meaning.specs.Meaning.{meaning}
use Rattle.source_meaning_rows.proofs.Samples.{binary, cast, computing, constant, convert, exited, int, integer_kind}
use Rattle.source_meaning_rows.proofs.Samples.{item, main_alone, none, number, one, plain, plain_variable, seen}
use Rattle.source_meaning_rows.proofs.Samples.{set_plain, switch_of, three, unary, with_value}
use Rattle.std.proofs.Common.{Some, [], refl, true, ◌∷◌, ◌≡◌}

statement_1 : Statement
statement_1 = switch_of (plain 1 (integer_kind UnsignedInt) 0) 1
    (one (item (one (Case 4294967295)) (expression_statement (set_plain 1 2 (number 1 1)))))

statement_2 : Statement
statement_2 = switch_of
    (plain 1 (integer_kind Long) 1) 1
    (three
    (item (one (Case 4294967295)) (expression_statement (set_plain 1 2 (binary 1 Add (plain 1 int 2) (number 1 2)))))
    (item none break)
    (item (one (Case 18446744073709551615))
    (expression_statement (set_plain 1 2 (binary 1 Add (plain 1 int 2) (number 1 4))))))

statement_3 : Statement
statement_3 = switch_of
    (convert int (cast 1 (integer_kind SignedChar) (number 1 200))) 1
    (three
    (item (one (Case 200)) (expression_statement (set_plain 1 2 (binary 1 Add (plain 1 int 2) (number 1 8)))))
    (item none break)
    (item (one (Case 18446744073709551560))
    (expression_statement (set_plain 1 2 (binary 1 Add (plain 1 int 2) (number 1 16))))))

program : Program
program = main_alone none
    (three (plain_variable (integer_kind UnsignedInt)) (plain_variable (integer_kind Long)) (plain_variable int))
    368
    (declaration (one (with_value 0 (constant UnsignedInt 1 4294967295))) ∷
    declaration (one (with_value 1 (convert (integer_kind Long) (unary 1 Negate (number 1 1))))) ∷
    declaration (one (with_value 2 (number 1 0))) ∷
    statement_1 ∷
    statement_2 ∷
    statement_3 ∷
    return (Some (plain 1 int 2)) ∷ [])

run : seen (meaning program default_sizes [] 20) ≡ exited [] 21
unfolding program statement_1 statement_2 statement_3 computing
run = refl

valid : is_valid_program program ≡ true
unfolding program statement_1 statement_2 statement_3 computing
valid = refl
