-- ++ and -- of plain variables: before the operand the new value, behind it the old one. The text is rows/step_plain.c;
-- gcc 12.2.0 gives the same output and status.
--     int main(void){int i=5;unsigned char c=255;int*p=0;putchar(48+i++);putchar(48+i);putchar(48+
-- ++i);putchar(48+i--);putchar(48+ --i);putchar(48+c++);putchar(48+c--);p++;return c+(long)p;}
use Rattle.c_tree.specs.Programs.{Program}
use Rattle.c_tree.specs.Statements.{Statement, expression_statement, declaration, return}
use Rattle.c_tree.specs.ValidProgram.{is_valid_program}
use Rattle.c_tree.specs.declared.expression.Fixity.TheVariants.{Postfix, Prefix}
use Rattle.c_tree.specs.declared.expression.Routine.TheVariants.{Putchar}
use Rattle.c_tree.specs.declared.expression.Update.TheVariants.{Arithmetic, Forward}
use Rattle.obj_memory.specs.declared.int_type.IntType.TheVariants.{Int, Long, UnsignedChar}
use Rattle.obj_memory.specs.declared.operator.BinaryOperator.TheVariants.{Add, Subtract}
use Rattle.sb_base.specs.Budgets.{default_sizes}
use Rattle.source_meaning.specs.Meaning.{meaning}
use Rattle.source_meaning_rows.proofs.Samples.{binary, cast, computing, convert, exited, int, integer_kind, library}
use Rattle.source_meaning_rows.proofs.Samples.{main_alone, none, number, one, plain, plain_variable, pointer, seen}
use Rattle.source_meaning_rows.proofs.Samples.{step_plain, three, with_value}
use Rattle.std.proofs.Common.{Some, [], refl, true, ◌∷◌, ◌≡◌}
use Rattle.std.specs.Prelude.{codes}

statement_1 : Statement
statement_1 = expression_statement
    (library 1 int Putchar (one (binary 1 Add (number 1 48) (step_plain 1 int (Arithmetic Add Int) Postfix 0))))

statement_2 : Statement
statement_2 = expression_statement
    (library 1 int Putchar (one (binary 1 Add (number 1 48) (step_plain 1 int (Arithmetic Add Int) Prefix 0))))

statement_3 : Statement
statement_3 = expression_statement
    (library 1 int Putchar (one (binary 1 Add (number 1 48) (step_plain 1 int (Arithmetic Subtract Int) Postfix 0))))

statement_4 : Statement
statement_4 = expression_statement
    (library 1 int Putchar (one (binary 1 Add (number 1 48) (step_plain 1 int (Arithmetic Subtract Int) Prefix 0))))

statement_5 : Statement
statement_5 = expression_statement
    (library 1 int Putchar
    (one (binary 1 Add (number 1 48)
    (convert int (step_plain 1 (integer_kind UnsignedChar) (Arithmetic Add Int) Postfix 1)))))

statement_6 : Statement
statement_6 = expression_statement
    (library 1 int Putchar
    (one (binary 1 Add (number 1 48)
    (convert int (step_plain 1 (integer_kind UnsignedChar) (Arithmetic Subtract Int) Postfix 1)))))

statement_7 : Statement
statement_7 = return (Some (convert int (binary 1 Add
    (convert (integer_kind Long) (plain 1 (integer_kind UnsignedChar) 1))
    (cast 1 (integer_kind Long) (plain 1 pointer 2)))))

program : Program
program = main_alone none
    (three (plain_variable int) (plain_variable (integer_kind UnsignedChar)) (plain_variable pointer))
    328
    (declaration (one (with_value 0 (number 1 5))) ∷
    declaration (one (with_value 1 (convert (integer_kind UnsignedChar) (number 1 255)))) ∷
    declaration (one (with_value 2 (convert pointer (number 1 0)))) ∷
    statement_1 ∷
    expression_statement (library 1 int Putchar (one (binary 1 Add (number 1 48) (plain 1 int 0)))) ∷
    statement_2 ∷
    statement_3 ∷
    statement_4 ∷
    statement_5 ∷
    statement_6 ∷
    expression_statement (step_plain 1 pointer (Forward 4) Postfix 2) ∷
    statement_7 ∷ [])

run : seen (meaning program default_sizes [] 20) ≡ exited (codes "56775/0") 3
unfolding program statement_1 statement_2 statement_3 statement_4 statement_5 statement_6 statement_7 computing
run = refl

valid : is_valid_program program ≡ true
unfolding program statement_1 statement_2 statement_3 statement_4 statement_5 statement_6 statement_7 computing
valid = refl
