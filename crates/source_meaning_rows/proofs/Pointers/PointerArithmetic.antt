-- The text is rows/pointer_arithmetic.c; gcc 12.2.0 gives the same output and status.
--     int a[5]={1,2,3,4,5};int main(void){int*p=a+2;int*q=2+a;char c=1;long l=-1;unsigned char u=1;
-- putchar(48+*p);putchar(48+*(p-c));putchar(48+p[l]);putchar(48+1[p]);putchar(48+*(q+u));p+=2;putchar(48+*p);p-=3;
-- putchar(48+*p);p+=-1;putchar(48+*p);
--     putchar(48+*p++);putchar(48+*++p);putchar(48+*p--);putchar(48+*--p);return 0;}
use Rattle.c_tree.specs.Programs.{Program}
use Rattle.c_tree.specs.Statements.{Statement, expression_statement, declaration, return}
use Rattle.c_tree.specs.Tree as tree
use Rattle.c_tree.specs.ValidProgram.{is_valid_program}
use Rattle.c_tree.specs.declared.expression.Fixity.TheVariants.{Postfix, Prefix}
use Rattle.c_tree.specs.declared.expression.Kind.TheVariants.{Array}
use Rattle.c_tree.specs.declared.expression.OffsetForm.TheVariants.{IndexPlusPointer, PointerMinusIndex}
use Rattle.c_tree.specs.declared.expression.OffsetForm.TheVariants.{PointerPlusIndex}
use Rattle.c_tree.specs.declared.expression.Routine.TheVariants.{Putchar}
use Rattle.c_tree.specs.declared.expression.Update.TheVariants.{Back, Forward}
use Rattle.obj_memory.specs.declared.int_type.IntType.TheVariants.{Char, Long, UnsignedChar}
use Rattle.obj_memory.specs.declared.operator.BinaryOperator.TheVariants.{Add}
use Rattle.obj_memory.specs.declared.operator.UnaryOperator.TheVariants.{Negate}
use Rattle.sb_base.specs.Budgets.{default_sizes}
use Rattle.source_meaning.specs.Meaning.{meaning}
use Rattle.source_meaning_rows.proofs.Samples.{binary, change_plain, computing, content, convert, decay, deref, exited}
use Rattle.source_meaning_rows.proofs.Samples.{five, index, index_of, int, integer_kind, library, lvalue, main_alone}
use Rattle.source_meaning_rows.proofs.Samples.{number, offset, one, parenthesized, part, plain, plain_variable, pointer}
use Rattle.source_meaning_rows.proofs.Samples.{read, seen, static_object, step_plain, unary, with_value}
use Rattle.std.proofs.Common.{Some, [], refl, true, ◌∷◌, ◌≡◌}
use Rattle.std.specs.Prelude.{codes}

statement_1 : Statement
statement_1 = expression_statement
    (library 2 int Putchar
    (one (binary 2 Add (number 2 48)
    (read (deref 2 int (parenthesized
    (offset 2 PointerMinusIndex 4 (plain 2 pointer 0) (plain 2 (integer_kind Char) 2))))))))

statement_2 : Statement
statement_2 = expression_statement
    (library 2 int Putchar
    (one (binary 2 Add (number 2 48) (read (index 2 int (plain 2 pointer 0) (plain 2 (integer_kind Long) 3))))))

statement_3 : Statement
statement_3 = expression_statement
    (library 2 int Putchar (one (binary 2 Add (number 2 48) (read (index_of 2 int (number 2 1) (plain 2 pointer 0))))))

statement_4 : Statement
statement_4 = expression_statement
    (library 2 int Putchar
    (one (binary 2 Add (number 2 48)
    (read (deref 2 int (parenthesized
    (offset 2 PointerPlusIndex 4 (plain 2 pointer 1) (plain 2 (integer_kind UnsignedChar) 4))))))))

statement_5 : Statement
statement_5 = expression_statement
    (library 3 int Putchar
    (one (binary 3 Add (number 3 48) (read (deref 3 int (step_plain 3 pointer (Forward 4) Postfix 0))))))

statement_6 : Statement
statement_6 = expression_statement
    (library 3 int Putchar
    (one (binary 3 Add (number 3 48) (read (deref 3 int (step_plain 3 pointer (Forward 4) Prefix 0))))))

statement_7 : Statement
statement_7 = expression_statement
    (library 3 int Putchar
    (one (binary 3 Add (number 3 48) (read (deref 3 int (step_plain 3 pointer (Back 4) Postfix 0))))))

statement_8 : Statement
statement_8 = expression_statement
    (library 3 int Putchar
    (one (binary 3 Add (number 3 48) (read (deref 3 int (step_plain 3 pointer (Back 4) Prefix 0))))))

program : Program
program = main_alone
    (one (static_object (Array 20) (five
    (part 0 (content (number 1 1)))
    (part 4 (content (number 1 2)))
    (part 8 (content (number 1 3)))
    (part 12 (content (number 1 4)))
    (part 16 (content (number 1 5))))))
    (five (plain_variable pointer) (plain_variable pointer)
    (plain_variable (integer_kind Char))
    (plain_variable (integer_kind Long))
    (plain_variable (integer_kind UnsignedChar)))
    448
    (declaration (one (with_value 0
    (offset 1 PointerPlusIndex 4 (decay (lvalue 1 (Array 20) (tree.static 0))) (number 1 2)))) ∷
    declaration (one (with_value 1
    (offset 1 IndexPlusPointer 4 (number 1 2) (decay (lvalue 1 (Array 20) (tree.static 0)))))) ∷
    declaration (one (with_value 2 (convert (integer_kind Char) (number 1 1)))) ∷
    declaration (one (with_value 3 (convert (integer_kind Long) (unary 1 Negate (number 1 1))))) ∷
    declaration (one (with_value 4 (convert (integer_kind UnsignedChar) (number 1 1)))) ∷
    expression_statement (library 2 int Putchar
    (one (binary 2 Add (number 2 48) (read (deref 2 int (plain 2 pointer 0)))))) ∷
    statement_1 ∷
    statement_2 ∷
    statement_3 ∷
    statement_4 ∷
    expression_statement (change_plain 2 pointer (Forward 4) 0 (number 2 2)) ∷
    expression_statement (library 2 int Putchar
    (one (binary 2 Add (number 2 48) (read (deref 2 int (plain 2 pointer 0)))))) ∷
    expression_statement (change_plain 2 pointer (Back 4) 0 (number 2 3)) ∷
    expression_statement (library 2 int Putchar
    (one (binary 2 Add (number 2 48) (read (deref 2 int (plain 2 pointer 0)))))) ∷
    expression_statement (change_plain 2 pointer (Forward 4) 0 (unary 2 Negate (number 2 1))) ∷
    expression_statement (library 2 int Putchar
    (one (binary 2 Add (number 2 48) (read (deref 2 int (plain 2 pointer 0)))))) ∷
    statement_5 ∷
    statement_6 ∷
    statement_7 ∷
    statement_8 ∷
    return (Some (number 3 0)) ∷ [])

run : seen (meaning program default_sizes [] 20) ≡ exited (codes "322445211331") 0
unfolding program statement_1 statement_2 statement_3 statement_4 statement_5 statement_6 statement_7
    statement_8 computing
run = refl

valid : is_valid_program program ≡ true
unfolding program statement_1 statement_2 statement_3 statement_4 statement_5 statement_6 statement_7
    statement_8 computing
valid = refl
