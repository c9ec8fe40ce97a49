-- ++ and -- of objects, by name and through pointers. The text is rows/step_objects.c; gcc 12.2.0 gives the same output
-- and status.
--     int a[2];int main(void){short s=32767;short*q=&s;int*p=a;a[0]=3;putchar(48+a[0]++);putchar(48+
-- ++a[0]);putchar(48+(*p)--);putchar(48+
-- --*p);*p++=7;(*p)++;putchar(48+a[0]);putchar(48+a[1]);putchar(48+(p-a));++*q;return s==-32768;}
use Rattle.c_tree.specs.Programs.{Program}
use Rattle.c_tree.specs.Statements.{Statement, expression_statement, declaration, return}
use Rattle.c_tree.specs.Tree as tree
use Rattle.c_tree.specs.ValidProgram.{is_valid_program}
use Rattle.c_tree.specs.declared.expression.Fixity.TheVariants.{Postfix, Prefix}
use Rattle.c_tree.specs.declared.expression.Kind.TheVariants.{Array}
use Rattle.c_tree.specs.declared.expression.Routine.TheVariants.{Putchar}
use Rattle.c_tree.specs.declared.expression.Update.TheVariants.{Arithmetic, Forward}
use Rattle.obj_memory.specs.declared.int_type.IntType.TheVariants.{Int, Long, Short}
use Rattle.obj_memory.specs.declared.operator.BinaryOperator.TheVariants.{Add, Equal, Subtract}
use Rattle.obj_memory.specs.declared.operator.UnaryOperator.TheVariants.{Negate}
use Rattle.sb_base.specs.Budgets.{default_sizes}
use Rattle.source_meaning.specs.Meaning.{meaning}
use Rattle.source_meaning_rows.proofs.Samples.{address, assign, binary, compare, computing, content, convert, decay}
use Rattle.source_meaning_rows.proofs.Samples.{deref, difference, exited, index, int, integer_kind, library, lvalue}
use Rattle.source_meaning_rows.proofs.Samples.{main_alone, none, number, object_variable, one, parenthesized}
use Rattle.source_meaning_rows.proofs.Samples.{parenthesized_lvalue, part, plain, plain_variable, pointer, read, seen}
use Rattle.source_meaning_rows.proofs.Samples.{static_object, step, step_plain, three, unary, with_parts, with_value}
use Rattle.std.proofs.Common.{Some, [], refl, true, ◌∷◌, ◌≡◌}
use Rattle.std.specs.Prelude.{codes}

statement_1 : Statement
statement_1 = expression_statement
    (library 1 int Putchar
    (one (binary 1 Add (number 1 48)
    (step 1 (Arithmetic Add Int) Postfix (index 1 int (decay (lvalue 1 (Array 8) (tree.static 0))) (number 1 0))))))

statement_2 : Statement
statement_2 = expression_statement
    (library 1 int Putchar
    (one (binary 1 Add (number 1 48)
    (step 1 (Arithmetic Add Int) Prefix (index 1 int (decay (lvalue 1 (Array 8) (tree.static 0))) (number 1 0))))))

statement_3 : Statement
statement_3 = expression_statement
    (library 1 int Putchar
    (one (binary 1 Add (number 1 48)
    (step 1 (Arithmetic Subtract Int) Postfix (parenthesized_lvalue (deref 1 int (plain 1 pointer 2)))))))

statement_4 : Statement
statement_4 = expression_statement
    (library 1 int Putchar
    (one (binary 1 Add (number 1 48) (step 1 (Arithmetic Subtract Int) Prefix (deref 1 int (plain 1 pointer 2))))))

statement_5 : Statement
statement_5 = expression_statement
    (library 1 int Putchar
    (one (binary 1 Add (number 1 48) (read (index 1 int (decay (lvalue 1 (Array 8) (tree.static 0))) (number 1 0))))))

statement_6 : Statement
statement_6 = expression_statement
    (library 1 int Putchar
    (one (binary 1 Add (number 1 48) (read (index 1 int (decay (lvalue 1 (Array 8) (tree.static 0))) (number 1 1))))))

statement_7 : Statement
statement_7 = expression_statement (library 1 int Putchar (one (convert int (binary 1 Add
    (convert (integer_kind Long) (number 1 48))
    (parenthesized (difference 1 4 (plain 1 pointer 2) (decay (lvalue 1 (Array 8) (tree.static 0)))))))))

statement_8 : Statement
statement_8 = return (Some
    (compare 1 Equal (convert int (read (lvalue 1 (integer_kind Short) (tree.automatic 0))))
    (unary 1 Negate (number 1 32768))))

program : Program
program = main_alone
    (one (static_object (Array 8) none))
    (three (object_variable (integer_kind Short)) (plain_variable pointer) (plain_variable pointer))
    368
    (declaration (one (with_parts 0 (one (part 0 (content (convert (integer_kind Short) (number 1 32767))))))) ∷
    declaration (one (with_value 1 (address 1 (lvalue 1 (integer_kind Short) (tree.automatic 0))))) ∷
    declaration (one (with_value 2 (decay (lvalue 1 (Array 8) (tree.static 0))))) ∷
    expression_statement (assign 1 (index 1 int (decay (lvalue 1 (Array 8) (tree.static 0))) (number 1 0))
    (number 1 3)) ∷
    statement_1 ∷
    statement_2 ∷
    statement_3 ∷
    statement_4 ∷
    expression_statement (assign 1 (deref 1 int (step_plain 1 pointer (Forward 4) Postfix 2)) (number 1 7)) ∷
    expression_statement (step 1 (Arithmetic Add Int) Postfix
    (parenthesized_lvalue (deref 1 int (plain 1 pointer 2)))) ∷
    statement_5 ∷
    statement_6 ∷
    statement_7 ∷
    expression_statement (step 1 (Arithmetic Add Int) Prefix (deref 1 (integer_kind Short) (plain 1 pointer 1))) ∷
    statement_8 ∷ [])

run : seen (meaning program default_sizes [] 20) ≡ exited (codes "3553711") 1
unfolding program statement_1 statement_2 statement_3 statement_4 statement_5 statement_6 statement_7
    statement_8 computing
run = refl

valid : is_valid_program program ≡ true
unfolding program statement_1 statement_2 statement_3 statement_4 statement_5 statement_6 statement_7
    statement_8 computing
valid = refl
