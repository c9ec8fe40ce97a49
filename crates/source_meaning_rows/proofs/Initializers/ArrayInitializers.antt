-- Designators, parts left out, and strings. The text is rows/array_initializers.c; gcc 12.2.0 gives the same output and
-- status.
--     int a[6]={[2]=3,4,[0]=1};char s[4]="abc";char t[]="xy";char u[3]={"pqr"};int m[2][3]={{1},{4,5}};int
-- n[2][2]={1,2,3};
--     int main(void){int b[4]={[1]=a[2],a[3]};char v[5]="hi";char w[2][3]={"no",{'u'}};int i;
--     for(i=0;i<6;i++)putchar(48+a[i]);for(i=0;i<4;i++)putchar(48+b[i]);
--     for(i=0;i<6;i++)putchar(48+m[i/3][i%3]);for(i=0;i<4;i++)putchar(48+n[i/2][i%2]);
--     for(i=0;i<3;i++){putchar(s[i]);putchar(u[i]);}
--     putchar(w[0][0]);putchar(w[0][1]);putchar(48+w[0][2]);putchar(w[1][0]);putchar(48+w[1][1]);
--     putchar(v[1]);putchar(48+v[2]+v[4]);return sizeof t+t[0]+s[3];}
use Rattle.c_tree.specs.Programs.{Program, Function}
use Rattle.c_tree.specs.Statements.{Statement, expression_statement, declaration, for, return, first_expression}
use Rattle.c_tree.specs.Statements.{literal_content}
use Rattle.c_tree.specs.Tree as tree
use Rattle.c_tree.specs.ValidProgram.{is_valid_program}
use Rattle.c_tree.specs.declared.expression.Fixity.TheVariants.{Postfix}
use Rattle.c_tree.specs.declared.expression.Kind.TheVariants.{Array}
use Rattle.c_tree.specs.declared.expression.Routine.TheVariants.{Putchar}
use Rattle.c_tree.specs.declared.expression.Update.TheVariants.{Arithmetic}
use Rattle.obj_memory.specs.declared.int_type.IntType.TheVariants.{Char, Int, UnsignedLong}
use Rattle.obj_memory.specs.declared.operator.BinaryOperator.TheVariants.{Add, Divide, Less, Remainder}
use Rattle.sb_base.specs.Budgets.{default_sizes}
use Rattle.source_meaning.specs.Meaning.{meaning}
use Rattle.source_meaning_rows.proofs.Samples.{binary, block_of, compare, computing, constant, content, convert, decay}
use Rattle.source_meaning_rows.proofs.Samples.{defined, exited, four, index, int, integer_kind, library, lvalue}
use Rattle.source_meaning_rows.proofs.Samples.{main_type, none, number, object_variable, one, part, plain}
use Rattle.source_meaning_rows.proofs.Samples.{plain_variable, program_of, read, seen, set_plain, six, static_object}
use Rattle.source_meaning_rows.proofs.Samples.{step_plain, three, two, with_parts, without_value}
use Rattle.std.proofs.Common.{Some, [], refl, true, ◌++◌, ◌∷◌, ◌≡◌}
use Rattle.std.specs.Prelude.{codes}

statement_1 : Statement
statement_1 = declaration (one (with_parts 0 (two
    (part 4 (content (read (index 2 int (decay (lvalue 2 (Array 24) (tree.static 0))) (number 2 2)))))
    (part 8 (content (read (index 2 int (decay (lvalue 2 (Array 24) (tree.static 0))) (number 2 3))))))))

statement_2 : Statement
statement_2 = declaration (one (with_parts 2 (two
    (part 0 (literal_content (codes "no" ++ 0 ∷ [])))
    (part 3 (content (convert (integer_kind Char) (number 2 117)))))))

statement_3 : Statement
statement_3 = expression_statement
    (library 3 int Putchar
    (one (binary 3 Add (number 3 48)
    (read (index 3 int (decay (lvalue 3 (Array 24) (tree.static 0))) (plain 3 int 3))))))

statement_4 : Statement
statement_4 = for 3
    (first_expression (set_plain 3 3 (number 3 0)))
    (Some (compare 3 Less (plain 3 int 3) (number 3 6)))
    (Some (step_plain 3 int (Arithmetic Add Int) Postfix 3))
    (statement_3)

statement_5 : Statement
statement_5 = expression_statement
    (library 3 int Putchar
    (one (binary 3 Add (number 3 48)
    (read (index 3 int (decay (lvalue 3 (Array 16) (tree.automatic 0))) (plain 3 int 3))))))

statement_6 : Statement
statement_6 = for 3
    (first_expression (set_plain 3 3 (number 3 0)))
    (Some (compare 3 Less (plain 3 int 3) (number 3 4)))
    (Some (step_plain 3 int (Arithmetic Add Int) Postfix 3))
    (statement_5)

statement_7 : Statement
statement_7 = expression_statement (library 4 int Putchar (one (binary 4 Add (number 4 48) (read (index 4 int
    (decay (index 4 (Array 12) (decay (lvalue 4 (Array 24) (tree.static 4)))
    (binary 4 Divide (plain 4 int 3) (number 4 3))))
    (binary 4 Remainder (plain 4 int 3) (number 4 3)))))))

statement_8 : Statement
statement_8 = for 4
    (first_expression (set_plain 4 3 (number 4 0)))
    (Some (compare 4 Less (plain 4 int 3) (number 4 6)))
    (Some (step_plain 4 int (Arithmetic Add Int) Postfix 3))
    (statement_7)

statement_9 : Statement
statement_9 = expression_statement (library 4 int Putchar (one (binary 4 Add (number 4 48) (read (index 4 int
    (decay (index 4 (Array 8) (decay (lvalue 4 (Array 16) (tree.static 5)))
    (binary 4 Divide (plain 4 int 3) (number 4 2))))
    (binary 4 Remainder (plain 4 int 3) (number 4 2)))))))

statement_10 : Statement
statement_10 = for 4
    (first_expression (set_plain 4 3 (number 4 0)))
    (Some (compare 4 Less (plain 4 int 3) (number 4 4)))
    (Some (step_plain 4 int (Arithmetic Add Int) Postfix 3))
    (statement_9)

statement_11 : Statement
statement_11 = expression_statement
    (library 5 int Putchar
    (one (convert int (read
    (index 5 (integer_kind Char) (decay (lvalue 5 (Array 4) (tree.static 1))) (plain 5 int 3))))))

statement_12 : Statement
statement_12 = expression_statement
    (library 5 int Putchar
    (one (convert int (read
    (index 5 (integer_kind Char) (decay (lvalue 5 (Array 3) (tree.static 3))) (plain 5 int 3))))))

statement_13 : Statement
statement_13 = for 5
    (first_expression (set_plain 5 3 (number 5 0)))
    (Some (compare 5 Less (plain 5 int 3) (number 5 3)))
    (Some (step_plain 5 int (Arithmetic Add Int) Postfix 3))
    ((block_of 1 (two statement_11 statement_12)))

statement_14 : Statement
statement_14 = expression_statement
    (library 6 int Putchar
    (one (convert int (read
    (index 6 (integer_kind Char)
    (decay (index 6 (Array 3) (decay (lvalue 6 (Array 6) (tree.automatic 2))) (number 6 0))) (number 6 0))))))

statement_15 : Statement
statement_15 = expression_statement
    (library 6 int Putchar
    (one (convert int (read
    (index 6 (integer_kind Char)
    (decay (index 6 (Array 3) (decay (lvalue 6 (Array 6) (tree.automatic 2))) (number 6 0))) (number 6 1))))))

statement_16 : Statement
statement_16 = expression_statement
    (library 6 int Putchar (one (binary 6 Add (number 6 48) (convert int (read (index 6 (integer_kind Char)
    (decay (index 6 (Array 3) (decay (lvalue 6 (Array 6) (tree.automatic 2))) (number 6 0)))
    (number 6 2)))))))

statement_17 : Statement
statement_17 = expression_statement
    (library 6 int Putchar
    (one (convert int (read
    (index 6 (integer_kind Char)
    (decay (index 6 (Array 3) (decay (lvalue 6 (Array 6) (tree.automatic 2))) (number 6 1))) (number 6 0))))))

statement_18 : Statement
statement_18 = expression_statement
    (library 6 int Putchar (one (binary 6 Add (number 6 48) (convert int (read (index 6 (integer_kind Char)
    (decay (index 6 (Array 3) (decay (lvalue 6 (Array 6) (tree.automatic 2))) (number 6 1)))
    (number 6 1)))))))

statement_19 : Statement
statement_19 = expression_statement
    (library 7 int Putchar
    (one (convert int (read
    (index 7 (integer_kind Char) (decay (lvalue 7 (Array 5) (tree.automatic 1))) (number 7 1))))))

statement_20 : Statement
statement_20 = expression_statement (library 7 int Putchar (one (binary 7 Add
    (binary 7 Add (number 7 48)
    (convert int (read (index 7 (integer_kind Char) (decay (lvalue 7 (Array 5) (tree.automatic 1))) (number 7 2)))))
    (convert int (read (index 7 (integer_kind Char) (decay (lvalue 7 (Array 5) (tree.automatic 1))) (number 7 4)))))))

statement_21 : Statement
statement_21 = return (Some (convert int (binary 7 Add
    (binary 7 Add
    (constant UnsignedLong 7 3)
    (convert
    (integer_kind UnsignedLong)
    (read (index 7 (integer_kind Char) (decay (lvalue 7 (Array 3) (tree.static 2))) (number 7 0)))))
    (convert
    (integer_kind UnsignedLong)
    (read (index 7 (integer_kind Char) (decay (lvalue 7 (Array 4) (tree.static 1))) (number 7 3)))))))

function_main : Function
function_main = defined 2 0 none
    (four (object_variable (Array 16)) (object_variable (Array 5)) (object_variable (Array 6)) (plain_variable int))
    448
    (statement_1
    ∷ (declaration (one (with_parts 1 (one (part 0 (literal_content (codes "hi" ++ 0 ∷ [])))))))
    ∷ statement_2
    ∷ (declaration (without_value 3 ∷ []))
    ∷ statement_4
    ∷ statement_6
    ∷ statement_8
    ∷ statement_10
    ∷ statement_13
    ∷ statement_14
    ∷ statement_15
    ∷ statement_16
    ∷ statement_17
    ∷ statement_18
    ∷ statement_19
    ∷ statement_20
    ∷ statement_21
    ∷ [])

program : Program
program = program_of
    (six
    (static_object (Array 24)
    (three (part 8 (content (number 1 3))) (part 12 (content (number 1 4))) (part 0 (content (number 1 1)))))
    (static_object (Array 4) (one (part 0 (literal_content (codes "abc" ++ 0 ∷ [])))))
    (static_object (Array 3) (one (part 0 (literal_content (codes "xy" ++ 0 ∷ [])))))
    (static_object (Array 3) (one (part 0 (literal_content (codes "pqr")))))
    (static_object (Array 24)
    (three (part 0 (content (number 1 1))) (part 12 (content (number 1 4))) (part 16 (content (number 1 5)))))
    (static_object (Array 16)
    (three (part 0 (content (number 1 1))) (part 4 (content (number 1 2))) (part 8 (content (number 1 3))))))
    (one main_type)
    (one function_main)
    0

run : seen (meaning program default_sizes [] 60) ≡ exited (codes "10340003401004501230apbqcrno0u0i0") 123
unfolding program function_main statement_1 statement_2 statement_3 statement_4 statement_5 statement_6 statement_7
    statement_8 statement_9 statement_10 statement_11 statement_12 statement_13 statement_14 statement_15 statement_16
    statement_17 statement_18 statement_19 statement_20 statement_21 computing
run = refl

valid : is_valid_program program ≡ true
unfolding program function_main statement_1 statement_2 statement_3 statement_4 statement_5 statement_6 statement_7
    statement_8 statement_9 statement_10 statement_11 statement_12 statement_13 statement_14 statement_15 statement_16
    statement_17 statement_18 statement_19 statement_20 statement_21 computing
valid = refl
