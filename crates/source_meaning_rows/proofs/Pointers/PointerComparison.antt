-- Pointers are compared as unsigned addresses. The text is rows/pointer_comparison.c; gcc 12.2.0 gives the same output
-- and status.
--     int a[4];int b[4];int main(void){int*p=a;int*q=a+3;int*n=0;char*w=(char*)n;w=w-1;
-- putchar(48+(p<q));putchar(48+(q<=p));putchar(48+(p>q));putchar(48+(q>=p));putchar(48+(p==a));putchar(48+(p!=&a[0]));
-- putchar(48+(n==0));putchar(48+!p);putchar(48+(p&&!n));putchar(48+((char*)p<w));putchar(48+(p+4<=b));
-- putchar(48+(a<b));return
-- 0;}
use Rattle.c_tree.specs.Programs.{Program}
use Rattle.c_tree.specs.Statements.{Statement, expression_statement, declaration, return}
use Rattle.c_tree.specs.Tree as tree
use Rattle.c_tree.specs.ValidProgram.{is_valid_program}
use Rattle.c_tree.specs.declared.expression.Kind.TheVariants.{Array}
use Rattle.c_tree.specs.declared.expression.OffsetForm.TheVariants.{PointerMinusIndex, PointerPlusIndex}
use Rattle.c_tree.specs.declared.expression.Routine.TheVariants.{Putchar}
use Rattle.obj_memory.specs.declared.operator.BinaryOperator.TheVariants.{Add, Equal, Greater, GreaterOrEqual, Less}
use Rattle.obj_memory.specs.declared.operator.BinaryOperator.TheVariants.{LessOrEqual, NotEqual}
use Rattle.sb_base.specs.Budgets.{default_sizes}
use Rattle.source_meaning.specs.Meaning.{meaning}
use Rattle.source_meaning_rows.proofs.Samples.{address, binary, cast, compare, computing, convert, decay, exited, four}
use Rattle.source_meaning_rows.proofs.Samples.{index, int, library, logical_and, logical_not, lvalue, main_alone, none}
use Rattle.source_meaning_rows.proofs.Samples.{number, offset, one, parenthesized, plain, plain_variable, pointer, seen}
use Rattle.source_meaning_rows.proofs.Samples.{set_plain, static_object, two, with_value}
use Rattle.std.proofs.Common.{Some, [], refl, true, ◌∷◌, ◌≡◌}
use Rattle.std.specs.Prelude.{codes}

statement_1 : Statement
statement_1 = expression_statement
    (library 2 int Putchar
    (one (binary 2 Add (number 2 48) (parenthesized (compare 2 Less (plain 2 pointer 0) (plain 2 pointer 1))))))

statement_2 : Statement
statement_2 = expression_statement
    (library 2 int Putchar
    (one (binary 2 Add (number 2 48) (parenthesized (compare 2 LessOrEqual (plain 2 pointer 1) (plain 2 pointer 0))))))

statement_3 : Statement
statement_3 = expression_statement
    (library 2 int Putchar
    (one (binary 2 Add (number 2 48) (parenthesized (compare 2 Greater (plain 2 pointer 0) (plain 2 pointer 1))))))

statement_4 : Statement
statement_4 = expression_statement
    (library 2 int Putchar
    (one (binary 2 Add (number 2 48)
    (parenthesized (compare 2 GreaterOrEqual (plain 2 pointer 1) (plain 2 pointer 0))))))

statement_5 : Statement
statement_5 = expression_statement
    (library 2 int Putchar
    (one (binary 2 Add (number 2 48)
    (parenthesized (compare 2 Equal (plain 2 pointer 0) (decay (lvalue 2 (Array 16) (tree.static 0))))))))

statement_6 : Statement
statement_6 = expression_statement
    (library 2 int Putchar
    (one (binary 2 Add (number 2 48)
    (parenthesized (compare 2 NotEqual (plain 2 pointer 0)
    (address 2 (index 2 int (decay (lvalue 2 (Array 16) (tree.static 0))) (number 2 0))))))))

statement_7 : Statement
statement_7 = expression_statement
    (library 3 int Putchar
    (one (binary 3 Add (number 3 48)
    (parenthesized (compare 3 Equal (plain 3 pointer 2) (convert pointer (number 3 0)))))))

statement_8 : Statement
statement_8 = expression_statement
    (library 3 int Putchar
    (one (binary 3 Add (number 3 48)
    (parenthesized (logical_and 3 (plain 3 pointer 0) (logical_not 3 (plain 3 pointer 2)))))))

statement_9 : Statement
statement_9 = expression_statement
    (library 3 int Putchar
    (one (binary 3 Add (number 3 48)
    (parenthesized (compare 3 Less (cast 3 pointer (plain 3 pointer 0)) (plain 3 pointer 3))))))

statement_10 : Statement
statement_10 = expression_statement
    (library 3 int Putchar (one (binary 3 Add (number 3 48) (parenthesized (compare 3 LessOrEqual
    (offset 3 PointerPlusIndex 4 (plain 3 pointer 0) (number 3 4))
    (decay (lvalue 3 (Array 16) (tree.static 1))))))))

statement_11 : Statement
statement_11 = expression_statement
    (library 3 int Putchar
    (one (binary 3 Add (number 3 48)
    (parenthesized (compare 3 Less (decay (lvalue 3 (Array 16) (tree.static 0)))
    (decay (lvalue 3 (Array 16) (tree.static 1))))))))

program : Program
program = main_alone
    (two (static_object (Array 16) none) (static_object (Array 16) none))
    (four (plain_variable pointer) (plain_variable pointer) (plain_variable pointer) (plain_variable pointer))
    448
    (declaration (one (with_value 0 (decay (lvalue 1 (Array 16) (tree.static 0))))) ∷
    declaration (one (with_value 1
    (offset 1 PointerPlusIndex 4 (decay (lvalue 1 (Array 16) (tree.static 0))) (number 1 3)))) ∷
    declaration (one (with_value 2 (convert pointer (number 1 0)))) ∷
    declaration (one (with_value 3 (cast 1 pointer (plain 1 pointer 2)))) ∷
    expression_statement (set_plain 1 3 (offset 1 PointerMinusIndex 1 (plain 1 pointer 3) (number 1 1))) ∷
    statement_1 ∷
    statement_2 ∷
    statement_3 ∷
    statement_4 ∷
    statement_5 ∷
    statement_6 ∷
    statement_7 ∷
    expression_statement (library 3 int Putchar
    (one (binary 3 Add (number 3 48) (logical_not 3 (plain 3 pointer 0))))) ∷
    statement_8 ∷
    statement_9 ∷
    statement_10 ∷
    statement_11 ∷
    return (Some (number 3 0)) ∷ [])

run : seen (meaning program default_sizes [] 20) ≡ exited (codes "100110101111") 0
unfolding program statement_1 statement_2 statement_3 statement_4 statement_5 statement_6 statement_7 statement_8
    statement_9 statement_10 statement_11 computing
run = refl

valid : is_valid_program program ≡ true
unfolding program statement_1 statement_2 statement_3 statement_4 statement_5 statement_6 statement_7 statement_8
    statement_9 statement_10 statement_11 computing
valid = refl
