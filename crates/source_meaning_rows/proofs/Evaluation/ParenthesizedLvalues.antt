-- The text is rows/parenthesized_lvalues.c; gcc 12.2.0 gives the same output and status.
--     struct s{int m[2];}x;int a[2];int main(void){int
-- i;int*p;(i)=1;(a)[(i)]=2;(x).m[0]=3;(x.m)[1]=4;p=&(i);(*p)++;(i)+=1;putchar(48+i);p=&(a)[0];return
-- (p)[1]+*(&x.m[1])*10+(x.m[0]);}
use Rattle.c_tree.specs.Programs.{Program}
use Rattle.c_tree.specs.Statements.{Statement, expression_statement, return, declaration}
use Rattle.c_tree.specs.Tree as tree
use Rattle.c_tree.specs.ValidProgram.{is_valid_program}
use Rattle.c_tree.specs.declared.expression.Fixity.TheVariants.{Postfix}
use Rattle.c_tree.specs.declared.expression.Kind.TheVariants.{Array, Structure}
use Rattle.c_tree.specs.declared.expression.Routine.TheVariants.{Putchar}
use Rattle.c_tree.specs.declared.expression.Update.TheVariants.{Arithmetic}
use Rattle.obj_memory.specs.declared.int_type.IntType.TheVariants.{Int}
use Rattle.obj_memory.specs.declared.operator.BinaryOperator.TheVariants.{Add, Multiply}
use Rattle.sb_base.specs.Budgets.{default_sizes}
use Rattle.source_meaning.specs.Meaning.{meaning}
use Rattle.source_meaning_rows.proofs.Samples.{address, assign, binary, compound, computing, decay, deref, exited}
use Rattle.source_meaning_rows.proofs.Samples.{index, int, library, lvalue, main_alone, member, none, number}
use Rattle.source_meaning_rows.proofs.Samples.{object_variable, one, parenthesized, parenthesized_lvalue, plain}
use Rattle.source_meaning_rows.proofs.Samples.{plain_variable, pointer, read, seen, set_plain, static_object, step, two}
use Rattle.source_meaning_rows.proofs.Samples.{without_value}
use Rattle.std.proofs.Common.{Some, [], refl, true, ◌∷◌, ◌≡◌}
use Rattle.std.specs.Prelude.{codes}

statement_1 : Statement
statement_1 = expression_statement (assign 1
    (index 1 int
    (decay (parenthesized_lvalue (lvalue 1 (Array 8) (tree.static 1))))
    (read (parenthesized_lvalue (lvalue 1 int (tree.automatic 0)))))
    (number 1 2))

statement_2 : Statement
statement_2 = expression_statement (assign 1
    (index 1 int (decay (member 1 (Array 8) 0 (parenthesized_lvalue (lvalue 1 (Structure 8) (tree.static 0)))))
    (number 1 0))
    (number 1 3))

statement_3 : Statement
statement_3 = expression_statement (assign 1
    (index 1 int (decay (parenthesized_lvalue (member 1 (Array 8) 0 (lvalue 1 (Structure 8) (tree.static 0)))))
    (number 1 1))
    (number 1 4))

statement_4 : Statement
statement_4 = expression_statement
    (compound 1 (Arithmetic Add Int) (parenthesized_lvalue (parenthesized_lvalue (lvalue 1 int (tree.automatic 0))))
    (number 1 1))

statement_5 : Statement
statement_5 = expression_statement
    (set_plain 1 1 (address 1
    (index 1 int (decay (parenthesized_lvalue (lvalue 1 (Array 8) (tree.static 1)))) (number 1 0))))

statement_6 : Statement
statement_6 = return (Some (binary 1 Add
    (binary 1 Add
    (read (index 1 int (parenthesized (plain 1 pointer 1)) (number 1 1)))
    (binary 1 Multiply
    (read (deref 1 int (parenthesized
    (address 1 (index 1 int (decay (member 1 (Array 8) 0 (lvalue 1 (Structure 8) (tree.static 0))))
    (number 1 1))))))
    (number 1 10)))
    (read (parenthesized_lvalue
    (index 1 int (decay (member 1 (Array 8) 0 (lvalue 1 (Structure 8) (tree.static 0)))) (number 1 0))))))

program : Program
program = main_alone
    (two (static_object (Structure 8) none) (static_object (Array 8) none))
    (two (object_variable int) (plain_variable pointer))
    328
    ((declaration (without_value 0 ∷ without_value 1 ∷ []))
    ∷ (expression_statement (assign 1 (parenthesized_lvalue (lvalue 1 int (tree.automatic 0))) (number 1 1)))
    ∷ statement_1
    ∷ statement_2
    ∷ statement_3
    ∷ (expression_statement (set_plain 1 1 (address 1 (parenthesized_lvalue (lvalue 1 int (tree.automatic 0))))))
    ∷ (expression_statement
    (step 1 (Arithmetic Add Int) Postfix (parenthesized_lvalue (deref 1 int (plain 1 pointer 1)))))
    ∷ statement_4
    ∷ (expression_statement
    (library 1 int Putchar (one (binary 1 Add (number 1 48) (read (lvalue 1 int (tree.automatic 0)))))))
    ∷ statement_5
    ∷ statement_6
    ∷ [])

run : seen (meaning program default_sizes [] 20) ≡ exited (codes "3") 45
unfolding program statement_1 statement_2 statement_3 statement_4 statement_5 statement_6 computing
run = refl

valid : is_valid_program program ≡ true
unfolding program statement_1 statement_2 statement_3 statement_4 statement_5 statement_6 computing
valid = refl
