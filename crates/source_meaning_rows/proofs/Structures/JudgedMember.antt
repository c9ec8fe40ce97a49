-- A member through a pointer is judged for its own bytes. The text is rows/judged_member.c.
--     struct s{int a;int b;};int x[3];int main(void){struct s*p=(struct s*)(x+2);(*p).a=1;putchar(48+x[2]);
--     (*p).b
--     =2;return 0;}
use Rattle.c_tree.specs.Programs.{Program}
use Rattle.c_tree.specs.Statements.{Statement, expression_statement, declaration, return}
use Rattle.c_tree.specs.Tree as tree
use Rattle.c_tree.specs.ValidProgram.{is_valid_program}
use Rattle.c_tree.specs.declared.expression.Kind.TheVariants.{Array, Structure}
use Rattle.c_tree.specs.declared.expression.OffsetForm.TheVariants.{PointerPlusIndex}
use Rattle.c_tree.specs.declared.expression.Routine.TheVariants.{Putchar}
use Rattle.obj_memory.specs.declared.operator.BinaryOperator.TheVariants.{Add}
use Rattle.sb_base.specs.Budgets.{default_sizes}
use Rattle.source_meaning.specs.Meaning.{meaning}
use Rattle.source_meaning_rows.proofs.Samples.{assign, binary, cast, computing, decay, deref, five, index, int, library}
use Rattle.source_meaning_rows.proofs.Samples.{lvalue, main_alone, member, none, number, offset, one, parenthesized}
use Rattle.source_meaning_rows.proofs.Samples.{parenthesized_lvalue, plain, plain_variable, pointer, read, seen}
use Rattle.source_meaning_rows.proofs.Samples.{static_object, stopped, with_value}
use Rattle.std.proofs.Common.{Some, [], refl, true, ◌≡◌}
use Rattle.std.specs.Prelude.{codes}

statement_1 : Statement
statement_1 = declaration
    (one (with_value 0 (cast 1 pointer
    (parenthesized (offset 1 PointerPlusIndex 4 (decay (lvalue 1 (Array 12) (tree.static 0))) (number 1 2))))))

statement_2 : Statement
statement_2 = expression_statement
    (assign 1 (member 1 int 0 (parenthesized_lvalue (deref 1 (Structure 8) (plain 1 pointer 0)))) (number 1 1))

statement_3 : Statement
statement_3 = expression_statement
    (library 1 int Putchar
    (one (binary 1 Add (number 1 48) (read (index 1 int (decay (lvalue 1 (Array 12) (tree.static 0))) (number 1 2))))))

statement_4 : Statement
statement_4 = expression_statement
    (assign 3 (member 2 int 4 (parenthesized_lvalue (deref 2 (Structure 8) (plain 2 pointer 0)))) (number 3 2))

program : Program
program = main_alone
    (one (static_object (Array 12) none))
    (one (plain_variable pointer))
    288
    (five statement_1 statement_2 statement_3 statement_4 (return (Some (number 3 0))))

run : seen (meaning program default_sizes [] 20)
    ≡ stopped (codes "1") (codes "sbcets: spatial violation at line 2\n") 120
unfolding program statement_1 statement_2 statement_3 statement_4 computing
run = refl

valid : is_valid_program program ≡ true
unfolding program statement_1 statement_2 statement_3 statement_4 computing
valid = refl
