-- Every byte of an access lies in the range. Misaligned accesses are allowed. The text is rows/wide_at_the_end.c.
--     char a[6];int main(void){int*p=(int*)(a+2);*p=258;putchar(48+a[2]);putchar(48+a[3]);p=(int*)(a+3);
--     return *p;}
use Rattle.c_tree.specs.Programs.{Program}
use Rattle.c_tree.specs.Statements.{Statement, expression_statement, declaration, return}
use Rattle.c_tree.specs.Tree as tree
use Rattle.c_tree.specs.ValidProgram.{is_valid_program}
use Rattle.c_tree.specs.declared.expression.Kind.TheVariants.{Array}
use Rattle.c_tree.specs.declared.expression.OffsetForm.TheVariants.{PointerPlusIndex}
use Rattle.c_tree.specs.declared.expression.Routine.TheVariants.{Putchar}
use Rattle.obj_memory.specs.declared.int_type.IntType.TheVariants.{Char}
use Rattle.obj_memory.specs.declared.operator.BinaryOperator.TheVariants.{Add}
use Rattle.sb_base.specs.Budgets.{default_sizes}
use Rattle.source_meaning.specs.Meaning.{meaning}
use Rattle.source_meaning_rows.proofs.Samples.{assign, binary, cast, computing, convert, decay, deref, index, int}
use Rattle.source_meaning_rows.proofs.Samples.{integer_kind, library, lvalue, main_alone, none, number, offset, one}
use Rattle.source_meaning_rows.proofs.Samples.{parenthesized, plain, plain_variable, pointer, read, seen, set_plain}
use Rattle.source_meaning_rows.proofs.Samples.{six, static_object, stopped, with_value}
use Rattle.std.proofs.Common.{Some, [], refl, true, ◌≡◌}
use Rattle.std.specs.Prelude.{codes}

statement_1 : Statement
statement_1 = declaration
    (one (with_value 0 (cast 1 pointer
    (parenthesized (offset 1 PointerPlusIndex 1 (decay (lvalue 1 (Array 6) (tree.static 0))) (number 1 2))))))

statement_2 : Statement
statement_2 = expression_statement
    (library 1 int Putchar
    (one (binary 1 Add (number 1 48)
    (convert int (read (index 1 (integer_kind Char) (decay (lvalue 1 (Array 6) (tree.static 0))) (number 1 2)))))))

statement_3 : Statement
statement_3 = expression_statement
    (library 1 int Putchar
    (one (binary 1 Add (number 1 48)
    (convert int (read (index 1 (integer_kind Char) (decay (lvalue 1 (Array 6) (tree.static 0))) (number 1 3)))))))

statement_4 : Statement
statement_4 = expression_statement
    (set_plain 1 0 (cast 1 pointer
    (parenthesized (offset 1 PointerPlusIndex 1 (decay (lvalue 1 (Array 6) (tree.static 0))) (number 1 3)))))

program : Program
program = main_alone
    (one (static_object (Array 6) none))
    (one (plain_variable pointer))
    288
    (six statement_1
    (expression_statement (assign 1 (deref 1 int (plain 1 pointer 0)) (number 1 258)))
    statement_2
    statement_3
    statement_4
    (return (Some (read (deref 2 int (plain 2 pointer 0))))))

run : seen (meaning program default_sizes [] 20)
    ≡ stopped (codes "21") (codes "sbcets: spatial violation at line 2\n") 120
unfolding program statement_1 statement_2 statement_3 statement_4 computing
run = refl

valid : is_valid_program program ≡ true
unfolding program statement_1 statement_2 statement_3 statement_4 computing
valid = refl
