-- The text is rows/union_members.c.
--     union u{long l;int i[2];char c;}v;int
-- main(void){char*p=&v.c;v.l=258;putchar(48+*p);putchar(48+v.i[0]-256);p[1]=1;return 0;}
use Rattle.c_tree.specs.Programs.{Program}
use Rattle.c_tree.specs.Statements.{Statement, expression_statement, declaration, return}
use Rattle.c_tree.specs.Tree as tree
use Rattle.c_tree.specs.ValidProgram.{is_valid_program}
use Rattle.c_tree.specs.declared.expression.Kind.TheVariants.{Array, Structure}
use Rattle.c_tree.specs.declared.expression.Routine.TheVariants.{Putchar}
use Rattle.obj_memory.specs.declared.int_type.IntType.TheVariants.{Char, Long}
use Rattle.obj_memory.specs.declared.operator.BinaryOperator.TheVariants.{Add, Subtract}
use Rattle.sb_base.specs.Budgets.{default_sizes}
use Rattle.source_meaning.specs.Meaning.{meaning}
use Rattle.source_meaning_rows.proofs.Samples.{address, assign, binary, computing, convert, decay, deref, index, int}
use Rattle.source_meaning_rows.proofs.Samples.{integer_kind, library, lvalue, main_alone, member, none, number, one}
use Rattle.source_meaning_rows.proofs.Samples.{plain, plain_variable, pointer, read, seen, six, static_object, stopped}
use Rattle.source_meaning_rows.proofs.Samples.{with_value}
use Rattle.std.proofs.Common.{Some, [], refl, true, ◌≡◌}
use Rattle.std.specs.Prelude.{codes}

statement_1 : Statement
statement_1 = expression_statement
    (assign 1 (member 1 (integer_kind Long) 0 (lvalue 1 (Structure 8) (tree.static 0)))
    (convert (integer_kind Long) (number 1 258)))

statement_2 : Statement
statement_2 = expression_statement
    (library 1 int Putchar
    (one (binary 1 Add (number 1 48) (convert int (read (deref 1 (integer_kind Char) (plain 1 pointer 0)))))))

statement_3 : Statement
statement_3 = expression_statement (library 1 int Putchar (one (binary 1 Subtract
    (binary 1 Add (number 1 48)
    (read (index 1 int (decay (member 1 (Array 8) 0 (lvalue 1 (Structure 8) (tree.static 0)))) (number 1 0))))
    (number 1 256))))

statement_4 : Statement
statement_4 = expression_statement
    (assign 1 (index 1 (integer_kind Char) (plain 1 pointer 0) (number 1 1)) (convert (integer_kind Char) (number 1 1)))

program : Program
program = main_alone
    (one (static_object (Structure 8) none))
    (one (plain_variable pointer))
    288
    (six
    (declaration (one (with_value 0
    (address 1 (member 1 (integer_kind Char) 0 (lvalue 1 (Structure 8) (tree.static 0)))))))
    statement_1
    statement_2
    statement_3
    statement_4
    (return (Some (number 1 0))))

run : seen (meaning program default_sizes [] 20)
    ≡ stopped (codes "22") (codes "sbcets: spatial violation at line 1\n") 120
unfolding program statement_1 statement_2 statement_3 statement_4 computing
run = refl

valid : is_valid_program program ≡ true
unfolding program statement_1 statement_2 statement_3 statement_4 computing
valid = refl
