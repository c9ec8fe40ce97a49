-- `int x=1;int main(void){int**p=malloc(8);*p=&x;putchar(48+**p);free(p);p=malloc(8);return **p;}`
-- The bytes of a new block are zero and its words have no tags, though another block was there before. The text is
-- rows/blocks_are_cleared.c.
use Rattle.c_tree.specs.Programs.{Program}
use Rattle.c_tree.specs.Statements.{Statement, expression_statement, declaration, return}
use Rattle.c_tree.specs.Tree as tree
use Rattle.c_tree.specs.ValidProgram.{is_valid_program}
use Rattle.c_tree.specs.declared.expression.Kind.TheVariants.{Void}
use Rattle.c_tree.specs.declared.expression.Routine.TheVariants.{Free, Malloc, Putchar}
use Rattle.obj_memory.specs.declared.int_type.IntType.TheVariants.{UnsignedLong}
use Rattle.obj_memory.specs.declared.operator.BinaryOperator.TheVariants.{Add}
use Rattle.sb_base.specs.Budgets.{default_sizes}
use Rattle.source_meaning.specs.Meaning.{meaning}
use Rattle.source_meaning_rows.proofs.Samples.{address, assign, binary, computing, content, convert, deref, int}
use Rattle.source_meaning_rows.proofs.Samples.{integer_kind, library, lvalue, main_alone, number, one, part, plain}
use Rattle.source_meaning_rows.proofs.Samples.{plain_variable, pointer, read, seen, set_plain, six, static_object}
use Rattle.source_meaning_rows.proofs.Samples.{stopped, with_value}
use Rattle.std.proofs.Common.{Some, [], refl, true, ◌≡◌}
use Rattle.std.specs.Prelude.{codes}

statement_1 : Statement
statement_1 = expression_statement
    (library 1 int Putchar
    (one (binary 1 Add (number 1 48) (read (deref 1 int (read (deref 1 pointer (plain 1 pointer 0))))))))

program : Program
program = main_alone
    (one (static_object int (one (part 0 (content (number 1 1))))))
    (one (plain_variable pointer))
    248
    (six
    (declaration (one (with_value 0
    (library 1 pointer Malloc (one (convert (integer_kind UnsignedLong) (number 1 8)))))))
    (expression_statement (assign 1 (deref 1 pointer (plain 1 pointer 0)) (address 1 (lvalue 1 int (tree.static 0)))))
    statement_1
    (expression_statement (library 1 Void Free (one (plain 1 pointer 0))))
    (expression_statement
    (set_plain 1 0 (library 1 pointer Malloc (one (convert (integer_kind UnsignedLong) (number 1 8))))))
    (return (Some (read (deref 1 int (read (deref 1 pointer (plain 1 pointer 0))))))))

run : seen (meaning program default_sizes [] 20)
    ≡ stopped (codes "1") (codes "sbcets: spatial violation at line 1\n") 120
unfolding program statement_1 computing
run = refl

valid : is_valid_program program ≡ true
unfolding program statement_1 computing
valid = refl
