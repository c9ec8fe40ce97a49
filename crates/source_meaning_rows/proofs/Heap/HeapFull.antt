-- There is no room for a second block while the first lives, and all of it afterwards. The text is rows/heap_full.c.
--     int
-- main(void){char*p=malloc(4096);char*q=malloc(1);if(q==0)putchar('N');free(p);q=malloc(4096);*q=90;putchar(*q);return
-- 0;}
use Rattle.c_tree.specs.Programs.{Program}
use Rattle.c_tree.specs.Statements.{Statement, expression_statement, declaration, if_then, return}
use Rattle.c_tree.specs.ValidProgram.{is_valid_program}
use Rattle.c_tree.specs.declared.expression.Kind.TheVariants.{Void}
use Rattle.c_tree.specs.declared.expression.Routine.TheVariants.{Free, Malloc, Putchar}
use Rattle.obj_memory.specs.declared.int_type.IntType.TheVariants.{Char, UnsignedLong}
use Rattle.obj_memory.specs.declared.operator.BinaryOperator.TheVariants.{Equal}
use Rattle.sb_base.specs.Budgets.{default_sizes}
use Rattle.source_meaning.specs.Meaning.{meaning}
use Rattle.source_meaning_rows.proofs.Samples.{assign, compare, computing, convert, deref, exited, int, integer_kind}
use Rattle.source_meaning_rows.proofs.Samples.{library, main_alone, none, number, one, plain, plain_variable, pointer}
use Rattle.source_meaning_rows.proofs.Samples.{read, seen, set_plain, two, with_value}
use Rattle.std.proofs.Common.{None, Some, [], refl, true, ◌∷◌, ◌≡◌}
use Rattle.std.specs.Prelude.{codes}

statement_1 : Statement
statement_1 = declaration
    (one (with_value 0 (library 1 pointer Malloc (one (convert (integer_kind UnsignedLong) (number 1 4096))))))

statement_2 : Statement
statement_2 = if_then
    (compare 1 Equal (plain 1 pointer 1) (convert pointer (number 1 0)))
    ((expression_statement (library 1 int Putchar (one (number 1 78)))))

statement_3 : Statement
statement_3 = expression_statement
    (set_plain 1 1 (library 1 pointer Malloc (one (convert (integer_kind UnsignedLong) (number 1 4096)))))

statement_4 : Statement
statement_4 = expression_statement
    (assign 1 (deref 1 (integer_kind Char) (plain 1 pointer 1)) (convert (integer_kind Char) (number 1 90)))

program : Program
program = main_alone none
    (two (plain_variable pointer) (plain_variable pointer))
    288
    (statement_1 ∷
    declaration (one (with_value 1
    (library 1 pointer Malloc (one (convert (integer_kind UnsignedLong) (number 1 1)))))) ∷
    statement_2 ∷
    expression_statement (library 1 Void Free (one (plain 1 pointer 0))) ∷
    statement_3 ∷
    statement_4 ∷
    expression_statement (library 1 int Putchar
    (one (convert int (read (deref 1 (integer_kind Char) (plain 1 pointer 1)))))) ∷
    return (Some (number 1 0)) ∷ [])

run : seen (meaning program (record default_sizes { heap = 4096 }) [] 20) ≡ exited (codes "NZ") 0
unfolding program statement_1 statement_2 statement_3 statement_4 computing
run = refl

valid : is_valid_program program ≡ true
unfolding program statement_1 statement_2 statement_3 statement_4 computing
valid = refl
