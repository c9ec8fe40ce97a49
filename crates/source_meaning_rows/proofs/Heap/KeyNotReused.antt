-- The address is used again, the key is not. Work: 4 for the call, two variables and the body; each malloc 21, 2 nodes,
-- a call, the search of no live block 1, a block placed 1 and 16 bytes; free 6, of which 2 for one live block; 4 for
-- the
-- condition, 5 to put the byte, 5 for each assignment; the report has 37 bytes. The text is rows/key_not_reused.c.
--     int main(void){
--     char*p=malloc(16);free(p);char*q=malloc(16);
--     if(p==q)putchar('=');*q=1;*p=2;return 0;}
use Rattle.c_tree.specs.Programs.{Program}
use Rattle.c_tree.specs.Statements.{Statement, expression_statement, declaration, if_then, return}
use Rattle.c_tree.specs.ValidProgram.{is_valid_program}
use Rattle.c_tree.specs.declared.expression.Kind.TheVariants.{Void}
use Rattle.c_tree.specs.declared.expression.Routine.TheVariants.{Free, Malloc, Putchar}
use Rattle.obj_memory.specs.declared.int_type.IntType.TheVariants.{Char, UnsignedLong}
use Rattle.obj_memory.specs.declared.operator.BinaryOperator.TheVariants.{Equal}
use Rattle.sb_base.specs.Budgets.{default_sizes}
use Rattle.source_meaning.specs.Meaning.{meaning}
use Rattle.source_meaning_rows.proofs.Samples.{assign, compare, computing, convert, counts, deref, int, integer_kind}
use Rattle.source_meaning_rows.proofs.Samples.{library, main_alone, none, number, one, plain, plain_variable, pointer}
use Rattle.source_meaning_rows.proofs.Samples.{seen, stopped, two, with_value, writes}
use Rattle.std.proofs.Common.{None, Some, [], refl, true, ◌∷◌, ◌≡◌}
use Rattle.std.specs.Prelude.{codes}

statement_1 : Statement
statement_1 = if_then (compare 3 Equal (plain 3 pointer 0) (plain 3 pointer 1))
    ((expression_statement (library 3 int Putchar (one (number 3 61)))))

statement_2 : Statement
statement_2 = expression_statement
    (assign 3 (deref 3 (integer_kind Char) (plain 3 pointer 1)) (convert (integer_kind Char) (number 3 1)))

statement_3 : Statement
statement_3 = expression_statement
    (assign 3 (deref 3 (integer_kind Char) (plain 3 pointer 0)) (convert (integer_kind Char) (number 3 2)))

program : Program
program = main_alone none
    (two (plain_variable pointer) (plain_variable pointer))
    288
    (declaration (one (with_value 0
    (library 2 pointer Malloc (one (convert (integer_kind UnsignedLong) (number 2 16)))))) ∷
    expression_statement (library 2 Void Free (one (plain 2 pointer 0))) ∷
    declaration (one (with_value 1
    (library 2 pointer Malloc (one (convert (integer_kind UnsignedLong) (number 2 16)))))) ∷
    statement_1 ∷
    statement_2 ∷
    statement_3 ∷
    return (Some (number 3 0)) ∷ [])

run : seen (meaning program default_sizes [] 20)
    ≡ stopped (codes "=") (codes "sbcets: temporal violation at line 3\n") 121
unfolding program statement_1 statement_2 statement_3 computing
run = refl

counted : counts (meaning program default_sizes [] 20)
    ≡ record { turns = 1; work = 108; accesses = writes 0x10100000 1 ∷ [] }
unfolding program statement_1 statement_2 statement_3 computing
counted = refl

valid : is_valid_program program ≡ true
unfolding program statement_1 statement_2 statement_3 computing
valid = refl
