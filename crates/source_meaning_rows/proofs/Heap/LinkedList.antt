-- A list is made and freed. The text is rows/linked_list.c; gcc 12.2.0 gives the same output and status.
--     struct n{int v;struct n*q;};
--     int main(void){struct n*h=0;int i;int s=0;for(i=0;i<5;i++){struct n*m=malloc(sizeof(struct
-- n));m->v=i+1;m->q=h;h=m;}
--     while(h){struct n*m=h->q;s=s*3+h->v;free(h);h=m;}putchar(48+(h==0));return s%256;}
use Rattle.c_tree.specs.Programs.{Program, Function}
use Rattle.c_tree.specs.Statements.{Statement, expression_statement, declaration, while_do, for, return}
use Rattle.c_tree.specs.Statements.{first_expression}
use Rattle.c_tree.specs.ValidProgram.{is_valid_program}
use Rattle.c_tree.specs.declared.expression.Fixity.TheVariants.{Postfix}
use Rattle.c_tree.specs.declared.expression.Kind.TheVariants.{Void}
use Rattle.c_tree.specs.declared.expression.Routine.TheVariants.{Free, Malloc, Putchar}
use Rattle.c_tree.specs.declared.expression.Update.TheVariants.{Arithmetic}
use Rattle.obj_memory.specs.declared.int_type.IntType.TheVariants.{Int, UnsignedLong}
use Rattle.obj_memory.specs.declared.operator.BinaryOperator.TheVariants.{Add, Equal, Less, Multiply, Remainder}
use Rattle.sb_base.specs.Budgets.{default_sizes}
use Rattle.source_meaning.specs.Meaning.{meaning}
use Rattle.source_meaning_rows.proofs.Samples.{arrow, assign, binary, block_of, compare, computing, constant, convert}
use Rattle.source_meaning_rows.proofs.Samples.{defined, exited, five, four, int, library, main_type, none, number, one}
use Rattle.source_meaning_rows.proofs.Samples.{parenthesized, plain, plain_variable, pointer, program_of, read, seen}
use Rattle.source_meaning_rows.proofs.Samples.{set_plain, six, step_plain, with_value, without_value}
use Rattle.std.proofs.Common.{Some, [], refl, true, ◌≡◌, ◌∷◌}
use Rattle.std.specs.Prelude.{codes}

statement_1 : Statement
statement_1 = block_of 3 (four
    (declaration (one (with_value 3 (library 2 pointer Malloc (one (constant UnsignedLong 2 16))))))
    (expression_statement (assign 2 (arrow 2 int 0 (plain 2 pointer 3)) (binary 2 Add (plain 2 int 1) (number 2 1))))
    (expression_statement (assign 2 (arrow 2 pointer 8 (plain 2 pointer 3)) (plain 2 pointer 0)))
    (expression_statement (set_plain 2 0 (plain 2 pointer 3))))

statement_2 : Statement
statement_2 = for 2
    (first_expression (set_plain 2 1 (number 2 0)))
    (Some (compare 2 Less (plain 2 int 1) (number 2 5)))
    (Some (step_plain 2 int (Arithmetic Add Int) Postfix 1))
    (statement_1)

statement_3 : Statement
statement_3 = expression_statement
    (set_plain 3 2 (binary 3 Add (binary 3 Multiply (plain 3 int 2) (number 3 3))
    (read (arrow 3 int 0 (plain 3 pointer 0)))))

statement_4 : Statement
statement_4 = block_of 4 (four
    (declaration (one (with_value 4 (read (arrow 3 pointer 8 (plain 3 pointer 0))))))
    statement_3
    (expression_statement (library 3 Void Free (one (plain 3 pointer 0))))
    (expression_statement (set_plain 3 0 (plain 3 pointer 4))))

statement_5 : Statement
statement_5 = expression_statement
    (library 3 int Putchar
    (one (binary 3 Add (number 3 48)
    (parenthesized (compare 3 Equal (plain 3 pointer 0) (convert pointer (number 3 0)))))))

function_main : Function
function_main = defined 2 0 none
    (five (plain_variable pointer) (plain_variable int) (plain_variable int) (plain_variable pointer)
    (plain_variable pointer))
    448
    ((declaration (one (with_value 0 (convert pointer (number 2 0)))))
    ∷ (declaration (without_value 1 ∷ []))
    ∷ (declaration (one (with_value 2 (number 2 0))))
    ∷ statement_2
    ∷ (while_do (plain 3 pointer 0) (statement_4))
    ∷ statement_5
    ∷ (return (Some (binary 3 Remainder (plain 3 int 2) (number 3 256))))
    ∷ [])

program : Program
program = program_of none (one main_type) (one function_main) 0

run : seen (meaning program default_sizes [] 40) ≡ exited (codes "1") 35
unfolding program function_main statement_1 statement_2 statement_3 statement_4 statement_5 computing
run = refl

valid : is_valid_program program ≡ true
unfolding program function_main statement_1 statement_2 statement_3 statement_4 statement_5 computing
valid = refl
