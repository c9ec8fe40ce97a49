-- The text is rows/list_used_after_free.c.
--     struct n{int v;struct n*q;};
--     int main(void){struct n*h=0;int i;for(i=0;i<3;i++){struct n*m=malloc(sizeof(struct n));m->v=i;m->q=h;h=m;}
--     for(;h;
--     h=h->q){putchar(48+h->v);free(h);}return 0;}
use Rattle.c_tree.specs.Programs.{Program, Function}
use Rattle.c_tree.specs.Statements.{Statement, expression_statement, declaration, for, return, nothing}
use Rattle.c_tree.specs.Statements.{first_expression}
use Rattle.c_tree.specs.ValidProgram.{is_valid_program}
use Rattle.c_tree.specs.declared.expression.Fixity.TheVariants.{Postfix}
use Rattle.c_tree.specs.declared.expression.Kind.TheVariants.{Void}
use Rattle.c_tree.specs.declared.expression.Routine.TheVariants.{Free, Malloc, Putchar}
use Rattle.c_tree.specs.declared.expression.Update.TheVariants.{Arithmetic}
use Rattle.obj_memory.specs.declared.int_type.IntType.TheVariants.{Int, UnsignedLong}
use Rattle.obj_memory.specs.declared.operator.BinaryOperator.TheVariants.{Add, Less}
use Rattle.sb_base.specs.Budgets.{default_sizes}
use Rattle.source_meaning.specs.Meaning.{meaning}
use Rattle.source_meaning_rows.proofs.Samples.{arrow, assign, binary, block_of, compare, computing, constant, convert}
use Rattle.source_meaning_rows.proofs.Samples.{defined, four, int, library, main_type, none, number, one, plain}
use Rattle.source_meaning_rows.proofs.Samples.{plain_variable, pointer, program_of, read, seen, set_plain, step_plain}
use Rattle.source_meaning_rows.proofs.Samples.{stopped, three, two, with_value, without_value}
use Rattle.std.proofs.Common.{Some, [], refl, true, ◌≡◌, ◌∷◌}
use Rattle.std.specs.Prelude.{codes}

statement_1 : Statement
statement_1 = block_of 2 (four
    (declaration (one (with_value 2 (library 2 pointer Malloc (one (constant UnsignedLong 2 16))))))
    (expression_statement (assign 2 (arrow 2 int 0 (plain 2 pointer 2)) (plain 2 int 1)))
    (expression_statement (assign 2 (arrow 2 pointer 8 (plain 2 pointer 2)) (plain 2 pointer 0)))
    (expression_statement (set_plain 2 0 (plain 2 pointer 2))))

statement_2 : Statement
statement_2 = for 2
    (first_expression (set_plain 2 1 (number 2 0)))
    (Some (compare 2 Less (plain 2 int 1) (number 2 3)))
    (Some (step_plain 2 int (Arithmetic Add Int) Postfix 1))
    (statement_1)

statement_3 : Statement
statement_3 = block_of 4 (two
    (expression_statement
    (library 4 int Putchar (one (binary 4 Add (number 4 48) (read (arrow 4 int 0 (plain 4 pointer 0)))))))
    (expression_statement (library 4 Void Free (one (plain 4 pointer 0)))))

statement_4 : Statement
statement_4 = for 3 nothing (Some (plain 3 pointer 0))
    (Some (set_plain 4 0 (read (arrow 4 pointer 8 (plain 4 pointer 0))))) (statement_3)

function_main : Function
function_main = defined 2 0 none
    (three (plain_variable pointer) (plain_variable int) (plain_variable pointer))
    328
    ((declaration (one (with_value 0 (convert pointer (number 2 0)))))
    ∷ (declaration (without_value 1 ∷ []))
    ∷ statement_2
    ∷ statement_4
    ∷ (return (Some (number 4 0)))
    ∷ [])

program : Program
program = program_of none (one main_type) (one function_main) 0

run : seen (meaning program default_sizes [] 20)
    ≡ stopped (codes "2") (codes "sbcets: temporal violation at line 4\n") 121
unfolding program function_main statement_1 statement_2 statement_3 statement_4 computing
run = refl

valid : is_valid_program program ≡ true
unfolding program function_main statement_1 statement_2 statement_3 statement_4 computing
valid = refl
