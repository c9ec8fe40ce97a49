-- The text is rows/shadowing.c; gcc 12.2.0 gives the same output and status.
--     int x=1;int f(int x){{int x=5;x++;putchar(48+x);}x++;putchar(48+x);return x;}int main(void){int y=x;{int
-- x=y+1;y=f(x);}for(int y=7;y<8;y++)putchar(48+y);return x*10+y;}
use Rattle.c_tree.specs.Programs.{Program, Function}
use Rattle.c_tree.specs.Statements.{Statement, expression_statement, declaration, for, return, first_declaration}
use Rattle.c_tree.specs.Tree as tree
use Rattle.c_tree.specs.ValidProgram.{is_valid_program}
use Rattle.c_tree.specs.declared.c_type.TypeWord.TheVariants.{Gives, Integer as IntegerWord, Takes}
use Rattle.c_tree.specs.declared.expression.Fixity.TheVariants.{Postfix}
use Rattle.c_tree.specs.declared.expression.Routine.TheVariants.{Putchar}
use Rattle.c_tree.specs.declared.expression.Update.TheVariants.{Arithmetic}
use Rattle.obj_memory.specs.declared.int_type.IntType.TheVariants.{Int}
use Rattle.obj_memory.specs.declared.operator.BinaryOperator.TheVariants.{Add, Less, Multiply}
use Rattle.sb_base.specs.Budgets.{default_sizes}
use Rattle.source_meaning.specs.Meaning.{meaning}
use Rattle.source_meaning_rows.proofs.Samples.{binary, block_of, call, compare, computing, content, defined, exited}
use Rattle.source_meaning_rows.proofs.Samples.{four, function_type, int, library, lvalue, main_type, none, number, one}
use Rattle.source_meaning_rows.proofs.Samples.{part, plain, plain_variable, program_of, read, seen, set_plain}
use Rattle.source_meaning_rows.proofs.Samples.{static_object, step_plain, three, two, with_value}
use Rattle.std.proofs.Common.{Some, [], refl, true, ◌∷◌, ◌≡◌}
use Rattle.std.specs.Prelude.{codes}

statement_1 : Statement
statement_1 = block_of 1 (three
    (declaration (one (with_value 1 (number 1 5))))
    (expression_statement (step_plain 1 int (Arithmetic Add Int) Postfix 1))
    (expression_statement (library 1 int Putchar (one (binary 1 Add (number 1 48) (plain 1 int 1))))))

function_f : Function
function_f = defined 1 1
    (one (plain_variable int))
    (one (plain_variable int))
    320
    (four statement_1
    (expression_statement (step_plain 1 int (Arithmetic Add Int) Postfix 0))
    (expression_statement (library 1 int Putchar (one (binary 1 Add (number 1 48) (plain 1 int 0)))))
    (return (Some (plain 1 int 0))))

statement_2 : Statement
statement_2 = block_of 1 (two
    (declaration (one (with_value 1 (binary 1 Add (plain 1 int 0) (number 1 1)))))
    (expression_statement (set_plain 1 0 (call 1 int 0 (one (plain 1 int 1))))))

statement_3 : Statement
statement_3 = for 2
    (first_declaration (one (with_value 2 (number 1 7))))
    (Some (compare 1 Less (plain 1 int 2) (number 1 8)))
    (Some (step_plain 1 int (Arithmetic Add Int) Postfix 2))
    ((expression_statement (library 1 int Putchar (one (binary 1 Add (number 1 48) (plain 1 int 2))))))

function_main : Function
function_main = defined 1 0 none
    (three (plain_variable int) (plain_variable int) (plain_variable int))
    328
    (four
    (declaration (one (with_value 0 (read (lvalue 1 int (tree.static 0))))))
    statement_2
    statement_3
    (return (Some (binary 1 Add (binary 1 Multiply (read (lvalue 1 int (tree.static 0))) (number 1 10))
    (plain 1 int 0)))))

program : Program
program = program_of
    (one (static_object int (one (part 0 (content (number 1 1))))))
    (two main_type (function_type (Takes ∷ (IntegerWord Int) ∷ Gives ∷ (IntegerWord Int) ∷ []) (one int) int))
    (two function_f function_main)
    1

run : seen (meaning program default_sizes [] 20) ≡ exited (codes "637") 13
unfolding program function_f function_main statement_1 statement_2 statement_3 computing
run = refl

valid : is_valid_program program ≡ true
unfolding program function_f function_main statement_1 statement_2 statement_3 computing
valid = refl
