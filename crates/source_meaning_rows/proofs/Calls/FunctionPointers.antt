-- The text is rows/function_pointers.c; gcc 12.2.0 gives the same output and status.
--     int add(int a,int b){return a+b;}int(*pick(int n))(int,int){return n?add:0;}
--     int
-- main(void){int(*f)(int,int)=add;putchar(48+f(1,2));putchar(48+(*f)(2,2));putchar(48+(**&add)(2,3));
-- putchar(48+(add)(3,3));putchar(48+pick(1)(3,4));return
-- (f==&add)+(pick(0)==0);}
use Rattle.c_tree.specs.Programs.{Program, Function}
use Rattle.c_tree.specs.Statements.{Statement, expression_statement, declaration, return}
use Rattle.c_tree.specs.ValidProgram.{is_valid_program}
use Rattle.c_tree.specs.declared.c_type.TypeWord.TheVariants.{Gives, Integer as IntegerWord, Pointer as PointerWord}
use Rattle.c_tree.specs.declared.c_type.TypeWord.TheVariants.{Takes}
use Rattle.c_tree.specs.declared.expression.Routine.TheVariants.{Putchar}
use Rattle.obj_memory.specs.declared.int_type.IntType.TheVariants.{Int}
use Rattle.obj_memory.specs.declared.operator.BinaryOperator.TheVariants.{Add, Equal}
use Rattle.sb_base.specs.Budgets.{default_sizes}
use Rattle.source_meaning.specs.Meaning.{meaning}
use Rattle.source_meaning_rows.proofs.Samples.{binary, call, call_through, compare, computing, conditional, convert}
use Rattle.source_meaning_rows.proofs.Samples.{defined, designator, exited, function, function_type, int, library}
use Rattle.source_meaning_rows.proofs.Samples.{main_type, none, number, one, parenthesized, plain, plain_variable}
use Rattle.source_meaning_rows.proofs.Samples.{pointer, program_of, seen, three, two, with_value}
use Rattle.std.proofs.Common.{Some, [], refl, true, ◌∷◌, ◌≡◌}
use Rattle.std.specs.Prelude.{codes}

function_add : Function
function_add = defined 1 1
    (two (plain_variable int) (plain_variable int))
    none
    352
    (one (return (Some (binary 1 Add (plain 1 int 0) (plain 1 int 1)))))

function_pick : Function
function_pick = defined 1 2
    (one (plain_variable int))
    none
    240
    (one (return (Some (conditional 1 (plain 1 int 0) (function 1 0) (convert pointer (number 1 0))))))

statement_1 : Statement
statement_1 = expression_statement
    (library 2 int Putchar
    (one (binary 2 Add (number 2 48) (call_through 2 int 1 (plain 2 pointer 0) (two (number 2 1) (number 2 2))))))

statement_2 : Statement
statement_2 = expression_statement
    (library 2 int Putchar
    (one (binary 2 Add (number 2 48)
    (call_through 2 int 1 (parenthesized (designator 2 (plain 2 pointer 0))) (two (number 2 2) (number 2 2))))))

statement_3 : Statement
statement_3 = expression_statement (library 2 int Putchar (one (binary 2 Add (number 2 48) (call_through 2 int 1
    (parenthesized (designator 2 (designator 2 (designator 2 (function 2 0)))))
    (two (number 2 2) (number 2 3))))))

statement_4 : Statement
statement_4 = expression_statement
    (library 2 int Putchar
    (one (binary 2 Add (number 2 48)
    (call_through 2 int 1 (parenthesized (function 2 0)) (two (number 2 3) (number 2 3))))))

statement_5 : Statement
statement_5 = expression_statement
    (library 2 int Putchar
    (one (binary 2 Add (number 2 48)
    (call_through 2 int 1 (call 2 pointer 1 (one (number 2 1))) (two (number 2 3) (number 2 4))))))

statement_6 : Statement
statement_6 = return (Some (binary 2 Add
    (parenthesized (compare 2 Equal (plain 2 pointer 0) (designator 2 (function 2 0))))
    (parenthesized (compare 2 Equal (call 2 pointer 1 (one (number 2 0))) (convert pointer (number 2 0))))))

function_main : Function
function_main = defined 2 0 none
    (one (plain_variable pointer))
    328
    (declaration (one (with_value 0 (function 2 0))) ∷
    statement_1 ∷
    statement_2 ∷
    statement_3 ∷
    statement_4 ∷
    statement_5 ∷
    statement_6 ∷ [])

program : Program
program = program_of none
    (three main_type
    (function_type (Takes ∷ (IntegerWord Int) ∷ Takes ∷ (IntegerWord Int) ∷ Gives ∷ (IntegerWord Int) ∷ [])
    (two int int) int)
    (function_type
    (Takes ∷
    (IntegerWord Int) ∷
    Gives ∷
    PointerWord ∷
    Takes ∷
    (IntegerWord Int) ∷
    Takes ∷
    (IntegerWord Int) ∷
    Gives ∷
    (IntegerWord Int) ∷ [])
    (one int)
    pointer))
    (three function_add function_pick function_main)
    2

run : seen (meaning program default_sizes [] 20) ≡ exited (codes "34567") 2
unfolding program function_add function_pick function_main statement_1 statement_2 statement_3 statement_4 statement_5
    statement_6 computing
run = refl

valid : is_valid_program program ≡ true
unfolding program function_add function_pick function_main statement_1 statement_2 statement_3 statement_4 statement_5
    statement_6 computing
valid = refl
