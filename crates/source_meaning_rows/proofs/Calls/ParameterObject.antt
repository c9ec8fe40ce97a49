-- `int f(int a,int b){int*p=&b;*p=*p+1;return a*10+b;}int main(void){return f(2,3);}`
-- A parameter that is an object is written at the call. Work: 6 in main; of f the call 1, two parameters and a variable
-- 3, the object 5, the body 1, the initializer 2, the assignment 8, the return 6. The text is rows/parameter_object.c;
-- gcc 12.2.0 gives the same output and status.
use Rattle.c_tree.specs.Programs.{Program, Function}
use Rattle.c_tree.specs.Statements.{Statement, expression_statement, declaration, return}
use Rattle.c_tree.specs.Tree as tree
use Rattle.c_tree.specs.ValidProgram.{is_valid_program}
use Rattle.c_tree.specs.declared.c_type.TypeWord.TheVariants.{Gives, Integer as IntegerWord, Takes}
use Rattle.obj_memory.specs.declared.int_type.IntType.TheVariants.{Int}
use Rattle.obj_memory.specs.declared.operator.BinaryOperator.TheVariants.{Add, Multiply}
use Rattle.sb_base.specs.Budgets.{default_sizes}
use Rattle.source_meaning.specs.Meaning.{meaning}
use Rattle.source_meaning_rows.proofs.Samples.{address, assign, binary, call, computing, counts, defined, deref, exited}
use Rattle.source_meaning_rows.proofs.Samples.{function_type, int, lvalue, main_type, none, number, object_variable}
use Rattle.source_meaning_rows.proofs.Samples.{one, plain, plain_variable, pointer, program_of, read, reads, seen}
use Rattle.source_meaning_rows.proofs.Samples.{three, two, with_value, writes}
use Rattle.std.proofs.Common.{Some, [], refl, true, ◌∷◌, ◌≡◌}

statement_1 : Statement
statement_1 = expression_statement
    (assign 1 (deref 1 int (plain 1 pointer 2)) (binary 1 Add (read (deref 1 int (plain 1 pointer 2))) (number 1 1)))

statement_2 : Statement
statement_2 = return (Some
    (binary 1 Add (binary 1 Multiply (plain 1 int 0) (number 1 10)) (read (lvalue 1 int (tree.automatic 1)))))

function_f : Function
function_f = defined 1 1
    (two (plain_variable int) (object_variable int))
    (one (plain_variable pointer))
    432
    (three (declaration (one (with_value 2 (address 1 (lvalue 1 int (tree.automatic 1)))))) statement_1 statement_2)

function_main : Function
function_main = defined 1 0 none none 208 (one (return (Some (call 1 int 0 (two (number 1 2) (number 1 3))))))

program : Program
program = program_of none
    (two main_type (function_type
    (Takes ∷ (IntegerWord Int) ∷ Takes ∷ (IntegerWord Int) ∷ Gives ∷ (IntegerWord Int) ∷ []) (two int int) int))
    (two function_f function_main)
    1

run : seen (meaning program default_sizes [] 20) ≡ exited [] 24
unfolding program function_f function_main statement_1 statement_2 computing
run = refl

counted : counts (meaning program default_sizes [] 20) ≡
    record {
      turns = 2;
      work = 32;
      accesses = writes 0x10000000 4 ∷ reads 0x10000000 4 ∷ writes 0x10000000 4
          ∷ reads 0x10000000 4 ∷ [];
    }
unfolding program function_f function_main statement_1 statement_2 computing
counted = refl

valid : is_valid_program program ≡ true
unfolding program function_f function_main statement_1 statement_2 computing
valid = refl
