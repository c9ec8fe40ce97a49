-- `int*f(int n){if(n)return 0;}int main(void){putchar(48+(f(0)==0));*f(0)=1;}`
-- A function that reaches its end gives 0 with no tag. The text is rows/return_missing.c.
use Rattle.c_tree.specs.Programs.{Program, Function}
use Rattle.c_tree.specs.Statements.{Statement, expression_statement, if_then, return}
use Rattle.c_tree.specs.ValidProgram.{is_valid_program}
use Rattle.c_tree.specs.declared.c_type.TypeWord.TheVariants.{Gives, Integer as IntegerWord, Pointer as PointerWord}
use Rattle.c_tree.specs.declared.c_type.TypeWord.TheVariants.{Takes}
use Rattle.c_tree.specs.declared.expression.Routine.TheVariants.{Putchar}
use Rattle.obj_memory.specs.declared.int_type.IntType.TheVariants.{Int}
use Rattle.obj_memory.specs.declared.operator.BinaryOperator.TheVariants.{Add, Equal}
use Rattle.sb_base.specs.Budgets.{default_sizes}
use Rattle.source_meaning.specs.Meaning.{meaning}
use Rattle.source_meaning_rows.proofs.Samples.{assign, binary, call, compare, computing, convert, defined, deref}
use Rattle.source_meaning_rows.proofs.Samples.{function_type, int, library, main_type, none, number, one, parenthesized}
use Rattle.source_meaning_rows.proofs.Samples.{plain, plain_variable, pointer, program_of, seen, stopped, two}
use Rattle.std.proofs.Common.{None, Some, [], refl, true, ◌∷◌, ◌≡◌}
use Rattle.std.specs.Prelude.{codes}

function_f : Function
function_f = defined 1 1
    (one (plain_variable int))
    none
    240
    (one (if_then (plain 1 int 0) ((return (Some (convert pointer (number 1 0)))))))

statement_1 : Statement
statement_1 = expression_statement
    (library 1 int Putchar
    (one (binary 1 Add (number 1 48)
    (parenthesized (compare 1 Equal (call 1 pointer 0 (one (number 1 0))) (convert pointer (number 1 0)))))))

function_main : Function
function_main = defined 1 0 none none 248
    (two statement_1 (expression_statement (assign 1 (deref 1 int (call 1 pointer 0 (one (number 1 0)))) (number 1 1))))

program : Program
program = program_of none
    (two main_type (function_type (Takes ∷ (IntegerWord Int) ∷ Gives ∷ PointerWord ∷ (IntegerWord Int) ∷ [])
    (one int) pointer))
    (two function_f function_main)
    1

run : seen (meaning program default_sizes [] 20)
    ≡ stopped (codes "1") (codes "sbcets: spatial violation at line 1\n") 120
unfolding program function_f function_main statement_1 computing
run = refl

valid : is_valid_program program ≡ true
unfolding program function_f function_main statement_1 computing
valid = refl
