-- `int f(int n){if(n<2)return n;return f(n-1)+f(n-2);}int main(void){return f(10);}`
-- Of 177 calls of f 89 have n below 2, each with work 9, and 88 have work 17 apart from the calls in them; main has 5.
-- The text is rows/fibonacci.c; gcc 12.2.0 gives the same output and status.
use Rattle.c_tree.specs.Programs.{Program, Function}
use Rattle.c_tree.specs.Statements.{Statement, if_then, return}
use Rattle.c_tree.specs.ValidProgram.{is_valid_program}
use Rattle.c_tree.specs.declared.c_type.TypeWord.TheVariants.{Gives, Integer as IntegerWord, Takes}
use Rattle.obj_memory.specs.declared.int_type.IntType.TheVariants.{Int}
use Rattle.obj_memory.specs.declared.operator.BinaryOperator.TheVariants.{Add, Less, Subtract}
use Rattle.sb_base.specs.Budgets.{default_sizes}
use Rattle.source_meaning.specs.Meaning.{meaning}
use Rattle.source_meaning_rows.proofs.Samples.{binary, call, compare, computing, counts, defined, exited, function_type}
use Rattle.source_meaning_rows.proofs.Samples.{int, main_type, none, number, one, plain, plain_variable, program_of}
use Rattle.source_meaning_rows.proofs.Samples.{seen, two}
use Rattle.std.proofs.Common.{None, Some, [], refl, true, ◌∷◌, ◌≡◌}

statement_1 : Statement
statement_1 = return (Some (binary 1 Add
    (call 1 int 0 (one (binary 1 Subtract (plain 1 int 0) (number 1 1))))
    (call 1 int 0 (one (binary 1 Subtract (plain 1 int 0) (number 1 2))))))

function_f : Function
function_f = defined 1 1
    (one (plain_variable int))
    none
    320
    (two (if_then (compare 1 Less (plain 1 int 0) (number 1 2)) ((return (Some (plain 1 int 0))))) statement_1)

function_main : Function
function_main = defined 1 0 none none 168 (one (return (Some (call 1 int 0 (one (number 1 10))))))

program : Program
program = program_of none
    (two main_type (function_type (Takes ∷ (IntegerWord Int) ∷ Gives ∷ (IntegerWord Int) ∷ []) (one int) int))
    (two function_f function_main)
    1

run : seen (meaning program default_sizes [] 200) ≡ exited [] 55
unfolding program function_f function_main statement_1 computing
run = refl

counted : counts (meaning program default_sizes [] 200) ≡ record { turns = 178; work = 2302; accesses = [] }
unfolding program function_f function_main statement_1 computing
counted = refl

valid : is_valid_program program ≡ true
unfolding program function_f function_main statement_1 computing
valid = refl
