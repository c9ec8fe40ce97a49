-- `int f(int n){putchar(46);return f(n+1);}int main(void){return f(0);}`
-- The room of main is 168 and that of f 280, so 14 calls of f fit in 4096 bytes. Work: 5 for main, 13 for each call of
-- f, 1 for the fifteenth, which has begun its turn; the report 34. The text is rows/calls_spent.c.
use Rattle.c_tree.specs.Programs.{Program, Function}
use Rattle.c_tree.specs.Statements.{expression_statement, return}
use Rattle.c_tree.specs.ValidProgram.{is_valid_program}
use Rattle.c_tree.specs.declared.c_type.TypeWord.TheVariants.{Gives, Integer as IntegerWord, Takes}
use Rattle.c_tree.specs.declared.expression.Routine.TheVariants.{Putchar}
use Rattle.obj_memory.specs.declared.int_type.IntType.TheVariants.{Int}
use Rattle.obj_memory.specs.declared.operator.BinaryOperator.TheVariants.{Add}
use Rattle.sb_base.specs.Budgets.{default_sizes}
use Rattle.source_meaning.specs.Meaning.{meaning}
use Rattle.source_meaning_rows.proofs.Samples.{binary, call, computing, counts, defined, function_type, int, library}
use Rattle.source_meaning_rows.proofs.Samples.{main_type, none, number, one, plain, plain_variable, program_of, seen}
use Rattle.source_meaning_rows.proofs.Samples.{stopped, two}
use Rattle.std.proofs.Common.{Some, [], refl, true, ◌∷◌, ◌≡◌}
use Rattle.std.specs.Prelude.{codes}

function_f : Function
function_f = defined 1 1
    (one (plain_variable int))
    none
    280
    (two
    (expression_statement (library 1 int Putchar (one (number 1 46))))
    (return (Some (call 1 int 0 (one (binary 1 Add (plain 1 int 0) (number 1 1)))))))

function_main : Function
function_main = defined 1 0 none none 168 (one (return (Some (call 1 int 0 (one (number 1 0))))))

program : Program
program = program_of none
    (two main_type (function_type (Takes ∷ (IntegerWord Int) ∷ Gives ∷ (IntegerWord Int) ∷ []) (one int) int))
    (two function_f function_main)
    1

run : seen (meaning program (record default_sizes { calls = 4096 }) [] 20) ≡
    stopped (codes "..............") (codes "sbcets: stack exhausted at line 1\n") 125
unfolding program function_f function_main computing
run = refl

counted : counts (meaning program (record default_sizes { calls = 4096 }) [] 20) ≡
    record { turns = 16; work = 222; accesses = [] }
unfolding program function_f function_main computing
counted = refl

valid : is_valid_program program ≡ true
unfolding program function_f function_main computing
valid = refl
