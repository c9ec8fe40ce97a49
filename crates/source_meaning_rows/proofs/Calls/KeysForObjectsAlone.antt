-- `int f(int n){return n+1;}int main(void){return f(2);}`
-- A call of a function without objects takes no key. The text is rows/keys_for_objects_alone.c; gcc 12.2.0 gives the
-- same output and status.
use Rattle.c_tree.specs.Programs.{Program, Function}
use Rattle.c_tree.specs.Statements.{return}
use Rattle.c_tree.specs.ValidProgram.{is_valid_program}
use Rattle.c_tree.specs.declared.c_type.TypeWord.TheVariants.{Gives, Integer as IntegerWord, Takes}
use Rattle.obj_memory.specs.declared.int_type.IntType.TheVariants.{Int}
use Rattle.obj_memory.specs.declared.operator.BinaryOperator.TheVariants.{Add}
use Rattle.sb_base.specs.Budgets.{default_sizes}
use Rattle.source_meaning.specs.Meaning.{meaning}
use Rattle.source_meaning_rows.proofs.Samples.{binary, call, computing, defined, exited, function_type, int, main_type}
use Rattle.source_meaning_rows.proofs.Samples.{none, number, one, plain, plain_variable, program_of, seen, two}
use Rattle.std.proofs.Common.{Some, [], refl, true, ◌∷◌, ◌≡◌}

function_f : Function
function_f = defined 1 1 (one (plain_variable int)) none 280
    (one (return (Some (binary 1 Add (plain 1 int 0) (number 1 1)))))

function_main : Function
function_main = defined 1 0 none none 168 (one (return (Some (call 1 int 0 (one (number 1 2))))))

program : Program
program = program_of none
    (two main_type (function_type (Takes ∷ (IntegerWord Int) ∷ Gives ∷ (IntegerWord Int) ∷ []) (one int) int))
    (two function_f function_main)
    1

run : seen (meaning program (record default_sizes { keys = 0 }) [] 20) ≡ exited [] 3
unfolding program function_f function_main computing
run = refl

valid : is_valid_program program ≡ true
unfolding program function_f function_main computing
valid = refl
