-- `int f(int n){return f(n);}int main(void){return f(0);}`
-- Every call is a turn. The text is rows/endless_calls.c.
use Rattle.c_tree.specs.Programs.{Program, Function}
use Rattle.c_tree.specs.Statements.{return}
use Rattle.c_tree.specs.ValidProgram.{is_valid_program}
use Rattle.c_tree.specs.declared.c_type.TypeWord.TheVariants.{Gives, Integer as IntegerWord, Takes}
use Rattle.obj_memory.specs.declared.int_type.IntType.TheVariants.{Int}
use Rattle.sb_base.specs.Budgets.{default_sizes}
use Rattle.source_meaning.specs.Meaning.{meaning}
use Rattle.source_meaning_rows.proofs.Samples.{call, computing, defined, function_type, int, main_type, none, number}
use Rattle.source_meaning_rows.proofs.Samples.{one, plain, plain_variable, program_of, running, seen, two}
use Rattle.std.proofs.Common.{Some, [], refl, true, ◌∷◌, ◌≡◌}

function_f : Function
function_f = defined 1 1 (one (plain_variable int)) none 240 (one (return (Some (call 1 int 0 (one (plain 1 int 0))))))

function_main : Function
function_main = defined 1 0 none none 168 (one (return (Some (call 1 int 0 (one (number 1 0))))))

program : Program
program = program_of none
    (two main_type (function_type (Takes ∷ (IntegerWord Int) ∷ Gives ∷ (IntegerWord Int) ∷ []) (one int) int))
    (two function_f function_main)
    1

run : seen (meaning program default_sizes [] 100) ≡ running []
unfolding program function_f function_main computing
run = refl

turned : (meaning program default_sizes [] 100).turns ≡ 100
unfolding program function_f function_main computing
turned = refl

valid : is_valid_program program ≡ true
unfolding program function_f function_main computing
valid = refl
