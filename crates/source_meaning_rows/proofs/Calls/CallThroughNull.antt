-- `int main(void){int(*h)(int)=0;return h(putchar(65));}`
-- The arguments are evaluated before the pointer is tested. The text is rows/call_through_null.c.
use Rattle.c_tree.specs.Programs.{Program, Function}
use Rattle.c_tree.specs.Statements.{declaration, return}
use Rattle.c_tree.specs.ValidProgram.{is_valid_program}
use Rattle.c_tree.specs.declared.c_type.TypeWord.TheVariants.{Gives, Integer as IntegerWord, Takes}
use Rattle.c_tree.specs.declared.expression.Routine.TheVariants.{Putchar}
use Rattle.obj_memory.specs.declared.int_type.IntType.TheVariants.{Int}
use Rattle.sb_base.specs.Budgets.{default_sizes}
use Rattle.source_meaning.specs.Meaning.{meaning}
use Rattle.source_meaning_rows.proofs.Samples.{call_through, computing, convert, defined, function_type, int, library}
use Rattle.source_meaning_rows.proofs.Samples.{main_type, none, number, one, plain, plain_variable, pointer, program_of}
use Rattle.source_meaning_rows.proofs.Samples.{seen, stopped, two, with_value}
use Rattle.std.proofs.Common.{Some, [], refl, true, ◌∷◌, ◌≡◌}
use Rattle.std.specs.Prelude.{codes}

function_main : Function
function_main = defined 1 0 none
    (one (plain_variable pointer))
    248
    (two
    (declaration (one (with_value 0 (convert pointer (number 1 0)))))
    (return (Some (call_through 1 int 1 (plain 1 pointer 0) (one (library 1 int Putchar (one (number 1 65))))))))

program : Program
program = program_of none
    (two main_type (function_type (Takes ∷ (IntegerWord Int) ∷ Gives ∷ (IntegerWord Int) ∷ []) (one int) int))
    (one function_main)
    0

run : seen (meaning program default_sizes [] 20) ≡ stopped (codes "A") (codes "sbcets: bad call at line 1\n") 122
unfolding program function_main computing
run = refl

valid : is_valid_program program ≡ true
unfolding program function_main computing
valid = refl
