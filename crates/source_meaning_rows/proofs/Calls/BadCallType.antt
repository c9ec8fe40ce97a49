-- `int f(int x){return x;}int main(void){void(*g)(void)=(void(*)(void))f;g();return 0;}`
-- A function called at a type that is not its own. No turn begins. The text is rows/bad_call_type.c.
use Rattle.c_tree.specs.Programs.{Program, Function}
use Rattle.c_tree.specs.Statements.{expression_statement, declaration, return}
use Rattle.c_tree.specs.ValidProgram.{is_valid_program}
use Rattle.c_tree.specs.declared.c_type.TypeWord.TheVariants.{Gives, Integer as IntegerWord, Takes, Void as VoidWord}
use Rattle.c_tree.specs.declared.expression.Kind.TheVariants.{Void}
use Rattle.obj_memory.specs.declared.int_type.IntType.TheVariants.{Int}
use Rattle.sb_base.specs.Budgets.{default_sizes}
use Rattle.source_meaning.specs.Meaning.{meaning}
use Rattle.source_meaning_rows.proofs.Samples.{call_through, cast, computing, defined, function, function_type, int}
use Rattle.source_meaning_rows.proofs.Samples.{main_type, none, number, one, plain, plain_variable, pointer, program_of}
use Rattle.source_meaning_rows.proofs.Samples.{seen, stopped, three, two, with_value}
use Rattle.std.proofs.Common.{Some, [], refl, true, ◌∷◌, ◌≡◌}
use Rattle.std.specs.Prelude.{codes}

function_f : Function
function_f = defined 1 1 (one (plain_variable int)) none 240 (one (return (Some (plain 1 int 0))))

function_main : Function
function_main = defined 1 0 none
    (one (plain_variable pointer))
    208
    (three
    (declaration (one (with_value 0 (cast 1 pointer (function 1 0)))))
    (expression_statement (call_through 1 Void 2 (plain 1 pointer 0) none))
    (return (Some (number 1 0))))

program : Program
program = program_of none
    (three main_type
    (function_type (Takes ∷ (IntegerWord Int) ∷ Gives ∷ (IntegerWord Int) ∷ []) (one int) int)
    (function_type (Gives ∷ VoidWord ∷ []) none Void))
    (two function_f function_main)
    1

run : seen (meaning program default_sizes [] 20) ≡ stopped [] (codes "sbcets: bad call at line 1\n") 122
unfolding program function_f function_main computing
run = refl

valid : is_valid_program program ≡ true
unfolding program function_f function_main computing
valid = refl
