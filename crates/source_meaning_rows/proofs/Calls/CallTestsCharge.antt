-- The object stack is tested before keys. The line is that of the parenthesis of the call. The text is
-- rows/call_tests_charge.c.
--     int f(int n){int a[2000];return n;}int main(void){int(*g)(void)=(int(*)(void))f;putchar(65);
--     return f
--     (
--     putchar(66));}
use Rattle.c_tree.specs.Programs.{Program, Function}
use Rattle.c_tree.specs.Statements.{expression_statement, declaration, return}
use Rattle.c_tree.specs.ValidProgram.{is_valid_program}
use Rattle.c_tree.specs.declared.c_type.TypeWord.TheVariants.{Gives, Integer as IntegerWord, Takes}
use Rattle.c_tree.specs.declared.expression.Kind.TheVariants.{Array}
use Rattle.c_tree.specs.declared.expression.Routine.TheVariants.{Putchar}
use Rattle.obj_memory.specs.declared.int_type.IntType.TheVariants.{Int}
use Rattle.sb_base.specs.Budgets.{default_sizes}
use Rattle.source_meaning.specs.Meaning.{meaning}
use Rattle.source_meaning_rows.proofs.Samples.{call, cast, computing, defined, function, function_type, int, library}
use Rattle.source_meaning_rows.proofs.Samples.{main_type, none, number, object_variable, one, plain, plain_variable}
use Rattle.source_meaning_rows.proofs.Samples.{pointer, program_of, seen, stopped, three, two, with_value}
use Rattle.source_meaning_rows.proofs.Samples.{without_value}
use Rattle.std.proofs.Common.{Some, [], refl, true, ◌∷◌, ◌≡◌}
use Rattle.std.specs.Prelude.{codes}

function_f : Function
function_f = defined 1 1 (one (plain_variable int)) (one (object_variable (Array 8000))) 280
    ((declaration (without_value 1 ∷ []))
    ∷ (return (Some (plain 1 int 0)))
    ∷ [])

function_main : Function
function_main = defined 1 0 none
    (one (plain_variable pointer))
    208
    (three
    (declaration (one (with_value 0 (cast 1 pointer (function 1 0)))))
    (expression_statement (library 1 int Putchar (one (number 1 65))))
    (return (Some (call 3 int 0 (one (library 4 int Putchar (one (number 4 66))))))))

program : Program
program = program_of none
    (two main_type (function_type (Takes ∷ (IntegerWord Int) ∷ Gives ∷ (IntegerWord Int) ∷ []) (one int) int))
    (two function_f function_main)
    1

run : seen (meaning program (record default_sizes { stack = 4096; keys = 0 }) [] 20) ≡
    stopped (codes "AB") (codes "sbcets: stack exhausted at line 3\n") 125
unfolding program function_f function_main computing
run = refl

valid : is_valid_program program ≡ true
unfolding program function_f function_main computing
valid = refl
