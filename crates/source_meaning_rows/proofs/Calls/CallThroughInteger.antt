-- A pointer made from an integer has no function tag. The text is rows/call_through_integer.c.
--     int f(void){return 1;}int main(void){int(*g)(void)=(int(*)(void))(long)f;
--     return g();}
use Rattle.c_tree.specs.Programs.{Program, Function}
use Rattle.c_tree.specs.Statements.{declaration, return}
use Rattle.c_tree.specs.ValidProgram.{is_valid_program}
use Rattle.obj_memory.specs.declared.int_type.IntType.TheVariants.{Long}
use Rattle.sb_base.specs.Budgets.{default_sizes}
use Rattle.source_meaning.specs.Meaning.{meaning}
use Rattle.source_meaning_rows.proofs.Samples.{call_through, cast, computing, defined, function, int, integer_kind}
use Rattle.source_meaning_rows.proofs.Samples.{main_type, none, number, one, plain, plain_variable, pointer, program_of}
use Rattle.source_meaning_rows.proofs.Samples.{seen, stopped, two, with_value}
use Rattle.std.proofs.Common.{Some, [], refl, true, ◌≡◌}
use Rattle.std.specs.Prelude.{codes}

function_f : Function
function_f = defined 1 0 none none 168 (one (return (Some (number 1 1))))

function_main : Function
function_main = defined 1 0 none
    (one (plain_variable pointer))
    208
    (two
    (declaration (one (with_value 0 (cast 1 pointer (cast 1 (integer_kind Long) (function 1 0))))))
    (return (Some (call_through 2 int 0 (plain 2 pointer 0) none))))

program : Program
program = program_of none (one main_type) (two function_f function_main) 1

run : seen (meaning program default_sizes [] 20) ≡ stopped [] (codes "sbcets: bad call at line 2\n") 122
unfolding program function_f function_main computing
run = refl

valid : is_valid_program program ≡ true
unfolding program function_f function_main computing
valid = refl
