-- An object of a call that has returned. Work: 5 up to the call of f; of the call 1, the object placed 5, the body 1,
-- the initializer 5 (4 bytes become zero, and a node), the return 3; the report 37. The text is rows/dead_frame.c.
--     int*f(void){int x=5;return &x;}
--     int main(void){return *f();}
use Rattle.c_tree.specs.Programs.{Program, Function}
use Rattle.c_tree.specs.Statements.{declaration, return}
use Rattle.c_tree.specs.Tree as tree
use Rattle.c_tree.specs.ValidProgram.{is_valid_program}
use Rattle.c_tree.specs.declared.c_type.TypeWord.TheVariants.{Gives, Integer as IntegerWord, Pointer as PointerWord}
use Rattle.obj_memory.specs.declared.int_type.IntType.TheVariants.{Int}
use Rattle.sb_base.specs.Budgets.{default_sizes}
use Rattle.source_meaning.specs.Meaning.{meaning}
use Rattle.source_meaning_rows.proofs.Samples.{address, call, computing, content, counts, defined, deref, function_type}
use Rattle.source_meaning_rows.proofs.Samples.{int, lvalue, main_type, none, number, object_variable, one, part}
use Rattle.source_meaning_rows.proofs.Samples.{pointer, program_of, read, seen, stopped, two, with_parts, writes}
use Rattle.std.proofs.Common.{Some, [], refl, true, ◌∷◌, ◌≡◌}
use Rattle.std.specs.Prelude.{codes}

function_f : Function
function_f = defined 1 1 none
    (one (object_variable int))
    208
    (two
    (declaration (one (with_parts 0 (one (part 0 (content (number 1 5)))))))
    (return (Some (address 1 (lvalue 1 int (tree.automatic 0))))))

function_main : Function
function_main = defined 2 0 none none 168 (one (return (Some (read (deref 2 int (call 2 pointer 0 none))))))

program : Program
program = program_of none
    (two main_type (function_type (Gives ∷ PointerWord ∷ (IntegerWord Int) ∷ []) none pointer))
    (two function_f function_main)
    1

run : seen (meaning program default_sizes [] 20) ≡ stopped [] (codes "sbcets: temporal violation at line 2\n") 121
unfolding program function_f function_main computing
run = refl

counted : counts (meaning program default_sizes [] 20)
    ≡ record { turns = 2; work = 57; accesses = writes 0x10000000 4 ∷ [] }
unfolding program function_f function_main computing
counted = refl

valid : is_valid_program program ≡ true
unfolding program function_f function_main computing
valid = refl
