-- Work: the call of main 1, its object 5, its body 1, the initializer 5, the return 1, and 3 nodes for the call of f;
-- of
-- f the call, the parameter, the body and the return 4, and 5 nodes. The text is rows/read_twice.c; gcc 12.2.0 gives
-- the
-- same output and status.
--     int f(int*p){return *p+*p;}
--     int main(void){int x=4;return f(&x);}
use Rattle.c_tree.specs.Programs.{Program, Function}
use Rattle.c_tree.specs.Statements.{declaration, return}
use Rattle.c_tree.specs.Tree as tree
use Rattle.c_tree.specs.ValidProgram.{is_valid_program}
use Rattle.c_tree.specs.declared.c_type.TypeWord.TheVariants.{Gives, Integer as IntegerWord, Pointer as PointerWord}
use Rattle.c_tree.specs.declared.c_type.TypeWord.TheVariants.{Takes}
use Rattle.obj_memory.specs.declared.int_type.IntType.TheVariants.{Int}
use Rattle.obj_memory.specs.declared.operator.BinaryOperator.TheVariants.{Add}
use Rattle.sb_base.specs.Budgets.{default_sizes}
use Rattle.source_meaning.specs.Meaning.{meaning}
use Rattle.source_meaning_rows.proofs.Samples.{address, binary, call, computing, content, counts, defined, deref}
use Rattle.source_meaning_rows.proofs.Samples.{exited, function_type, int, lvalue, main_type, none, number}
use Rattle.source_meaning_rows.proofs.Samples.{object_variable, one, part, plain, plain_variable, pointer, program_of}
use Rattle.source_meaning_rows.proofs.Samples.{read, reads, seen, two, with_parts, writes}
use Rattle.std.proofs.Common.{Some, [], refl, true, ◌∷◌, ◌≡◌}

function_f : Function
function_f = defined 1 1
    (one (plain_variable pointer))
    none
    280
    (one (return (Some (binary 1 Add (read (deref 1 int (plain 1 pointer 0)))
    (read (deref 1 int (plain 1 pointer 0)))))))

function_main : Function
function_main = defined 2 0 none
    (one (object_variable int))
    208
    (two
    (declaration (one (with_parts 0 (one (part 0 (content (number 2 4)))))))
    (return (Some (call 2 int 0 (one (address 2 (lvalue 2 int (tree.automatic 0))))))))

program : Program
program = program_of none
    (two main_type (function_type (Takes ∷ PointerWord ∷ (IntegerWord Int) ∷ Gives ∷ (IntegerWord Int) ∷ [])
    (one pointer) int))
    (two function_f function_main)
    1

run : seen (meaning program default_sizes [] 20) ≡ exited [] 8
unfolding program function_f function_main computing
run = refl

counted : counts (meaning program default_sizes [] 20) ≡
    record { turns = 2; work = 25; accesses = writes 0x10000000 4 ∷ reads 0x10000000 4 ∷ reads 0x10000000 4 ∷ [] }
unfolding program function_f function_main computing
counted = refl

valid : is_valid_program program ≡ true
unfolding program function_f function_main computing
valid = refl
