-- `return` leaves all blocks of its function (C99 6.8.6.4): the objects of each are dead behind it.
-- The text is rows/return_leaves_blocks.c, its tree by rows/trees.py.
--     int*f(int n){int x=1;int*p=&x;{int y=2;p=&y;{int z=3;int*q=&z;if(n)return q;return p;}}}
--     int main(void){int*p=f(1);int*q=f(0);putchar(65);
--     return *q;}
use Rattle.c_tree.specs.Programs.{Function, Program}
use Rattle.c_tree.specs.Statements.{expression_statement, declaration, if_then, return}
use Rattle.c_tree.specs.Tree.{automatic}
use Rattle.c_tree.specs.ValidProgram.{is_valid_program}
use Rattle.c_tree.specs.declared.c_type.TypeWord.TheVariants.{Takes, Gives, Integer as IntegerWord}
use Rattle.c_tree.specs.declared.c_type.TypeWord.TheVariants.{Pointer as PointerWord}
use Rattle.c_tree.specs.declared.expression.Routine.TheVariants.{Putchar}
use Rattle.obj_memory.specs.declared.int_type.IntType.TheVariants.{Int}
use Rattle.sb_base.specs.Budgets.{default_sizes}
use Rattle.source_meaning.specs.Meaning.{meaning}
use Rattle.source_meaning_rows.proofs.Samples.{int, pointer, number, plain, address, set_plain, call, library, read}
use Rattle.source_meaning_rows.proofs.Samples.{lvalue, deref, content, part, with_value, with_parts, block_of}
use Rattle.source_meaning_rows.proofs.Samples.{plain_variable, object_variable, function_type, defined, program_of}
use Rattle.source_meaning_rows.proofs.Samples.{computing, seen, stopped}
use Rattle.std.proofs.Common.{◌∷◌, [], Some, ◌≡◌, refl, true}
use Rattle.std.specs.Prelude.{codes}

function_f : Function
function_f = defined 1 0 (plain_variable int ∷ []) (object_variable int ∷ plain_variable pointer ∷ object_variable int
    ∷ object_variable int ∷ plain_variable pointer ∷ []) 480
    (declaration (with_parts 1 (part 0 (content (number 1 1)) ∷ []) ∷ [])
    ∷ declaration (with_value 2 (address 1 (lvalue 1 int (automatic 1))) ∷ [])
    ∷ block_of 1 (declaration (with_parts 3 (part 0 (content (number 1 2)) ∷ []) ∷ [])
    ∷ expression_statement (set_plain 1 2 (address 1 (lvalue 1 int (automatic 3))))
    ∷ block_of 1 (declaration (with_parts 4 (part 0 (content (number 1 3)) ∷ []) ∷ [])
    ∷ declaration (with_value 5 (address 1 (lvalue 1 int (automatic 4))) ∷ [])
    ∷ if_then (plain 1 int 0) (return (Some (plain 1 pointer 5)))
    ∷ return (Some (plain 1 pointer 2))
    ∷ [])
    ∷ [])
    ∷ [])

function_main : Function
function_main = defined 2 1 [] (plain_variable pointer ∷ plain_variable pointer ∷ []) 248
    (declaration (with_value 0 (call 2 pointer 0 (number 2 1 ∷ [])) ∷ [])
    ∷ declaration (with_value 1 (call 2 pointer 0 (number 2 0 ∷ [])) ∷ [])
    ∷ expression_statement (library 2 int Putchar (number 2 65 ∷ []))
    ∷ return (Some (read (deref 3 int (plain 3 pointer 1))))
    ∷ [])

program : Program
program = program_of
    []
    (function_type (Takes ∷ IntegerWord Int ∷ Gives ∷ PointerWord ∷ IntegerWord Int ∷ []) (int ∷ []) pointer
    ∷ function_type (Gives ∷ IntegerWord Int ∷ []) ([]) int
    ∷ [])
    (function_f ∷ function_main ∷ [])
    1

run : seen (meaning program default_sizes [] 20) ≡ stopped (codes "A") (codes
    "sbcets: temporal violation at line 3\n") 121
unfolding program function_f function_main computing
run = refl

valid : is_valid_program program ≡ true
unfolding program function_f function_main computing
valid = refl
