-- Entering a block with objects takes a key; the line of the ending is that of its `{`.
-- The text is rows/keys_spent_at_a_block.c, its tree by rows/trees.py.
--     int main(void){int x;int*p=&x;
--     putchar(65);
--
--     {int y;int*q=&y;*q=1;}
--     return 0;}
use Rattle.c_tree.specs.Programs.{Function, Program}
use Rattle.c_tree.specs.Statements.{expression_statement, declaration, return}
use Rattle.c_tree.specs.Tree.{automatic}
use Rattle.c_tree.specs.ValidProgram.{is_valid_program}
use Rattle.c_tree.specs.declared.c_type.TypeWord.TheVariants.{Gives, Integer as IntegerWord}
use Rattle.c_tree.specs.declared.expression.Routine.TheVariants.{Putchar}
use Rattle.obj_memory.specs.declared.int_type.IntType.TheVariants.{Int}
use Rattle.sb_base.specs.Budgets.{default_sizes}
use Rattle.source_meaning.specs.Meaning.{meaning}
use Rattle.source_meaning_rows.proofs.Samples.{int, pointer, number, plain, address, assign, library, lvalue, deref}
use Rattle.source_meaning_rows.proofs.Samples.{with_value, without_value, block_of, plain_variable, object_variable}
use Rattle.source_meaning_rows.proofs.Samples.{function_type, defined, program_of, computing, seen, exited, stopped}
use Rattle.std.proofs.Common.{◌∷◌, [], Some, ◌≡◌, refl, true}
use Rattle.std.specs.Prelude.{codes}

function_main : Function
function_main = defined 1 0 [] (object_variable int ∷ plain_variable pointer ∷ object_variable int ∷ plain_variable
    pointer ∷ []) 368
    (declaration (without_value 0 ∷ [])
    ∷ declaration (with_value 1 (address 1 (lvalue 1 int (automatic 0))) ∷ [])
    ∷ expression_statement (library 2 int Putchar (number 2 65 ∷ []))
    ∷ block_of 4 (declaration (without_value 2 ∷ [])
    ∷ declaration (with_value 3 (address 4 (lvalue 4 int (automatic 2))) ∷ [])
    ∷ expression_statement (assign 4 (deref 4 int (plain 4 pointer 3)) (number 4 1))
    ∷ [])
    ∷ return (Some (number 5 0))
    ∷ [])

program : Program
program = program_of
    []
    (function_type (Gives ∷ IntegerWord Int ∷ []) ([]) int
    ∷ [])
    (function_main ∷ [])
    0

run : seen (meaning program (record default_sizes { keys = 1 }) [] 20) ≡ stopped (codes "A") (codes
    "sbcets: keys exhausted at line 4\n") 126
unfolding program function_main computing
run = refl

enough : seen (meaning program (record default_sizes { keys = 2 }) [] 20) ≡ exited (codes "A") 0
unfolding program function_main computing
enough = refl

valid : is_valid_program program ≡ true
unfolding program function_main computing
valid = refl
