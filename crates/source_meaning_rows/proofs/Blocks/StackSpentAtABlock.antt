-- The objects of a block that pass the object stack end the run where it is entered, with the line of its `{`.
-- The text is rows/stack_spent_at_a_block.c, its tree by rows/trees.py.
--     int main(void){putchar(65);
--     {char b[5000];b[0]=1;}
--     return 0;}
use Rattle.c_tree.specs.Programs.{Function, Program}
use Rattle.c_tree.specs.Statements.{expression_statement, declaration, return}
use Rattle.c_tree.specs.Tree.{automatic}
use Rattle.c_tree.specs.ValidProgram.{is_valid_program}
use Rattle.c_tree.specs.declared.c_type.TypeWord.TheVariants.{Gives, Integer as IntegerWord}
use Rattle.c_tree.specs.declared.expression.Kind.TheVariants.{Array}
use Rattle.c_tree.specs.declared.expression.Routine.TheVariants.{Putchar}
use Rattle.obj_memory.specs.declared.int_type.IntType.TheVariants.{Char, Int}
use Rattle.sb_base.specs.Budgets.{default_sizes}
use Rattle.source_meaning.specs.Meaning.{meaning}
use Rattle.source_meaning_rows.proofs.Samples.{int, integer_kind, number, decay, convert, assign, library, lvalue}
use Rattle.source_meaning_rows.proofs.Samples.{index, without_value, block_of, object_variable, function_type, defined}
use Rattle.source_meaning_rows.proofs.Samples.{program_of, computing, seen, exited, stopped}
use Rattle.std.proofs.Common.{◌∷◌, [], Some, ◌≡◌, refl, true}
use Rattle.std.specs.Prelude.{codes}

function_main : Function
function_main = defined 1 0 [] (object_variable (Array 5000) ∷ []) 248
    (expression_statement (library 1 int Putchar (number 1 65 ∷ []))
    ∷ block_of 2 (declaration (without_value 0 ∷ [])
    ∷ expression_statement (assign 2 (index 2 (integer_kind Char) (decay (lvalue 2 (Array 5000) (automatic 0)))
    (number 2 0)) (convert (integer_kind Char) (number 2 1)))
    ∷ [])
    ∷ return (Some (number 3 0))
    ∷ [])

program : Program
program = program_of
    []
    (function_type (Gives ∷ IntegerWord Int ∷ []) ([]) int
    ∷ [])
    (function_main ∷ [])
    0

run : seen (meaning program (record default_sizes { stack = 4096 }) [] 20) ≡ stopped (codes "A") (codes
    "sbcets: stack exhausted at line 2\n") 125
unfolding program function_main computing
run = refl

enough : seen (meaning program default_sizes [] 20) ≡ exited (codes "A") 0
unfolding program function_main computing
enough = refl

valid : is_valid_program program ≡ true
unfolding program function_main computing
valid = refl
