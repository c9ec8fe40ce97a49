-- At the entry of a block the object stack is tested before the keys.
-- The text is rows/stack_tested_before_keys.c, its tree by rows/trees.py.
--     int main(void){int x;int*p=&x;
--     {char b[5000];b[0]=1;}return 0;}
use Rattle.c_tree.specs.Programs.{Function, Program}
use Rattle.c_tree.specs.Statements.{expression_statement, declaration, return}
use Rattle.c_tree.specs.Tree.{automatic}
use Rattle.c_tree.specs.ValidProgram.{is_valid_program}
use Rattle.c_tree.specs.declared.c_type.TypeWord.TheVariants.{Gives, Integer as IntegerWord}
use Rattle.c_tree.specs.declared.expression.Kind.TheVariants.{Array}
use Rattle.obj_memory.specs.declared.int_type.IntType.TheVariants.{Char, Int}
use Rattle.sb_base.specs.Budgets.{default_sizes}
use Rattle.source_meaning.specs.Meaning.{meaning}
use Rattle.source_meaning_rows.proofs.Samples.{int, pointer, integer_kind, number, decay, address, convert, assign}
use Rattle.source_meaning_rows.proofs.Samples.{lvalue, index, with_value, without_value, block_of, plain_variable}
use Rattle.source_meaning_rows.proofs.Samples.{object_variable, function_type, defined, program_of, computing, seen}
use Rattle.source_meaning_rows.proofs.Samples.{stopped}
use Rattle.std.proofs.Common.{◌∷◌, [], Some, ◌≡◌, refl, true}
use Rattle.std.specs.Prelude.{codes}

function_main : Function
function_main = defined 1 0 [] (object_variable int ∷ plain_variable pointer ∷ object_variable (Array 5000) ∷ []) 328
    (declaration (without_value 0 ∷ [])
    ∷ declaration (with_value 1 (address 1 (lvalue 1 int (automatic 0))) ∷ [])
    ∷ block_of 2 (declaration (without_value 2 ∷ [])
    ∷ expression_statement (assign 2 (index 2 (integer_kind Char) (decay (lvalue 2 (Array 5000) (automatic 2)))
    (number 2 0)) (convert (integer_kind Char) (number 2 1)))
    ∷ [])
    ∷ return (Some (number 2 0))
    ∷ [])

program : Program
program = program_of
    []
    (function_type (Gives ∷ IntegerWord Int ∷ []) ([]) int
    ∷ [])
    (function_main ∷ [])
    0

run : seen (meaning program (record default_sizes { stack = 4096; keys = 1 }) [] 20) ≡ stopped [] (codes
    "sbcets: stack exhausted at line 2\n") 125
unfolding program function_main computing
run = refl

keys_alone : seen (meaning program (record default_sizes { keys = 1 }) [] 20) ≡ stopped [] (codes
    "sbcets: keys exhausted at line 2\n") 126
unfolding program function_main computing
keys_alone = refl

valid : is_valid_program program ≡ true
unfolding program function_main computing
valid = refl
