-- A parameter that is an object belongs to the body's block: it lives where an inner block has been left.
-- The text is rows/parameter_belongs_to_the_body.c, its tree by rows/trees.py.
--     int f(int x){int*p=&x;{int y=1;int*q=&y;*q=2;}*p=*p+1;return x;}int main(void){return f(6);}
use Rattle.c_tree.specs.Programs.{Function, Program}
use Rattle.c_tree.specs.Statements.{expression_statement, declaration, return}
use Rattle.c_tree.specs.Tree.{automatic}
use Rattle.c_tree.specs.ValidProgram.{is_valid_program}
use Rattle.c_tree.specs.declared.c_type.TypeWord.TheVariants.{Takes, Gives, Integer as IntegerWord}
use Rattle.obj_memory.specs.declared.int_type.IntType.TheVariants.{Int}
use Rattle.obj_memory.specs.declared.operator.BinaryOperator.TheVariants.{Add}
use Rattle.sb_base.specs.Budgets.{default_sizes}
use Rattle.source_meaning.specs.Meaning.{meaning}
use Rattle.source_meaning_rows.proofs.Samples.{int, pointer, number, plain, address, binary, assign, call, read, lvalue}
use Rattle.source_meaning_rows.proofs.Samples.{deref, content, part, with_value, with_parts, block_of, plain_variable}
use Rattle.source_meaning_rows.proofs.Samples.{object_variable, function_type, defined, program_of, computing, seen}
use Rattle.source_meaning_rows.proofs.Samples.{exited}
use Rattle.std.proofs.Common.{◌∷◌, [], Some, ◌≡◌, refl, true}

function_f : Function
function_f = defined 1 0 (object_variable int ∷ []) (plain_variable pointer ∷ object_variable int ∷ plain_variable
    pointer ∷ []) 440
    (declaration (with_value 1 (address 1 (lvalue 1 int (automatic 0))) ∷ [])
    ∷ block_of 1 (declaration (with_parts 2 (part 0 (content (number 1 1)) ∷ []) ∷ [])
    ∷ declaration (with_value 3 (address 1 (lvalue 1 int (automatic 2))) ∷ [])
    ∷ expression_statement (assign 1 (deref 1 int (plain 1 pointer 3)) (number 1 2))
    ∷ [])
    ∷ expression_statement (assign 1 (deref 1 int (plain 1 pointer 1)) (binary 1 Add (read (deref 1 int (plain 1
    pointer 1))) (number 1 1)))
    ∷ return (Some (read (lvalue 1 int (automatic 0))))
    ∷ [])

function_main : Function
function_main = defined 1 1 [] [] 168
    (return (Some (call 1 int 0 (number 1 6 ∷ [])))
    ∷ [])

program : Program
program = program_of
    []
    (function_type (Takes ∷ IntegerWord Int ∷ Gives ∷ IntegerWord Int ∷ []) (int ∷ []) int
    ∷ function_type (Gives ∷ IntegerWord Int ∷ []) ([]) int
    ∷ [])
    (function_f ∷ function_main ∷ [])
    1

run : seen (meaning program default_sizes [] 20) ≡ exited [] 7
unfolding program function_f function_main computing
run = refl

valid : is_valid_program program ≡ true
unfolding program function_f function_main computing
valid = refl
