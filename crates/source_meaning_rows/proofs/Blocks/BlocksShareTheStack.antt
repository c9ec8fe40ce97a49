-- Where a block is left the top of the object stack goes back: two blocks of the whole stack follow each other, and the
-- second has
-- zero bytes.
-- The text is rows/blocks_share_the_stack.c, its tree by rows/trees.py.
--     int main(void){{char a[4096];a[0]=65;putchar(a[0]);}{char b[4096];putchar(66+b[0]);}return 0;}
use Rattle.c_tree.specs.Programs.{Function, Program}
use Rattle.c_tree.specs.Statements.{expression_statement, declaration, return}
use Rattle.c_tree.specs.Tree.{automatic}
use Rattle.c_tree.specs.ValidProgram.{is_valid_program}
use Rattle.c_tree.specs.declared.c_type.TypeWord.TheVariants.{Gives, Integer as IntegerWord}
use Rattle.c_tree.specs.declared.expression.Kind.TheVariants.{Array}
use Rattle.c_tree.specs.declared.expression.Routine.TheVariants.{Putchar}
use Rattle.obj_memory.specs.declared.int_type.IntType.TheVariants.{Char, Int}
use Rattle.obj_memory.specs.declared.operator.BinaryOperator.TheVariants.{Add}
use Rattle.sb_base.specs.Budgets.{default_sizes}
use Rattle.source_meaning.specs.Meaning.{meaning}
use Rattle.source_meaning_rows.proofs.Samples.{int, integer_kind, number, decay, convert, binary, assign, library, read}
use Rattle.source_meaning_rows.proofs.Samples.{lvalue, index, without_value, block_of, object_variable, function_type}
use Rattle.source_meaning_rows.proofs.Samples.{defined, program_of, computing, seen, exited}
use Rattle.std.proofs.Common.{◌∷◌, [], Some, ◌≡◌, refl, true}
use Rattle.std.specs.Prelude.{codes}

function_main : Function
function_main = defined 1 0 [] (object_variable (Array 4096) ∷ object_variable (Array 4096) ∷ []) 328
    (block_of 1 (declaration (without_value 0 ∷ [])
    ∷ expression_statement (assign 1 (index 1 (integer_kind Char) (decay (lvalue 1 (Array 4096) (automatic 0)))
    (number 1 0)) (convert (integer_kind Char) (number 1 65)))
    ∷ expression_statement (library 1 int Putchar (convert int (read (index 1 (integer_kind Char) (decay (lvalue 1
    (Array 4096) (automatic 0))) (number 1 0))) ∷ []))
    ∷ [])
    ∷ block_of 1 (declaration (without_value 1 ∷ [])
    ∷ expression_statement (library 1 int Putchar (binary 1 Add (number 1 66) (convert int (read (index 1
    (integer_kind Char) (decay (lvalue 1 (Array 4096) (automatic 1))) (number 1 0)))) ∷ []))
    ∷ [])
    ∷ return (Some (number 1 0))
    ∷ [])

program : Program
program = program_of
    []
    (function_type (Gives ∷ IntegerWord Int ∷ []) ([]) int
    ∷ [])
    (function_main ∷ [])
    0

run : seen (meaning program (record default_sizes { stack = 4096 }) [] 20) ≡ exited (codes "AB") 0
unfolding program function_main computing
run = refl

valid : is_valid_program program ≡ true
unfolding program function_main computing
valid = refl
