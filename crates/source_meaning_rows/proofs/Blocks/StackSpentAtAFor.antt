-- A `for` with a declaration is a block around the loop (C99 6.8.5 paragraph 5), whose line is that of the word.
-- The text is rows/stack_spent_at_a_for.c, its tree by rows/trees.py.
--     int main(void){
--     putchar(65);for
--     (int a[2000];;){a[0]=1;return 0;}}
use Rattle.c_tree.specs.Programs.{Function, Program}
use Rattle.c_tree.specs.Statements.{expression_statement, first_declaration, for, return}
use Rattle.c_tree.specs.Tree.{automatic}
use Rattle.c_tree.specs.ValidProgram.{is_valid_program}
use Rattle.c_tree.specs.declared.c_type.TypeWord.TheVariants.{Gives, Integer as IntegerWord}
use Rattle.c_tree.specs.declared.expression.Kind.TheVariants.{Array}
use Rattle.c_tree.specs.declared.expression.Routine.TheVariants.{Putchar}
use Rattle.obj_memory.specs.declared.int_type.IntType.TheVariants.{Int}
use Rattle.sb_base.specs.Budgets.{default_sizes}
use Rattle.source_meaning.specs.Meaning.{meaning}
use Rattle.source_meaning_rows.proofs.Samples.{int, number, decay, assign, library, lvalue, index, without_value}
use Rattle.source_meaning_rows.proofs.Samples.{block_of, object_variable, function_type, defined, program_of, computing}
use Rattle.source_meaning_rows.proofs.Samples.{seen, exited, stopped}
use Rattle.std.proofs.Common.{◌∷◌, [], Some, None, ◌≡◌, refl, true}
use Rattle.std.specs.Prelude.{codes}

function_main : Function
function_main = defined 1 0 [] (object_variable (Array 8000) ∷ []) 248
    (expression_statement (library 2 int Putchar (number 2 65 ∷ []))
    ∷ for 2 (first_declaration (without_value 0 ∷ [])) None None (block_of 3 (expression_statement (assign 3 (index 3
    int (decay (lvalue 3 (Array 8000) (automatic 0))) (number 3 0)) (number 3 1))
    ∷ return (Some (number 3 0))
    ∷ []))
    ∷ [])

program : Program
program = program_of
    []
    (function_type (Gives ∷ IntegerWord Int ∷ []) ([]) int
    ∷ [])
    (function_main ∷ [])
    0

run : seen (meaning program (record default_sizes { stack = 4096 }) [] 20) ≡ stopped (codes "A") (codes
    "sbcets: stack exhausted at line 2\n") 125
unfolding program function_main computing
run = refl

enough : seen (meaning program default_sizes [] 20) ≡ exited (codes "A") 0
unfolding program function_main computing
enough = refl

valid : is_valid_program program ≡ true
unfolding program function_main computing
valid = refl
