-- A block that is entered again takes a new key: the same address, and the pointer of the first entry is refused.
-- The text is rows/block_entered_again_has_a_new_key.c, its tree by rows/trees.py.
--     int main(void){int*p=0;int i;for(i=0;i<2;i++){int x;
--     if(p==&x){putchar(61);return *p;}
--     x=5;p=&x;}return 0;}
use Rattle.c_tree.specs.Programs.{Function, Program}
use Rattle.c_tree.specs.Statements.{expression_statement, declaration, if_then, first_expression, for, return}
use Rattle.c_tree.specs.Tree.{automatic}
use Rattle.c_tree.specs.ValidProgram.{is_valid_program}
use Rattle.c_tree.specs.declared.c_type.TypeWord.TheVariants.{Gives, Integer as IntegerWord}
use Rattle.c_tree.specs.declared.expression.Fixity.TheVariants.{Postfix}
use Rattle.c_tree.specs.declared.expression.Routine.TheVariants.{Putchar}
use Rattle.c_tree.specs.declared.expression.Update.TheVariants.{Arithmetic}
use Rattle.obj_memory.specs.declared.int_type.IntType.TheVariants.{Int}
use Rattle.obj_memory.specs.declared.operator.BinaryOperator.TheVariants.{Add, Less, Equal}
use Rattle.sb_base.specs.Budgets.{default_sizes}
use Rattle.source_meaning.specs.Meaning.{meaning}
use Rattle.source_meaning_rows.proofs.Samples.{int, pointer, number, plain, address, convert, compare, assign}
use Rattle.source_meaning_rows.proofs.Samples.{set_plain, step_plain, library, read, lvalue, deref, with_value}
use Rattle.source_meaning_rows.proofs.Samples.{without_value, block_of, plain_variable, object_variable, function_type}
use Rattle.source_meaning_rows.proofs.Samples.{defined, program_of, computing, seen, stopped}
use Rattle.std.proofs.Common.{◌∷◌, [], Some, ◌≡◌, refl, true}
use Rattle.std.specs.Prelude.{codes}

function_main : Function
function_main = defined 1 0 [] (plain_variable pointer ∷ plain_variable int ∷ object_variable int ∷ []) 328
    (declaration (with_value 0 (convert pointer (number 1 0)) ∷ [])
    ∷ declaration (without_value 1 ∷ [])
    ∷ for 1 (first_expression (set_plain 1 1 (number 1 0))) (Some (compare 1 Less (plain 1 int 1) (number 1 2))) (Some
    (step_plain 1 int (Arithmetic Add Int) Postfix 1)) (block_of 1 (declaration (without_value 2 ∷ [])
    ∷ if_then (compare 2 Equal (plain 2 pointer 0) (address 2 (lvalue 2 int (automatic 2)))) (block_of 2
    (expression_statement (library 2 int Putchar (number 2 61 ∷ []))
    ∷ return (Some (read (deref 2 int (plain 2 pointer 0))))
    ∷ []))
    ∷ expression_statement (assign 3 (lvalue 3 int (automatic 2)) (number 3 5))
    ∷ expression_statement (set_plain 3 0 (address 3 (lvalue 3 int (automatic 2))))
    ∷ []))
    ∷ return (Some (number 3 0))
    ∷ [])

program : Program
program = program_of
    []
    (function_type (Gives ∷ IntegerWord Int ∷ []) ([]) int
    ∷ [])
    (function_main ∷ [])
    0

run : seen (meaning program default_sizes [] 20) ≡ stopped (codes "=") (codes
    "sbcets: temporal violation at line 2\n") 121
unfolding program function_main computing
run = refl

valid : is_valid_program program ≡ true
unfolding program function_main computing
valid = refl
