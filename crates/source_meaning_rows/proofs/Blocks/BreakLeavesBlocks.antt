-- `break` leaves both blocks that it stands in (C99 6.8.6.3): the object of the inner one is dead behind the loop.
-- The text is rows/break_leaves_blocks.c, its tree by rows/trees.py.
--     int main(void){int*p;int i;for(i=0;i<2;i++){int x=i;p=&x;{int y=7;p=&y;break;}}
--     putchar(65);
--     return *p;}
use Rattle.c_tree.specs.Programs.{Function, Program}
use Rattle.c_tree.specs.Statements.{expression_statement, declaration, first_expression, for, break, return}
use Rattle.c_tree.specs.Tree.{automatic}
use Rattle.c_tree.specs.ValidProgram.{is_valid_program}
use Rattle.c_tree.specs.declared.c_type.TypeWord.TheVariants.{Gives, Integer as IntegerWord}
use Rattle.c_tree.specs.declared.expression.Fixity.TheVariants.{Postfix}
use Rattle.c_tree.specs.declared.expression.Routine.TheVariants.{Putchar}
use Rattle.c_tree.specs.declared.expression.Update.TheVariants.{Arithmetic}
use Rattle.obj_memory.specs.declared.int_type.IntType.TheVariants.{Int}
use Rattle.obj_memory.specs.declared.operator.BinaryOperator.TheVariants.{Add, Less}
use Rattle.sb_base.specs.Budgets.{default_sizes}
use Rattle.source_meaning.specs.Meaning.{meaning}
use Rattle.source_meaning_rows.proofs.Samples.{int, pointer, number, plain, address, compare, set_plain, step_plain}
use Rattle.source_meaning_rows.proofs.Samples.{library, read, lvalue, deref, content, part, with_parts, without_value}
use Rattle.source_meaning_rows.proofs.Samples.{block_of, plain_variable, object_variable, function_type, defined}
use Rattle.source_meaning_rows.proofs.Samples.{program_of, computing, seen, stopped}
use Rattle.std.proofs.Common.{◌∷◌, [], Some, ◌≡◌, refl, true}
use Rattle.std.specs.Prelude.{codes}

function_main : Function
function_main = defined 1 0 [] (plain_variable pointer ∷ plain_variable int ∷ object_variable int ∷ object_variable
    int ∷ []) 368
    (declaration (without_value 0 ∷ [])
    ∷ declaration (without_value 1 ∷ [])
    ∷ for 1 (first_expression (set_plain 1 1 (number 1 0))) (Some (compare 1 Less (plain 1 int 1) (number 1 2))) (Some
    (step_plain 1 int (Arithmetic Add Int) Postfix 1)) (block_of 1 (declaration (with_parts 2 (part 0 (content
    (plain 1 int 1)) ∷ []) ∷ [])
    ∷ expression_statement (set_plain 1 0 (address 1 (lvalue 1 int (automatic 2))))
    ∷ block_of 1 (declaration (with_parts 3 (part 0 (content (number 1 7)) ∷ []) ∷ [])
    ∷ expression_statement (set_plain 1 0 (address 1 (lvalue 1 int (automatic 3))))
    ∷ break
    ∷ [])
    ∷ []))
    ∷ expression_statement (library 2 int Putchar (number 2 65 ∷ []))
    ∷ return (Some (read (deref 3 int (plain 3 pointer 0))))
    ∷ [])

program : Program
program = program_of
    []
    (function_type (Gives ∷ IntegerWord Int ∷ []) ([]) int
    ∷ [])
    (function_main ∷ [])
    0

run : seen (meaning program default_sizes [] 20) ≡ stopped (codes "A") (codes
    "sbcets: temporal violation at line 3\n") 121
unfolding program function_main computing
run = refl

valid : is_valid_program program ≡ true
unfolding program function_main computing
valid = refl
