-- `continue` leaves both blocks that it stands in (C99 6.8.6.2): at the second turn an object of the same address is
-- placed, and the
-- pointer to the first one is refused.
-- The text is rows/continue_leaves_blocks.c, its tree by rows/trees.py.
--     int main(void){int*p=0;int i;for(i=0;i<2;i++){int x=65+i;int*r=&x;{int y;int*q=&y;
--     if(p){putchar(*r);putchar(48+(p==q));return *p;}
--     p=q;*q=1;continue;}}return 0;}
use Rattle.c_tree.specs.Programs.{Function, Program}
use Rattle.c_tree.specs.Statements.{expression_statement, declaration, if_then, first_expression, for, continue, return}
use Rattle.c_tree.specs.Tree.{automatic}
use Rattle.c_tree.specs.ValidProgram.{is_valid_program}
use Rattle.c_tree.specs.declared.c_type.TypeWord.TheVariants.{Gives, Integer as IntegerWord}
use Rattle.c_tree.specs.declared.expression.Fixity.TheVariants.{Postfix}
use Rattle.c_tree.specs.declared.expression.Routine.TheVariants.{Putchar}
use Rattle.c_tree.specs.declared.expression.Update.TheVariants.{Arithmetic}
use Rattle.obj_memory.specs.declared.int_type.IntType.TheVariants.{Int}
use Rattle.obj_memory.specs.declared.operator.BinaryOperator.TheVariants.{Add, Less, Equal}
use Rattle.sb_base.specs.Budgets.{default_sizes}
use Rattle.source_meaning.specs.Meaning.{meaning}
use Rattle.source_meaning_rows.proofs.Samples.{int, pointer, number, plain, address, parenthesized, convert, binary}
use Rattle.source_meaning_rows.proofs.Samples.{compare, assign, set_plain, step_plain, library, read, lvalue, deref}
use Rattle.source_meaning_rows.proofs.Samples.{content, part, with_value, with_parts, without_value, block_of}
use Rattle.source_meaning_rows.proofs.Samples.{plain_variable, object_variable, function_type, defined, program_of}
use Rattle.source_meaning_rows.proofs.Samples.{computing, seen, stopped}
use Rattle.std.proofs.Common.{◌∷◌, [], Some, ◌≡◌, refl, true}
use Rattle.std.specs.Prelude.{codes}

function_main : Function
function_main = defined 1 0 [] (plain_variable pointer ∷ plain_variable int ∷ object_variable int ∷ plain_variable
    pointer ∷ object_variable int ∷ plain_variable pointer ∷ []) 488
    (declaration (with_value 0 (convert pointer (number 1 0)) ∷ [])
    ∷ declaration (without_value 1 ∷ [])
    ∷ for 1 (first_expression (set_plain 1 1 (number 1 0))) (Some (compare 1 Less (plain 1 int 1) (number 1 2))) (Some
    (step_plain 1 int (Arithmetic Add Int) Postfix 1)) (block_of 1 (declaration (with_parts 2 (part 0 (content
    (binary 1 Add (number 1 65) (plain 1 int 1))) ∷ []) ∷ [])
    ∷ declaration (with_value 3 (address 1 (lvalue 1 int (automatic 2))) ∷ [])
    ∷ block_of 1 (declaration (without_value 4 ∷ [])
    ∷ declaration (with_value 5 (address 1 (lvalue 1 int (automatic 4))) ∷ [])
    ∷ if_then (plain 2 pointer 0) (block_of 2 (expression_statement (library 2 int Putchar (read (deref 2 int
    (plain 2 pointer 3)) ∷ []))
    ∷ expression_statement (library 2 int Putchar (binary 2 Add (number 2 48) (parenthesized (compare 2 Equal
    (plain 2 pointer 0) (plain 2 pointer 5))) ∷ []))
    ∷ return (Some (read (deref 2 int (plain 2 pointer 0))))
    ∷ []))
    ∷ expression_statement (set_plain 3 0 (plain 3 pointer 5))
    ∷ expression_statement (assign 3 (deref 3 int (plain 3 pointer 5)) (number 3 1))
    ∷ continue
    ∷ [])
    ∷ []))
    ∷ return (Some (number 3 0))
    ∷ [])

program : Program
program = program_of
    []
    (function_type (Gives ∷ IntegerWord Int ∷ []) ([]) int
    ∷ [])
    (function_main ∷ [])
    0

run : seen (meaning program default_sizes [] 20) ≡ stopped (codes "B1") (codes
    "sbcets: temporal violation at line 2\n") 121
unfolding program function_main computing
run = refl

valid : is_valid_program program ≡ true
unfolding program function_main computing
valid = refl
