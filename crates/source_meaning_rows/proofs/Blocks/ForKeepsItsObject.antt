-- The object that a `for` declares lives through all turns, and dies where the loop is left.
-- The text is rows/for_keeps_its_object.c, its tree by rows/trees.py.
--     int main(void){int*p=0;for(int i=0;i<2;i++){int*q=&i;if(p)*p=5;p=q;putchar(48+i);}
--     return *p;}
use Rattle.c_tree.specs.Programs.{Function, Program}
use Rattle.c_tree.specs.Statements.{expression_statement, declaration, if_then, first_declaration, for, return}
use Rattle.c_tree.specs.Tree.{automatic}
use Rattle.c_tree.specs.ValidProgram.{is_valid_program}
use Rattle.c_tree.specs.declared.c_type.TypeWord.TheVariants.{Gives, Integer as IntegerWord}
use Rattle.c_tree.specs.declared.expression.Fixity.TheVariants.{Postfix}
use Rattle.c_tree.specs.declared.expression.Routine.TheVariants.{Putchar}
use Rattle.c_tree.specs.declared.expression.Update.TheVariants.{Arithmetic}
use Rattle.obj_memory.specs.declared.int_type.IntType.TheVariants.{Int}
use Rattle.obj_memory.specs.declared.operator.BinaryOperator.TheVariants.{Add, Less}
use Rattle.sb_base.specs.Budgets.{default_sizes}
use Rattle.source_meaning.specs.Meaning.{meaning}
use Rattle.source_meaning_rows.proofs.Samples.{int, pointer, number, plain, address, convert, binary, compare, assign}
use Rattle.source_meaning_rows.proofs.Samples.{set_plain, step, library, read, lvalue, deref, content, part, with_value}
use Rattle.source_meaning_rows.proofs.Samples.{with_parts, block_of, plain_variable, object_variable, function_type}
use Rattle.source_meaning_rows.proofs.Samples.{defined, program_of, computing, seen, stopped}
use Rattle.std.proofs.Common.{◌∷◌, [], Some, ◌≡◌, refl, true}
use Rattle.std.specs.Prelude.{codes}

function_main : Function
function_main = defined 1 0 [] (plain_variable pointer ∷ object_variable int ∷ plain_variable pointer ∷ []) 328
    (declaration (with_value 0 (convert pointer (number 1 0)) ∷ [])
    ∷ for 1 (first_declaration (with_parts 1 (part 0 (content (number 1 0)) ∷ []) ∷ [])) (Some (compare 1 Less (read
    (lvalue 1 int (automatic 1))) (number 1 2))) (Some (step 1 (Arithmetic Add Int) Postfix (lvalue 1 int
    (automatic 1)))) (block_of 1 (declaration (with_value 2 (address 1 (lvalue 1 int (automatic 1))) ∷ [])
    ∷ if_then (plain 1 pointer 0) (expression_statement (assign 1 (deref 1 int (plain 1 pointer 0)) (number 1 5)))
    ∷ expression_statement (set_plain 1 0 (plain 1 pointer 2))
    ∷ expression_statement (library 1 int Putchar (binary 1 Add (number 1 48) (read (lvalue 1 int (automatic 1))) ∷
    []))
    ∷ []))
    ∷ return (Some (read (deref 2 int (plain 2 pointer 0))))
    ∷ [])

program : Program
program = program_of
    []
    (function_type (Gives ∷ IntegerWord Int ∷ []) ([]) int
    ∷ [])
    (function_main ∷ [])
    0

run : seen (meaning program default_sizes [] 20) ≡ stopped (codes "05") (codes
    "sbcets: temporal violation at line 2\n") 121
unfolding program function_main computing
run = refl

valid : is_valid_program program ≡ true
unfolding program function_main computing
valid = refl
