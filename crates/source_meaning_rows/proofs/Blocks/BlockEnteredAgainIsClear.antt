-- A block that is entered again has zero bytes and no tags: the pointer that was stored in it is null, and reaches
-- nothing.
-- The text is rows/block_entered_again_is_clear.c, its tree by rows/trees.py.
--     int z=9;int main(void){int i;for(i=0;i<2;i++){int a[2];int*q;int**r=&q;
--     if(i==1){putchar(48+a[0]);putchar(48+(*r==0));return *q;}
--     a[0]=7;q=&z;}return 0;}
use Rattle.c_tree.specs.Programs.{Function, Program}
use Rattle.c_tree.specs.Statements.{expression_statement, declaration, if_then, first_expression, for, return}
use Rattle.c_tree.specs.Tree.{automatic, static}
use Rattle.c_tree.specs.ValidProgram.{is_valid_program}
use Rattle.c_tree.specs.declared.c_type.TypeWord.TheVariants.{Gives, Integer as IntegerWord}
use Rattle.c_tree.specs.declared.expression.Fixity.TheVariants.{Postfix}
use Rattle.c_tree.specs.declared.expression.Kind.TheVariants.{Array}
use Rattle.c_tree.specs.declared.expression.Routine.TheVariants.{Putchar}
use Rattle.c_tree.specs.declared.expression.Update.TheVariants.{Arithmetic}
use Rattle.obj_memory.specs.declared.int_type.IntType.TheVariants.{Int}
use Rattle.obj_memory.specs.declared.operator.BinaryOperator.TheVariants.{Add, Less, Equal}
use Rattle.sb_base.specs.Budgets.{default_sizes}
use Rattle.source_meaning.specs.Meaning.{meaning}
use Rattle.source_meaning_rows.proofs.Samples.{int, pointer, number, plain, decay, address, parenthesized, convert}
use Rattle.source_meaning_rows.proofs.Samples.{binary, compare, assign, set_plain, step_plain, library, read, lvalue}
use Rattle.source_meaning_rows.proofs.Samples.{deref, index, content, part, with_value, without_value, block_of}
use Rattle.source_meaning_rows.proofs.Samples.{plain_variable, object_variable, static_object, function_type, defined}
use Rattle.source_meaning_rows.proofs.Samples.{program_of, computing, seen, stopped}
use Rattle.std.proofs.Common.{◌∷◌, [], Some, ◌≡◌, refl, true}
use Rattle.std.specs.Prelude.{codes}

function_main : Function
function_main = defined 1 0 [] (plain_variable int ∷ object_variable (Array 8) ∷ object_variable pointer ∷
    plain_variable pointer ∷ []) 408
    (declaration (without_value 0 ∷ [])
    ∷ for 1 (first_expression (set_plain 1 0 (number 1 0))) (Some (compare 1 Less (plain 1 int 0) (number 1 2))) (Some
    (step_plain 1 int (Arithmetic Add Int) Postfix 0)) (block_of 1 (declaration (without_value 1 ∷ [])
    ∷ declaration (without_value 2 ∷ [])
    ∷ declaration (with_value 3 (address 1 (lvalue 1 pointer (automatic 2))) ∷ [])
    ∷ if_then (compare 2 Equal (plain 2 int 0) (number 2 1)) (block_of 2 (expression_statement (library 2 int
    Putchar (binary 2 Add (number 2 48) (read (index 2 int (decay (lvalue 2 (Array 8) (automatic 1))) (number 2
    0))) ∷ []))
    ∷ expression_statement (library 2 int Putchar (binary 2 Add (number 2 48) (parenthesized (compare 2 Equal
    (read (deref 2 pointer (plain 2 pointer 3))) (convert pointer (number 2 0)))) ∷ []))
    ∷ return (Some (read (deref 2 int (read (lvalue 2 pointer (automatic 2))))))
    ∷ []))
    ∷ expression_statement (assign 3 (index 3 int (decay (lvalue 3 (Array 8) (automatic 1))) (number 3 0)) (number 3
    7))
    ∷ expression_statement (assign 3 (lvalue 3 pointer (automatic 2)) (address 3 (lvalue 3 int (static 0))))
    ∷ []))
    ∷ return (Some (number 3 0))
    ∷ [])

program : Program
program = program_of
    (static_object int (part 0 (content (number 1 9)) ∷ [])
    ∷ [])
    (function_type (Gives ∷ IntegerWord Int ∷ []) ([]) int
    ∷ [])
    (function_main ∷ [])
    0

run : seen (meaning program default_sizes [] 20) ≡ stopped (codes "01") (codes
    "sbcets: spatial violation at line 2\n") 120
unfolding program function_main computing
run = refl

valid : is_valid_program program ≡ true
unfolding program function_main computing
valid = refl
