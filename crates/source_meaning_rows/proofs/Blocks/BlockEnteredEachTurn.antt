-- The body's block is entered anew each turn, with zero bytes and a key of its own: three keys, and with two the third
-- entry ends
-- the run, with the line of the block's `{`. Work: the call, the body and the return 4, i 1, the statement and its
-- first part
-- 4, four conditions 12, three steps 6; each entered block 10, of which 9 place the array, and 19 for its statements.
-- The text is rows/block_entered_each_turn.c, its tree by rows/trees.py.
--     int main(void){int i;for(i=0;i<3;i++){int a[2];a[0]=i;putchar(65+a[0]+a[1]);}return 0;}
use Rattle.c_tree.specs.Programs.{Function, Program}
use Rattle.c_tree.specs.Statements.{expression_statement, declaration, first_expression, for, return}
use Rattle.c_tree.specs.Tree.{automatic}
use Rattle.c_tree.specs.ValidProgram.{is_valid_program}
use Rattle.c_tree.specs.declared.c_type.TypeWord.TheVariants.{Gives, Integer as IntegerWord}
use Rattle.c_tree.specs.declared.expression.Fixity.TheVariants.{Postfix}
use Rattle.c_tree.specs.declared.expression.Kind.TheVariants.{Array}
use Rattle.c_tree.specs.declared.expression.Routine.TheVariants.{Putchar}
use Rattle.c_tree.specs.declared.expression.Update.TheVariants.{Arithmetic}
use Rattle.obj_memory.specs.declared.int_type.IntType.TheVariants.{Int}
use Rattle.obj_memory.specs.declared.operator.BinaryOperator.TheVariants.{Add, Less}
use Rattle.sb_base.specs.Budgets.{default_sizes}
use Rattle.source_meaning.specs.Meaning.{meaning}
use Rattle.source_meaning_rows.proofs.Samples.{int, number, plain, decay, binary, compare, assign, set_plain}
use Rattle.source_meaning_rows.proofs.Samples.{step_plain, library, read, lvalue, index, without_value, block_of}
use Rattle.source_meaning_rows.proofs.Samples.{plain_variable, object_variable, function_type, defined, program_of}
use Rattle.source_meaning_rows.proofs.Samples.{computing, seen, counts, exited, stopped, reads, writes}
use Rattle.std.proofs.Common.{◌∷◌, [], Some, ◌≡◌, refl, true}
use Rattle.std.specs.Prelude.{codes}

function_main : Function
function_main = defined 1 0 [] (plain_variable int ∷ object_variable (Array 8) ∷ []) 328
    (declaration (without_value 0 ∷ [])
    ∷ for 1 (first_expression (set_plain 1 0 (number 1 0))) (Some (compare 1 Less (plain 1 int 0) (number 1 3))) (Some
    (step_plain 1 int (Arithmetic Add Int) Postfix 0)) (block_of 1 (declaration (without_value 1 ∷ [])
    ∷ expression_statement (assign 1 (index 1 int (decay (lvalue 1 (Array 8) (automatic 1))) (number 1 0)) (plain 1
    int 0))
    ∷ expression_statement (library 1 int Putchar (binary 1 Add (binary 1 Add (number 1 65) (read (index 1 int
    (decay (lvalue 1 (Array 8) (automatic 1))) (number 1 0)))) (read (index 1 int (decay (lvalue 1 (Array 8)
    (automatic 1))) (number 1 1))) ∷ []))
    ∷ []))
    ∷ return (Some (number 1 0))
    ∷ [])

program : Program
program = program_of
    []
    (function_type (Gives ∷ IntegerWord Int ∷ []) ([]) int
    ∷ [])
    (function_main ∷ [])
    0

run : seen (meaning program default_sizes [] 20) ≡ exited (codes "ABC") 0
unfolding program function_main computing
run = refl

counted : counts (meaning program default_sizes [] 20) ≡ record {
  turns = 4;
  work = 114;
  accesses = writes 0x10000000
      4 ∷ reads 0x10000000 4 ∷ reads 0x10000004 4 ∷ writes 0x10000000 4 ∷ reads 0x10000000 4 ∷ reads 0x10000004 4 ∷
      writes 0x10000000 4 ∷ reads 0x10000000 4 ∷ reads 0x10000004 4 ∷ [];
}
unfolding program function_main computing
counted = refl

two_keys : seen (meaning program (record default_sizes { keys = 2 }) [] 20) ≡ stopped (codes "AB") (codes
    "sbcets: keys exhausted at line 1\n") 126
unfolding program function_main computing
two_keys = refl

valid : is_valid_program program ≡ true
unfolding program function_main computing
valid = refl
