-- The value of a `return` is found before the blocks are left, and the top of the object stack goes back: the second
-- call places its
-- objects where the first did. Work: the call of main, its body, the return and the sum 4; for each call 3, the plain
-- variables 2, x
-- and y placed 5 each and their initializers 5 each, those of the pointers 2 each, the block 1, the return 6.
-- The text is rows/return_finds_its_value_first.c, its tree by rows/trees.py.
--     int f(void){int x=1;int*p=&x;{int y=2;int*q=&y;return *p+*q;}}int main(void){return f()+f();}
use Rattle.c_tree.specs.Programs.{Function, Program}
use Rattle.c_tree.specs.Statements.{declaration, return}
use Rattle.c_tree.specs.Tree.{automatic}
use Rattle.c_tree.specs.ValidProgram.{is_valid_program}
use Rattle.c_tree.specs.declared.c_type.TypeWord.TheVariants.{Gives, Integer as IntegerWord}
use Rattle.obj_memory.specs.declared.int_type.IntType.TheVariants.{Int}
use Rattle.obj_memory.specs.declared.operator.BinaryOperator.TheVariants.{Add}
use Rattle.sb_base.specs.Budgets.{default_sizes}
use Rattle.source_meaning.specs.Meaning.{meaning}
use Rattle.source_meaning_rows.proofs.Samples.{int, pointer, number, plain, address, binary, call, read, lvalue, deref}
use Rattle.source_meaning_rows.proofs.Samples.{content, part, with_value, with_parts, block_of, plain_variable}
use Rattle.source_meaning_rows.proofs.Samples.{object_variable, function_type, defined, program_of, computing, seen}
use Rattle.source_meaning_rows.proofs.Samples.{counts, exited, reads, writes}
use Rattle.std.proofs.Common.{◌∷◌, [], Some, ◌≡◌, refl, true}

function_f : Function
function_f = defined 1 0 [] (object_variable int ∷ plain_variable pointer ∷ object_variable int ∷ plain_variable
    pointer ∷ []) 368
    (declaration (with_parts 0 (part 0 (content (number 1 1)) ∷ []) ∷ [])
    ∷ declaration (with_value 1 (address 1 (lvalue 1 int (automatic 0))) ∷ [])
    ∷ block_of 1 (declaration (with_parts 2 (part 0 (content (number 1 2)) ∷ []) ∷ [])
    ∷ declaration (with_value 3 (address 1 (lvalue 1 int (automatic 2))) ∷ [])
    ∷ return (Some (binary 1 Add (read (deref 1 int (plain 1 pointer 1))) (read (deref 1 int (plain 1 pointer 3)))))
    ∷ [])
    ∷ [])

function_main : Function
function_main = defined 1 0 [] [] 208
    (return (Some (binary 1 Add (call 1 int 0 []) (call 1 int 0 [])))
    ∷ [])

program : Program
program = program_of
    []
    (function_type (Gives ∷ IntegerWord Int ∷ []) ([]) int
    ∷ [])
    (function_f ∷ function_main ∷ [])
    1

run : seen (meaning program default_sizes [] 20) ≡ exited [] 6
unfolding program function_f function_main computing
run = refl

counted : counts (meaning program default_sizes [] 20) ≡ record {
  turns = 3;
  work = 76;
  accesses = writes 0x10000000 4
      ∷ writes 0x10000010 4 ∷ reads 0x10000000 4 ∷ reads 0x10000010 4 ∷ writes 0x10000000 4 ∷ writes 0x10000010 4 ∷
      reads 0x10000000 4 ∷ reads 0x10000010 4 ∷ [];
}
unfolding program function_f function_main computing
counted = refl

valid : is_valid_program program ≡ true
unfolding program function_f function_main computing
valid = refl
