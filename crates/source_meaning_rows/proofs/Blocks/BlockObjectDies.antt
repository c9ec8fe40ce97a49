-- An object dies where its block is left (C99 6.2.4 paragraph 5): the pointer to it reads it inside, and not behind.
-- Work: the call
-- and the body 2, the plain variables 2, the block 1, x placed 5, its initializer 5, of which 4 bytes are zeroed, 5 for
-- each of
-- the two assignments and for the return, and the bytes of the report.
-- The text is rows/block_object_dies.c, its tree by rows/trees.py.
--     int main(void){int*p;int s;{int x=5;p=&x;s=*p;}return s+*p;}
use Rattle.c_tree.specs.Programs.{Function, Program}
use Rattle.c_tree.specs.Statements.{expression_statement, declaration, return}
use Rattle.c_tree.specs.Tree.{automatic}
use Rattle.c_tree.specs.ValidProgram.{is_valid_program}
use Rattle.c_tree.specs.declared.c_type.TypeWord.TheVariants.{Gives, Integer as IntegerWord}
use Rattle.obj_memory.specs.declared.int_type.IntType.TheVariants.{Int}
use Rattle.obj_memory.specs.declared.operator.BinaryOperator.TheVariants.{Add}
use Rattle.sb_base.specs.Budgets.{default_sizes}
use Rattle.source_meaning.specs.Meaning.{meaning}
use Rattle.source_meaning_rows.proofs.Samples.{int, pointer, number, plain, address, binary, set_plain, read, lvalue}
use Rattle.source_meaning_rows.proofs.Samples.{deref, content, part, with_parts, without_value, block_of}
use Rattle.source_meaning_rows.proofs.Samples.{plain_variable, object_variable, function_type, defined, program_of}
use Rattle.source_meaning_rows.proofs.Samples.{computing, seen, counts, stopped, reads, writes}
use Rattle.std.proofs.Common.{◌∷◌, [], Some, ◌≡◌, refl, true}
use Rattle.std.specs.Prelude.{codes}

function_main : Function
function_main = defined 1 0 [] (plain_variable pointer ∷ plain_variable int ∷ object_variable int ∷ []) 328
    (declaration (without_value 0 ∷ [])
    ∷ declaration (without_value 1 ∷ [])
    ∷ block_of 1 (declaration (with_parts 2 (part 0 (content (number 1 5)) ∷ []) ∷ [])
    ∷ expression_statement (set_plain 1 0 (address 1 (lvalue 1 int (automatic 2))))
    ∷ expression_statement (set_plain 1 1 (read (deref 1 int (plain 1 pointer 0))))
    ∷ [])
    ∷ return (Some (binary 1 Add (plain 1 int 1) (read (deref 1 int (plain 1 pointer 0)))))
    ∷ [])

program : Program
program = program_of
    []
    (function_type (Gives ∷ IntegerWord Int ∷ []) ([]) int
    ∷ [])
    (function_main ∷ [])
    0

run : seen (meaning program default_sizes [] 20) ≡ stopped [] (codes "sbcets: temporal violation at line 1\n") 121
unfolding program function_main computing
run = refl

counted : counts (meaning program default_sizes [] 20) ≡ record {
  turns = 1;
  work = 67;
  accesses = writes 0x10000000 4
      ∷ reads 0x10000000 4 ∷ [];
}
unfolding program function_main computing
counted = refl

valid : is_valid_program program ≡ true
unfolding program function_main computing
valid = refl
