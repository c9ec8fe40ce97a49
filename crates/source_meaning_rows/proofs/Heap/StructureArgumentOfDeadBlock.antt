-- The same of a block that was freed.
-- The text is rows/structure_argument_of_dead_block.c, its tree by rows/trees.py.
--     struct s{int a[4];};int f(struct s x){return x.a[3];}int main(void){struct s*p=malloc(16);free(p);
--     return f(
--     *p);}
use Rattle.c_tree.specs.Programs.{Function, Program}
use Rattle.c_tree.specs.Statements.{expression_statement, declaration, return}
use Rattle.c_tree.specs.Tree.{automatic}
use Rattle.c_tree.specs.ValidProgram.{is_valid_program}
use Rattle.c_tree.specs.declared.c_type.TypeWord.TheVariants.{Takes, Gives, Integer as IntegerWord}
use Rattle.c_tree.specs.declared.c_type.TypeWord.TheVariants.{Structure as StructureWord}
use Rattle.c_tree.specs.declared.expression.Kind.TheVariants.{Void, Structure, Array}
use Rattle.c_tree.specs.declared.expression.Routine.TheVariants.{Malloc, Free}
use Rattle.obj_memory.specs.declared.int_type.IntType.TheVariants.{Int, UnsignedLong}
use Rattle.sb_base.specs.Budgets.{default_sizes}
use Rattle.source_meaning.specs.Meaning.{meaning}
use Rattle.source_meaning_rows.proofs.Samples.{int, pointer, integer_kind, number, plain, decay, convert, call, library}
use Rattle.source_meaning_rows.proofs.Samples.{read, lvalue, deref, index, member, with_value, plain_variable}
use Rattle.source_meaning_rows.proofs.Samples.{object_variable, function_type, defined, program_with, computing, seen}
use Rattle.source_meaning_rows.proofs.Samples.{stopped}
use Rattle.std.proofs.Common.{◌∷◌, [], Some, ◌≡◌, refl, true}
use Rattle.std.specs.Prelude.{codes}

function_f : Function
function_f = defined 1 0 (object_variable (Structure 16) ∷ []) [] 280
    (return (Some (read (index 1 int (decay (member 1 (Array 16) 0 (lvalue 1 (Structure 16) (automatic 0)))) (number 1
    3))))
    ∷ [])

function_main : Function
function_main = defined 1 1 [] (plain_variable pointer ∷ []) 288
    (declaration (with_value 0 (library 1 pointer Malloc (convert (integer_kind UnsignedLong) (number 1 16) ∷ [])) ∷
    [])
    ∷ expression_statement (library 1 Void Free (plain 1 pointer 0 ∷ []))
    ∷ return (Some (call 2 int 0 (read (deref 3 (Structure 16) (plain 3 pointer 0)) ∷ [])))
    ∷ [])

program : Program
program = program_with
    (Some (record { size = 16; alignment = 4 })
    ∷ [])
    []
    (function_type (Takes ∷ StructureWord 0 ∷ Gives ∷ IntegerWord Int ∷ []) ((Structure 16) ∷ []) int
    ∷ function_type (Gives ∷ IntegerWord Int ∷ []) ([]) int
    ∷ [])
    (function_f ∷ function_main ∷ [])
    1

run : seen (meaning program default_sizes [] 20) ≡ stopped [] (codes "sbcets: temporal violation at line 3\n") 121
unfolding program function_f function_main computing
run = refl

valid : is_valid_program program ≡ true
unfolding program function_f function_main computing
valid = refl
